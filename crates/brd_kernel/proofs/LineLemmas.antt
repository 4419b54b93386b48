-- Interrupt lines.
use Rattle.std.proofs.Common.{◌≡◌, ◌≤◌, ℕ, suc, ◌+◌, List, [], ◌∷◌, refl, arith}
use Rattle.std.specs.Prelude.{Bool, true, false, None}
use Rattle.std.proofs.lemmas.Bool.{false≢true}
use Rattle.std.proofs.lemmas.Bool.Decides.{nat_tests}
use Rattle.brd_kernel.specs.declared.processor.InterruptLine.{InterruptLine}
use Rattle.brd_kernel.specs.Kernel.{pending_from, line_count}
use Rattle.brd_kernel.specs.Always.{AreQuiet}

-- where no line is pending, none is for a processor
pub none_pending : (cpu n : ℕ) (lines : List InterruptLine) → AreQuiet lines → pending_from cpu n lines ≡ None
none_pending cpu n [] quiet = refl
none_pending cpu n (line ∷ lines) quiet =
    let here : line.pending ≡ false = quiet 0 line (omega arith) in
    grind (arith, nat_tests, here, none_pending cpu (n + 1) lines (λ k d below. quiet (suc k) d (omega (arith, below))))

-- how many lines there are with the profile, and at most

pub many_lines : (standard : Bool) → standard ≡ true → line_count standard ≡ 160
many_lines true is = refl
many_lines false is = absurd (false≢true is)

pub few_lines : (standard : Bool) → line_count standard ≤ 160
few_lines true = omega arith
few_lines false = omega arith
