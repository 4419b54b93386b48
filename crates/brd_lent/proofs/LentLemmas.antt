-- What is known once a lent step was tried.
use Rattle.std.proofs.Common.{◌≡◌, ℕ, ◌+◌, ◌-◌, ◌/◌, ◌%◌, Bool, true, false, ◌&&◌, if◌then◌else◌, Option, None, Some, refl, sym, ap, ◌∙◌, replicate, arith}
use Rattle.std.specs.Prelude.{◌==◌, nat_le, nat_lt, slice_index}
use Rattle.std.proofs.lemmas.Bool.Decides.{nat_tests}
use Rattle.brd_exec.specs.State.{State}
use Rattle.brd_exec.specs.Lent.{DoesLent, word_in, lent_step, lent_word}

pub was-done : (o : Option State) (s : State) (result : Bool) (new : State) → result ≡ true → DoesLent o s result new → o ≡ Some new
was-done None s result new is does = absurd (cc)
was-done (Some after) s result new is does = ap Some (sym does.1)

pub was-none : (o : Option State) (s : State) (result : Bool) (new : State) → result ≡ false → DoesLent o s result new → (o ≡ None) × (new ≡ s)
was-none None s result new is does = (refl, does.1)
was-none (Some after) s result new is does = absurd (cc)

-- a window of one word alone has it where it begins
word-found : (pc word : ℕ) → pc % 4 ≡ 0 → word_in (replicate 64 word) pc pc ≡ Some word
word-found pc word aligned =
    let test : (pc % 4 == 0 && nat_le pc pc && nat_lt pc (pc + 256) && (pc - pc) % 4 == 0) ≡ true = grind (arith, nat_tests, aligned) in
    let none : pc - pc ≡ 0 = omega arith in
    ap (λ t. if t then Some (slice_index (replicate 64 word) ((pc - pc) / 4)) else None) test
    ∙ ap (λ n. Some (slice_index (replicate 64 word) (n / 4))) none

pub lent-one : (s : State) (word : ℕ) → s.pc % 4 ≡ 0 → lent_step s (replicate 64 word) s.pc ≡ lent_word s (Some word)
unfolding lent_step
lent-one s word aligned = ap (lent_word s) (word-found s.pc word aligned)
