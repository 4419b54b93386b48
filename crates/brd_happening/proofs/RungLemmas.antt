-- Whether a time handler is due at the next tick, by the tick at which it is due.
use Rattle.std.proofs.Common.{◌≡◌, ℕ, ◌+◌, ◌-◌, refl, arith}
use Rattle.std.specs.Prelude.{Bool, false, nat_le, Option, None, Some}
use Rattle.std.proofs.lemmas.Bool.Decides.{nat_tests}
use Rattle.brd_timers.specs.declared.timer.Timer.{Timer}
use Rattle.brd_timers.specs.Timers.{has_come, is_due_in}
use Rattle.brd_kernel.specs.Kernel.{due_in}

abbrev pub comes_by : ℕ → Option ℕ → Bool
comes_by now None = false
comes_by now (Some due) = nat_le (due - 1) now

comes_next : (due : Option ℕ) (now : ℕ) → comes_by now due ≡ has_come (now + 1) due
comes_next None now = refl
comes_next (Some due) now = grind (arith, nat_tests)

pub due_by : (timer : Option Timer) (now : ℕ) → comes_by now (due_in timer) ≡ is_due_in (now + 1) timer
due_by None now = refl
due_by (Some timer) now = comes_next timer.due now
