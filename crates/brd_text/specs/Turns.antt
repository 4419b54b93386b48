-- A step that is repeated until it has a result or a fault.
use Rattle.std.specs.Prelude.{ℕ, zero, suc, Bool, if◌then◌else◌, Result, Ok, Err}
use Rattle.brd_text.specs.Faults.{◌>>=◌}

-- what a turn comes to: the state of the next one, or the result
pub data Flow (S R : Type 0) : Type 0 where
  More : S → Flow S R
  Done : R → Flow S R

abbrev pub followed : {F S R : Type 0} → (S → Result R F) → Flow S R → Result R F
followed again (More s) = again s
followed again (Done r) = Ok r

-- The step, as often as it asks for more: at most n times, and `spent` where these are used up.
unfoldable pub repeated : {F S R : Type 0} → F → (S → Result (Flow S R) F) → ℕ → S → Result R F
repeated spent step zero s = Err spent
repeated spent step (suc n) s = step s >>= followed (repeated spent step n)

-- another turn from s, or the result r
abbrev pub flow_of : {S R : Type 0} → Bool → S → R → Flow S R
flow_of more s r = if more then More s else Done r
