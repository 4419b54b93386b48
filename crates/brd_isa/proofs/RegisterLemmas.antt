-- The name of each register is read as that register.
use Rattle.std.proofs.Common.{◌≡◌, ℕ, ◌<◌, ◌==◌, Bool, true, false, [], Option, Some, None, refl, ap, slice_index_or}
use Rattle.std.proofs.lemmas.Bool.{agree_below_at, eqb-true}
use Rattle.brd_isa.specs.Registers.{register_names, register_named}

abbrev is_just : Option ℕ → ℕ → Bool
is_just None r = false
is_just (Some n) r = n == r

just : (found : Option ℕ) (r : ℕ) → is_just found r ≡ true → found ≡ Some r
just None r e = absurd (cc)
just (Some n) r e = ap (λ k. Some k) (eqb-true n r e)

pub each : (r : ℕ) → r < 32 → register_named (slice_index_or register_names r []) ≡ Some r
unfolding register_named
each r below = just _ r (agree_below_at (λ k. is_just (register_named (slice_index_or register_names k [])) k) (λ k. true) 32 r refl below)
