-- How often the processors of a race took turns.
use Rattle.std.specs.Prelude.{ℕ, zero, suc, ◌+◌, ◌-◌, ◌/◌, ◌^◌, ◌&&◌, Bool, min, nat_le, nat_lt, unwrap_or}
use Rattle.brd_threads.specs.Station.{StationState, steps_of}

-- how many steps of the processors 1 to n the journal of a station has, up to the greatest number of 64 bits
unfoldable pub steps_to : StationState → ℕ → ℕ
steps_to station zero = 0
steps_to station (suc n) = min (steps_to station n + unwrap_or (steps_of station (suc n)) 0) (2 ^ 64 - 1)

-- Whether they hardly did: two or more, in 10,000 steps or more, with fewer than one run of the journal in 1,000 steps
-- (own choice).
abbrev pub are_few : ℕ → ℕ → ℕ → Bool
are_few processors steps runs = nat_le 2 processors && nat_le 10000 steps && nat_lt runs (steps / 1000)
