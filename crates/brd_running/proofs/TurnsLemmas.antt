-- The steps of one processor more.
use Rattle.std.proofs.Common.{◌≡◌, ℕ, zero, suc, ◌+◌, ◌-◌, ◌^◌, ◌≤◌, min, refl, ap, ◌∙◌, arith}
use Rattle.std.specs.Prelude.{unwrap_or}
use Rattle.brd_threads.specs.Station.{StationState, steps_of}
use Rattle.brd_running.specs.Turns.{steps_to}

pub no_steps : (station : StationState) → 0 ≡ steps_to station 0
unfolding steps_to
no_steps station = refl

pub steps_next : (station : StationState) (cpu steps next : ℕ) → 1 ≤ cpu → steps ≡ steps_to station (cpu - 1)
    → next ≡ min (steps + unwrap_or (steps_of station cpu) 0) (2 ^ 64 - 1) → next ≡ steps_to station (cpu + 1 - 1)
unfolding steps_to
steps_next station zero steps next some same is = absurd (omega arith)
steps_next station (suc n) steps next some same is =
    let one : suc n - 1 ≡ n = omega arith in
    let two : suc n + 1 - 1 ≡ suc n = omega arith in
    let before : steps ≡ steps_to station n = same ∙ ap (steps_to station) one in
    rw two (is ∙ ap (λ (m : ℕ). min (m + unwrap_or (steps_of station (suc n)) 0) (2 ^ 64 - 1)) before)
