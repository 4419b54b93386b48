-- What is left of a list of events that fails.
use Rattle.std.specs.Prelude.{◌≡◌, ◌⊎◌, ℕ, ◌+◌, ◌<◌, Bool, false, nat_lt, ◌||◌, ◌&&◌, if◌then◌else◌, List, [], ◌∷◌}
use Rattle.std.specs.Prelude.{◌++◌, length, take, drop}
use Rattle.brd_board.specs.declared.event.Event.{Event}
use Rattle.brd_board.specs.Board.{BoardState, after}
use Rattle.brd_explore.specs.declared.wanted.Wanted.{Wanted}
use Rattle.brd_explore.specs.Failures.{fails_now, is_at_rest, lacks, fails_fairly}

-- A list of events fails: the board after it shows a failure; or it is at rest, and shows one of a last board; or it
-- goes on to a fair end, if there is one, which fails. (Unlike a schedule within bounds, a list owes no raises, and may
-- end where more could come.)
unfoldable pub fails_after : Wanted → BoardState → Bool
fails_after wanted b =
    fails_now wanted b || (if is_at_rest b then lacks wanted b else (nat_lt 0 wanted.rounds && fails_fairly wanted b))

abbrev pub is_failing : Wanted → BoardState → List Event → Bool
is_failing wanted b events = fails_after wanted (after b events)

-- the events without those from one index up to before another one
abbrev pub without : List Event → ℕ → ℕ → List Event
without events from to = take from events ++ drop to events

-- some of the events of a list, in their order
abbrev pub IsPart : List Event → List Event → Type 0
IsPart [] all = Unit {0}
IsPart (one ∷ part) [] = ⊥
IsPart (one ∷ part) (other ∷ all) = ((one ≡ other) × IsPart part all) ⊎ IsPart (one ∷ part) all

-- without any one of the events the list doesn't fail
abbrev pub IsLeast : Wanted → BoardState → List Event → Type 0
IsLeast wanted b events = (k : ℕ) → k < length events → is_failing wanted b (without events k (k + 1)) ≡ false
