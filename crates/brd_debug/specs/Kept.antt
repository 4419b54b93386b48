-- What a debugger keeps of the boards that a journal makes of its boot.
use Rattle.std.specs.Prelude.{◌≡◌, ◌⊎◌, ℕ, zero, suc, ◌+◌, ◌-◌, ◌*◌, ◌%◌, ◌≤◌, ◌==◌, ◌&&◌, nat_lt, if◌then◌else◌, List}
use Rattle.std.specs.Prelude.{[], ◌∷◌, ◌++◌, length, map, filter, All}
use Rattle.brd_board.specs.declared.event.Event.{Event}
use Rattle.brd_board.specs.Board.{BoardState}
use Rattle.brd_board.specs.Snapshot.{restored, Fits}
use Rattle.brd_journal.specs.Playing.{board_at, IsStill}
use Rattle.brd_debug.specs.declared.snapshots.Kept.{Kept}

-- a snapshot is that of the board after the first n events
pub record IsKept (boot : BoardState) (events : List Event) (kept : Kept) : Type 0 where
  pub fits : Fits boot kept.snapshot
  pub board : restored boot kept.snapshot ≡ board_at boot events kept.at
  pub within : kept.at ≤ length events

abbrev pub AreKept : BoardState → List Event → List Kept → Type 0
AreKept boot events kept = All (IsKept boot events) kept

-- their pages lie inside the boot's RAM
abbrev pub DoFit : BoardState → List Kept → Type 0
DoFit boot kept = All (λ one. Fits boot one.snapshot) kept

-- no snapshot lies after this position and up to the other one
abbrev pub IsLastUpTo : List Kept → ℕ → ℕ → Type 0
IsLastUpTo kept to last = All (λ one. one.at ≤ to → one.at ≤ last) kept

-- Snapshots, and how many events they are apart at least.
pub record SnapshotsState : Type 0 where
  pub interval : ℕ
  pub kept : List Kept

-- the same without what the snapshots show
pub record Plan : Type 0 where
  pub interval : ℕ
  pub positions : List ℕ

abbrev pub plan_of : SnapshotsState → Plan
plan_of s = record { interval = s.interval; positions = map (λ kept. kept.at) s.kept }

-- the last position, 0 where there is none
abbrev pub last_of : List ℕ → ℕ
last_of [] = 0
last_of (position ∷ []) = position
last_of (position ∷ next ∷ positions) = last_of (next ∷ positions)

-- how many events apart they are at first (own choice)
abbrev pub first_interval : ℕ
first_interval = 4096

-- how many snapshots are kept at most (own choice)
abbrev pub most_kept : ℕ
most_kept = 1024

-- A snapshot is taken at a multiple of the interval after all others. Where there would be more than 1,024, the
-- interval doubles instead, and those that are no multiples of it any more are given up (own choice). Where none was
-- left out, kept are then the first 1,024 multiples, so the one that there is no room for is the next one, and no
-- multiple of the doubled interval.
abbrev pub noted : Plan → ℕ → Plan
noted plan at =
    if nat_lt (last_of plan.positions) at && (at % plan.interval == 0)
    then (if nat_lt (length plan.positions) most_kept then record plan { positions = plan.positions ++ at ∷ [] }
    else record {
      interval = plan.interval * 2;
      positions = filter (λ position. position % (plan.interval * 2) == 0) plan.positions;
    })
    else plan

-- the next multiple of an interval after a position
abbrev pub next_multiple : ℕ → ℕ → ℕ
next_multiple interval at = at - at % interval + interval

-- What becomes of the plan while a board plays n events from a position on: a snapshot is noted at each position
-- that is left. It may be left out where the event of the position does nothing.
abbrev pub IsNoted : BoardState → List Event → Plan → ℕ → ℕ → Plan → Type 0
IsNoted boot events plan at zero new = new ≡ plan
IsNoted boot events plan at (suc n) new =
    IsNoted boot events (noted plan at) (suc at) n new
    ⊎ (IsStill boot events at × IsNoted boot events plan (suc at) n new)

-- The same, while a board plays up to a position, from the board that is shown at another one or from a snapshot,
-- whichever is nearest.
abbrev pub IsNotedUpTo : BoardState → List Event → SnapshotsState → ℕ → ℕ → Plan → Type 0
IsNotedUpTo boot events old shown to new =
    (from : ℕ) × (from ≤ to) × IsLastUpTo old.kept to from × (shown ≤ to → shown ≤ from)
    × IsNoted boot events (plan_of old) from (to - from) new
