-- What the history of a board says of how it stands: since which event each task is in its state, which event has
-- turned the board off, and the last exception of each processor.
use Rattle.std.specs.Prelude.{◌≡◌, ◌≢◌, ◌⊎◌, ℕ, suc, ◌<◌, ◌≤◌, true, false, List, All, length, slice_get, slice_set}
use Rattle.std.specs.Prelude.{slice_index_or, unwrap_or, if◌then◌else◌, Option, None, Some}
use Rattle.brd_kernel.specs.declared.processor.Standing.{Standing}
use Rattle.brd_board.specs.declared.event.Event.{Event}
use Rattle.brd_board.specs.declared.event.Event.TheVariants.{Step}
use Rattle.brd_board.specs.declared.event.Report.{Report}
use Rattle.brd_board.specs.declared.event.Report.TheVariants as report
use Rattle.brd_board.specs.Board.{BoardState, standing_of, happens}
use Rattle.brd_journal.specs.Playing.{board_at}
use Rattle.brd_seen.specs.declared.tasks.TaskSeen.{TaskSeen}
use Rattle.brd_trace.specs.declared.notes.LastFault.{LastFault}
use Rattle.brd_trace.specs.declared.notes.Notes.{Notes}
use Rattle.brd_seen.specs.Conditions.{condition_of, FollowsTask}

-- ---- since when a task is in its state

-- from a position on, before another one, no event changes the condition of a task
abbrev pub Stays : BoardState → List Event → ℕ → ℕ → ℕ → Type 0
Stays boot events id from to =
    (p : ℕ) → from ≤ p → p < to
    → condition_of (board_at boot events (suc p)) id ≡ condition_of (board_at boot events p) id

-- Before the position after n events: the last event that changed the condition of a task is that of this position;
-- none has, where none is named.
abbrev pub IsSince : BoardState → List Event → ℕ → ℕ → Option ℕ → Type 0
IsSince boot events n id None = Stays boot events id 0 n
IsSince boot events n id (Some p) =
    (p < n) × (condition_of (board_at boot events (suc p)) id ≢ condition_of (board_at boot events p) id)
    × Stays boot events id (suc p) n

-- ---- when the board was turned off

-- The board is on after n events; or the event of this position has turned it off. (Or it was off when it began, as no
-- board is that was booted.)
abbrev pub IsOff : BoardState → List Event → ℕ → Option ℕ → Type 0
IsOff boot events n None = (board_at boot events n).kernel.off ≡ false
IsOff boot events n (Some p) =
    ((p < n) × ((board_at boot events p).kernel.off ≡ false) × ((board_at boot events (suc p)).kernel.off ≡ true))
    ⊎ (boot.kernel.off ≡ true)

-- ---- exceptions

-- the event of a position is a step of a processor that reports an exception of an instruction at an address
pub record RaisesAt (boot : BoardState) (events : List Event) (p cpu address : ℕ) : Type 0 where
  pub step : slice_get events p ≡ Some (Step cpu)
  pub report : (happens (board_at boot events p) (Step cpu)).report ≡ report.Faulted address

-- from a position on, before another one, no event does
abbrev pub RaisesNone : BoardState → List Event → ℕ → ℕ → ℕ → Type 0
RaisesNone boot events cpu from to =
    (p address : ℕ) → from ≤ p → p < to → RaisesAt boot events p cpu address → ⊥

-- it was raised there, by whoever executed then, and none has come after it
pub record IsLast (boot : BoardState) (events : List Event) (n cpu : ℕ) (it : LastFault) : Type 0 where
  pub before : it.position < n
  pub raised : RaisesAt boot events it.position cpu it.place
  pub who : it.who ≡ standing_of (board_at boot events it.position) cpu
  pub after : RaisesNone boot events cpu (suc it.position) n

-- the last exception of a processor before the position after n events
abbrev pub IsLastFault : BoardState → List Event → ℕ → ℕ → Option LastFault → Type 0
IsLastFault boot events n cpu None = RaisesNone boot events cpu 0 n
IsLastFault boot events n cpu (Some it) = IsLast boot events n cpu it

-- ---- what is known of all that

pub record IsDated (boot : BoardState) (events : List Event) (n : ℕ) (notes : Notes) : Type 0 where
  pub since : All (λ (it : TaskSeen). IsSince boot events n it.id it.since) notes.tasks.items
  pub off : IsOff boot events n notes.off
  pub places : length notes.faults.items ≡ 9
  pub faults :
      (cpu : ℕ) → 1 ≤ cpu → cpu ≤ 8 → IsLastFault boot events n cpu (slice_index_or notes.faults.items cpu None)

-- ---- one event

-- each task is followed, and when the board is turned off
pub record Follows (board : BoardState) (position : ℕ) (old new : Notes) : Type 0 where
  pub as_many : length new.tasks.items ≡ length old.tasks.items
  pub tasks :
      (i : ℕ) (d : TaskSeen) → i < length old.tasks.items
      → FollowsTask position (slice_index_or old.tasks.items i d) (slice_index_or new.tasks.items i d)
  pub off : new.off ≡ (if board.kernel.off then Some (unwrap_or old.off position) else None)
  pub places : length new.faults.items ≡ length old.faults.items

-- an exception is kept as its processor's last one
pub record KeepsFault (position address cpu : ℕ) (who : Option Standing) (old new : List (Option LastFault))
    : Type 0 where
  pub it : LastFault
  pub position_is : it.position ≡ position
  pub place : it.place ≡ address
  pub who_is : it.who ≡ who
  pub new_is : new ≡ slice_set old cpu (Some it)

-- if an event reports one
pub record KeepsFaults (told : Report) (position cpu : ℕ) (who : Option Standing) (old new : List (Option LastFault))
    : Type 0 where
  pub kept : (address : ℕ) → told ≡ report.Faulted address → KeepsFault position address cpu who old new
  pub same : ((address : ℕ) → told ≡ report.Faulted address → ⊥) → new ≡ old
