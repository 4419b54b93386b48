-- How the timeline of a run is made: it begins at a position with a lane for each subject, follows what goes on in each
-- lane from one position to the next, and ends at a position. What it has up to a position says what went on up to
-- there.
use Rattle.std.specs.Prelude.{◌≡◌, ◌≢◌, ◌⊎◌, ℕ, suc, ◌<◌, ◌≤◌, Bool, if◌then◌else◌, List, [], ◌∷◌, ◌++◌, length, map}
use Rattle.std.specs.Prelude.{slice_get, slice_index_or, ⊤, Option, None, Some}
use Rattle.brd_kernel.specs.declared.processor.Standing.{Standing}
use Rattle.brd_board.specs.declared.event.Event.{Event}
use Rattle.brd_board.specs.Board.{BoardState}
use Rattle.brd_journal.specs.Playing.{board_at}
use Rattle.brd_timeline.specs.declared.timeline.Slice.{Slice}
use Rattle.brd_timeline.specs.declared.timeline.Timeline.{Timeline}
use Rattle.brd_seen.specs.declared.tasks.TaskSeen.{TaskSeen}
use Rattle.brd_recording.specs.declared.recording.Doing.{Doing}
use Rattle.brd_recording.specs.declared.recording.Open.{Open}
use Rattle.brd_recording.specs.Lanes.{Title, Lanes, titles_of}
use Rattle.brd_names.specs.Standings.{tasks_of, standings_of, runs_in}
use Rattle.brd_recording.specs.Slices.{off_doing, condition_doing, cpu_doing, doing_of, cpu_title, task_title, title_of}
use Rattle.brd_recording.specs.Slices.{cpus_in, subjects_of, label_of, slices_in, Subject, AreOf, AreSlices}

-- ---- how it stands after so many events

-- what goes on with a subject after the first n events has gone on from that position on
pub record IsOpen (boot : BoardState) (events : List Event) (start n : ℕ) (subject : Subject) (it : Open) : Type 0 where
  pub least : start ≤ it.from
  pub most : it.from ≤ n
  pub stays : (p : ℕ) → it.from ≤ p → p ≤ n → doing_of (board_at boot events p) subject ≡ it.doing
  pub begins : (p : ℕ) → start ≤ p → suc p ≡ it.from → doing_of (board_at boot events p) subject ≢ it.doing

-- a lane: what goes on, and the slices before that
pub record IsLane (boot : BoardState) (events : List Event) (start n : ℕ) (subject : Subject) (current : Open)
    (slices : List Slice) : Type 0 where
  pub is_open : IsOpen boot events start n subject current
  pub before : AreOf boot events start current.from subject slices

pub record AreLanes (boot : BoardState) (events : List Event) (n : ℕ) (it : Lanes) : Type 0 where
  pub cpus : it.cpus ≡ cpus_in (standings_of (board_at boot events it.from))
  pub tasks : tasks_of (board_at boot events n) ≡ tasks_of (board_at boot events it.from)
  pub titles : it.titles ≡ map title_of (subjects_of (board_at boot events it.from))
  pub as_many : length it.current ≡ length (subjects_of (board_at boot events it.from))
  pub lanes :
      (lane : ℕ) (subject : Subject) (d : Open)
      → slice_get (subjects_of (board_at boot events it.from)) lane ≡ Some subject
      → IsLane boot events it.from n subject (slice_index_or it.current lane d) (slices_in lane it.slices)

-- where one is made
abbrev pub IsRecorded : BoardState → List Event → ℕ → Option Lanes → Type 0
IsRecorded boot events n None = ⊤
IsRecorded boot events n (Some it) = AreLanes boot events n it

-- a timeline has been made, from one position to another, and its slices are those of the boards between
abbrev pub IsTimeline : BoardState → List Event → ℕ → ℕ → Option Timeline → Type 0
IsTimeline boot events from to None = ⊥
IsTimeline boot events from to (Some it) = AreSlices boot events from to it

-- ---- how one is made

-- what goes on with processors and tasks as they are known
abbrev pub seen_doing : Bool → List (Option Standing) → TaskSeen → Doing
seen_doing off standings it = if off then off_doing else condition_doing (runs_in standings it.id) it.state it.waiting

abbrev pub doings_in : Bool → List (Option Standing) → List TaskSeen → List ℕ → List Doing
doings_in off standings tasks cpus = map (cpu_doing off standings) cpus ++ map (seen_doing off standings) tasks

-- it begins: all lanes are there, and nothing has gone on before
abbrev pub open_at : ℕ → Doing → Open
open_at from doing = record { doing = doing; from = from }

-- a lane of a processor and one of a task, as they are known
abbrev pub cpu_open : Bool → List (Option Standing) → ℕ → ℕ → Open
cpu_open off standings from cpu = open_at from (cpu_doing off standings cpu)

abbrev pub task_open : Bool → List (Option Standing) → ℕ → TaskSeen → Open
task_open off standings from it = open_at from (seen_doing off standings it)

-- the title of a lane of a task that is known
abbrev pub seen_title : TaskSeen → Title
seen_title it = task_title it.id

pub record Begins (off : Bool) (standings : List (Option Standing)) (tasks : List TaskSeen) (from : ℕ) (it : Lanes)
    : Type 0 where
  pub from_is : it.from ≡ from
  pub cpus : it.cpus ≡ cpus_in standings
  pub titles : it.titles ≡ map cpu_title it.cpus ++ map seen_title tasks
  pub current : it.current ≡ map (cpu_open off standings from) it.cpus ++ map (task_open off standings from) tasks
  pub none : it.slices ≡ []

-- what went on in a lane becomes a slice up to a position, if it did so for some time
pub record BecomesSlice (current : Open) (to : ℕ) (it : Slice) : Type 0 where
  pub from : it.from ≡ current.from
  pub to_is : it.to ≡ to
  pub kind : it.kind ≡ current.doing.kind
  pub label : it.label.items ≡ label_of current.doing

pub record AddsSlice (current : Open) (to : ℕ) (old new : List Slice) : Type 0 where
  pub slice : Slice
  pub becomes : BecomesSlice current to slice
  pub new_is : new ≡ old ++ slice ∷ []

pub record Closes (current : Open) (to : ℕ) (old new : List Slice) : Type 0 where
  pub some : current.from < to → AddsSlice current to old new
  pub none : to ≤ current.from → new ≡ old

-- from a position on this goes on in a lane: what did before; or something else
pub record GoesOn (doing : Doing) (old new : Open) (before after : List Slice) : Type 0 where
  pub doing_is : old.doing ≡ doing
  pub open_is : new ≡ old
  pub slices : after ≡ before

pub record Turns (at : ℕ) (doing : Doing) (old new : Open) (before after : List Slice) : Type 0 where
  pub apart : old.doing ≢ doing
  pub open_is : new ≡ open_at at doing
  pub slices : Closes old at before after

abbrev pub FollowsLane : ℕ → Doing → Open → Open → List Slice → List Slice → Type 0
FollowsLane at doing old new before after =
    GoesOn doing old new before after ⊎ Turns at doing old new before after

-- what doesn't change while a timeline is made
pub record SameLanes (old new : Lanes) : Type 0 where
  pub from : new.from ≡ old.from
  pub titles : new.titles ≡ old.titles
  pub cpus : new.cpus ≡ old.cpus
  pub as_many : length new.current ≡ length old.current

-- from a position on these go on, in the order of the lanes
pub record Sees (at : ℕ) (doings : List Doing) (old new : Lanes) : Type 0 where
  pub same : SameLanes old new
  pub each :
      (lane : ℕ) (d : Open) → lane < length old.current
      → FollowsLane at (slice_index_or doings lane off_doing) (slice_index_or old.current lane d)
      (slice_index_or new.current lane d) (slices_in lane old.slices) (slices_in lane new.slices)

-- it ends at a position
pub record Ends (to : ℕ) (old : Lanes) (it : Timeline) : Type 0 where
  pub from_is : it.from ≡ old.from
  pub to_is : it.to ≡ to
  pub titles : titles_of it.lanes.items ≡ old.titles
  pub each :
      (lane : ℕ) (d : Open) → lane < length old.current
      → Closes (slice_index_or old.current lane d) to (slices_in lane old.slices) (slices_in lane it.slices.items)

abbrev pub EndsIn : ℕ → Option Lanes → Option Timeline → Type 0
EndsIn to None made = made ≡ None
EndsIn to (Some old) None = ⊥
EndsIn to (Some old) (Some it) = Ends to old it
