-- What goes on in the lanes of a timeline, and the slices that say so. A slice from one position to another is of what
-- goes on in its lane after so many events, and after more, as long as that stays.
use Rattle.std.specs.Prelude.{◌≡◌, ◌≢◌, ℕ, suc, ◌<◌, ◌≤◌, ◌==◌, Bool, if◌then◌else◌, List, [], ◌∷◌, ◌++◌, map, filter}
use Rattle.std.specs.Prelude.{slice_get, slice_index_or, All, codes, Option, None, Some, is_some}
use Rattle.std.specs.List.{range_with_len}
use Rattle.brd_tasks.specs.declared.status.TaskState.{TaskState}
use Rattle.brd_tasks.specs.declared.status.WaitReason.{WaitReason}
use Rattle.brd_kernel.specs.declared.processor.Standing.{Standing}
use Rattle.brd_board.specs.declared.event.Event.{Event}
use Rattle.brd_board.specs.Board.{BoardState}
use Rattle.brd_journal.specs.Playing.{board_at}
use Rattle.brd_timeline.specs.declared.timeline.Group.{Group}
use Rattle.brd_timeline.specs.declared.timeline.Kind.{Kind}
use Rattle.brd_timeline.specs.declared.timeline.Slice.{Slice}
use Rattle.brd_timeline.specs.declared.timeline.Timeline.{Timeline}
use Rattle.brd_recording.specs.declared.recording.Doing.{Doing}
use Rattle.brd_names.specs.Lines.{named_text, called_text}
use Rattle.brd_recording.specs.Lanes.{Title, titled, titles_of}
use Rattle.brd_names.specs.Standings.{tasks_of, standings_of, runs_in}
use Rattle.brd_seen.specs.Conditions.{Condition, condition_of}
use Rattle.brd_names.specs.Waits.{wait_text}

-- ---- what goes on

-- in the lanes of a board that is off
abbrev pub off_doing : Doing
off_doing = record { kind = Kind.Off; number = 0; waiting = None }

-- on a processor that is on: whose it is
abbrev pub standing_doing : Option Standing → Doing
standing_doing (Some (Standing.Task id)) = record { kind = Kind.Task; number = id; waiting = None }
standing_doing (Some (Standing.Handler line)) = record { kind = Kind.Handler; number = line; waiting = None }
standing_doing (Some Standing.Stopped) = record { kind = Kind.Stopped; number = 0; waiting = None }
standing_doing (Some Standing.Idle) = record { kind = Kind.Idle; number = 0; waiting = None }
standing_doing None = record { kind = Kind.Idle; number = 0; waiting = None }

-- with a task: its state, where a ready one may be running, and what it waits for
abbrev pub state_kind : Bool → TaskState → Kind
state_kind runs TaskState.Dormant = Kind.Dormant
state_kind runs TaskState.Ready = if runs then Kind.Running else Kind.Ready
state_kind runs TaskState.Waiting = Kind.Waiting
state_kind runs TaskState.Suspended = Kind.Suspended
state_kind runs TaskState.WaitingSuspended = Kind.WaitingSuspended

abbrev pub condition_doing : Bool → TaskState → Option WaitReason → Doing
condition_doing runs state waiting = record { kind = state_kind runs state; number = 0; waiting = waiting }

-- with a board's processor and with a task, by whether the board is off, what its processors do, and the task's
-- condition
abbrev pub cpu_doing : Bool → List (Option Standing) → ℕ → Doing
cpu_doing off standings cpu = if off then off_doing else standing_doing (slice_index_or standings cpu None)

abbrev pub task_doing : Bool → Bool → Option Condition → Doing
task_doing off runs None = off_doing
task_doing off runs (Some it) = if off then off_doing else condition_doing runs it.state it.waiting

-- ---- lanes

-- a lane is about a processor or about a task
pub data Subject : Type 0 where
  Cpu : ℕ → Subject
  OfTask : ℕ → Subject

abbrev pub doing_of : BoardState → Subject → Doing
doing_of board (Cpu cpu) = cpu_doing board.kernel.off (standings_of board) cpu
doing_of board (OfTask id) = task_doing board.kernel.off (runs_in (standings_of board) id) (condition_of board id)

-- its title: what it is called, and in which group it is
abbrev pub cpu_title : ℕ → Title
cpu_title cpu = titled (named_text (codes "cpu") cpu) Group.Processor

abbrev pub task_title : ℕ → Title
task_title id = titled (named_text (codes "task") id) Group.Task

abbrev pub title_of : Subject → Title
title_of (Cpu cpu) = cpu_title cpu
title_of (OfTask id) = task_title id

-- the processors that are there, and then the tasks, by their numbers
abbrev pub is_there : List (Option Standing) → ℕ → Bool
is_there standings cpu = is_some (slice_index_or standings cpu None)

unfoldable pub cpus_in : List (Option Standing) → List ℕ
cpus_in standings = filter (is_there standings) (range_with_len 1 8)

abbrev pub subjects_by : List ℕ → List ℕ → List Subject
subjects_by cpus tasks = map Cpu cpus ++ map OfTask tasks

abbrev pub subjects_of : BoardState → List Subject
subjects_of board = subjects_by (cpus_in (standings_of board)) (tasks_of board)

-- ---- slices

-- what a slice is called: of a task that waits what for; else whose the processor is; else nothing
abbrev pub owner_text : Kind → ℕ → List ℕ
owner_text Kind.Task number = named_text (codes "task") number
owner_text Kind.Handler number = called_text (codes "handler") number
owner_text _ number = []

abbrev pub label_by : Doing → Option WaitReason → List ℕ
label_by doing (Some reason) = wait_text reason None
label_by doing None = owner_text doing.kind doing.number

abbrev pub label_of : Doing → List ℕ
label_of doing = label_by doing doing.waiting

-- It tells what goes on with its subject from its first position up to its last one, where that stays so; and before
-- its first position, unless the timeline begins there, something else went on.
pub record IsSlice (boot : BoardState) (events : List Event) (start : ℕ) (subject : Subject) (it : Slice) : Type 0 where
  pub doing : Doing
  pub some : it.from < it.to
  pub stays : (p : ℕ) → it.from ≤ p → p < it.to → doing_of (board_at boot events p) subject ≡ doing
  pub begins : (p : ℕ) → start ≤ p → suc p ≡ it.from → doing_of (board_at boot events p) subject ≢ doing
  pub kind : it.kind ≡ doing.kind
  pub label : it.label.items ≡ label_of doing

-- slices one after the other, from one position to another, without a gap
abbrev pub Follow : ℕ → List Slice → ℕ → Type 0
Follow from [] to = from ≡ to
Follow from (it ∷ more) to = (it.from ≡ from) × Follow it.to more to

-- the slices of a lane
unfoldable pub slices_in : ℕ → List Slice → List Slice
slices_in lane slices = filter (λ (it : Slice). it.lane == lane) slices

pub record AreOf (boot : BoardState) (events : List Event) (start to : ℕ) (subject : Subject) (slices : List Slice)
    : Type 0 where
  pub each : All (IsSlice boot events start subject) slices
  pub follow : Follow start slices to

-- A timeline from one position to another: its lanes are the processors and the tasks, each by its name and in its
-- group, and the slices of each lane are of its subject.
pub record AreSlices (boot : BoardState) (events : List Event) (from to : ℕ) (it : Timeline) : Type 0 where
  pub from_is : it.from ≡ from
  pub to_is : it.to ≡ to
  pub titles : titles_of it.lanes.items ≡ map title_of (subjects_of (board_at boot events from))
  pub slices :
      (lane : ℕ) (subject : Subject) → slice_get (subjects_of (board_at boot events from)) lane ≡ Some subject
      → AreOf boot events from to subject (slices_in lane it.slices.items)
