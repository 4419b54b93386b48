-- What a summary says of how a board stands after the events of a journal.
use Rattle.std.specs.Prelude.{◌≡◌, ◌⊎◌, ℕ, List, [], ◌++◌, codes, slice_index_or, take, Option, None, Some}
use Rattle.std.specs.Option.{option_map}
use Rattle.std.specs.List.{flat_map, range_with_len}
use Rattle.std.specs.Fmt.{decimal}
use Rattle.brd_tasks.specs.declared.status.TaskState.{TaskState}
use Rattle.brd_tasks.specs.declared.status.WaitReason.{WaitReason}
use Rattle.brd_tasks.specs.declared.task.TaskView.{TaskView}
use Rattle.brd_kernel.specs.declared.processor.Standing.{Standing}
use Rattle.brd_board.specs.declared.event.Event.{Event}
use Rattle.brd_board.specs.Board.{BoardState, task_of, standing_of, mutex_owner_of}
use Rattle.brd_board.specs.Runs.{without_context}
use Rattle.brd_journal.specs.Playing.{board_at}
use Rattle.brd_timeline.specs.Ends.{EndsWith}
use Rattle.brd_seen.specs.declared.tasks.TaskSeen.{TaskSeen}
use Rattle.brd_trace.specs.declared.notes.LastFault.{LastFault}
use Rattle.brd_trace.specs.declared.notes.Notes.{Notes}
use Rattle.brd_names.specs.declared.names.Names.{Names}
use Rattle.brd_names.specs.Lines.{named_text, who_text}
use Rattle.brd_names.specs.Addresses.{code_text}
use Rattle.brd_names.specs.Standings.{tasks_of, standing_text}
use Rattle.brd_trace.specs.Dated.{IsSince, IsOff, IsLastFault}
use Rattle.brd_verdicts.specs.Deadlock.{IsDeadlocked}
use Rattle.brd_verdicts.specs.Steps.{IsLastStep}
use Rattle.brd_verdicts.specs.Accounts.{accounts_of_run}
use Rattle.brd_summary.specs.Findings.{AreFindings}
use Rattle.brd_summary.specs.Texts.{AreTexts}
use Rattle.brd_names.specs.Waits.{state_text, wait_text}

-- ---- the first line

abbrev pub off_text : Option ℕ → List ℕ
off_text None = codes ": on"
off_text (Some position) = named_text (codes ": off since event") position

-- how many events there were, the tick, and which event turned the board off
abbrev pub end_text : ℕ → ℕ → Option ℕ → List ℕ
end_text events tick off =
    named_text (codes "after event") events ++ codes ", " ++ named_text (codes "tick") tick ++ off_text off
    ++ codes "\n"

pub record IsEnd (boot : BoardState) (events : List Event) (n : ℕ) (text : List ℕ) : Type 0 where
  pub off : Option ℕ
  pub is_off : IsOff boot events n off
  pub line : text ≡ end_text n (board_at boot events n).kernel.time.count off

-- ---- a processor

-- the line of its last exception: at which event, of whom, where, and in some words what
abbrev pub fault_front : LastFault → List ℕ
fault_front it =
    codes "  last exception at event " ++ decimal it.position ++ codes ", of " ++ who_text it.who

abbrev pub fault_behind : Names → LastFault → List ℕ
fault_behind names it = codes " at " ++ code_text names it.place ++ codes ": " ++ it.what.items ++ codes "\n"

abbrev pub fault_text : Names → LastFault → List ℕ
fault_text names it = fault_front it ++ fault_behind names it

abbrev pub last_text : Names → Option LastFault → List ℕ
last_text names None = []
last_text names (Some it) = fault_text names it

-- ---- what is said of a processor

abbrev pub step_text : Option ℕ → List ℕ
step_text None = codes ", no step"
step_text (Some position) = named_text (codes ", last step at event") position

-- what it does, its last step, and its last exception
abbrev pub processor_text : Names → ℕ → Option Standing → Option ℕ → Option LastFault → List ℕ
processor_text names cpu standing step last =
    named_text (codes "cpu") cpu ++ standing_text standing ++ step_text step ++ codes "\n" ++ last_text names last

-- that is said where there is one of that number, else nothing
abbrev pub standing_lines : Names → ℕ → Option Standing → Option ℕ → Option LastFault → List ℕ
standing_lines names cpu None step last = []
standing_lines names cpu (Some standing) step last = processor_text names cpu (Some standing) step last

-- as it is known
abbrev pub IsKnownProcessor : Names → List (Option ℕ) → Notes → ℕ → List ℕ → Type 0
IsKnownProcessor names steps notes cpu text =
    text ≡ standing_lines names cpu (slice_index_or notes.standings.of cpu None) (slice_index_or steps cpu None)
    (slice_index_or notes.faults.items cpu None)

-- as it stands
pub record IsProcessor (names : Names) (boot : BoardState) (events : List Event) (n cpu : ℕ) (text : List ℕ)
    : Type 0 where
  pub step : Option ℕ
  pub last : Option LastFault
  pub is_step : IsLastStep boot events n cpu step
  pub is_last : IsLastFault boot events n cpu last
  pub is : text ≡ standing_lines names cpu (standing_of (board_at boot events n) cpu) step last

-- ---- a task

abbrev pub since_text : Option ℕ → List ℕ
since_text None = codes " since the start"
since_text (Some position) = named_text (codes " since event") position

-- what is said of a wait: in some words the call, then what is waited for
abbrev pub IsWait : Option WaitReason → Option ℕ → List ℕ → Type 0
IsWait None due text = text ≡ []
IsWait (Some reason) due text = EndsWith (wait_text reason due) text

-- a task's line: its state and since when, where it is, and what is said of its wait
abbrev pub task_text : Names → ℕ → TaskState → Option ℕ → ℕ → List ℕ → List ℕ
task_text names id state since place wait =
    named_text (codes "task") id ++ codes " " ++ state_text state ++ since_text since ++ codes ", at "
    ++ code_text names place ++ wait ++ codes "\n"

-- as it is known
pub record IsTaskLine (names : Names) (it : TaskSeen) (text : List ℕ) : Type 0 where
  pub place : ℕ
  pub wait : List ℕ
  pub is_wait : IsWait it.waiting it.due wait
  pub line : text ≡ task_text names it.id it.state it.since place wait

-- It is the line of the task as it stands; of the place nothing is said.
pub record IsTask (names : Names) (boot : BoardState) (events : List Event) (n id : ℕ) (text : List ℕ)
    : Type 0 where
  pub view : TaskView
  pub since : Option ℕ
  pub place : ℕ
  pub wait : List ℕ
  pub is_view : option_map without_context (task_of (board_at boot events n) id) ≡ Some view  -- whatever its context
  pub is_since : IsSince boot events n id since
  pub is_wait : IsWait view.waiting view.due wait
  pub line : text ≡ task_text names id view.state since place wait

-- ---- mutexes

-- which task has a mutex, if one has it
abbrev pub owner_text : ℕ → Option ℕ → List ℕ
owner_text mutex None = []
owner_text mutex (Some task) =
    named_text (codes "mutex") mutex ++ named_text (codes ": task") task ++ codes " has it\n"

abbrev pub owned_text : BoardState → ℕ → List ℕ
owned_text board mutex = owner_text mutex (mutex_owner_of board mutex)

-- a line for each that a task has, by rising ID
abbrev pub owners_text : BoardState → List ℕ
owners_text board = flat_map (owned_text board) (range_with_len 1 255)

-- ---- all of it

-- a line where a board is deadlocked, and none where it isn't
abbrev pub IsDeadlock : BoardState → List ℕ → Type 0
IsDeadlock board text =
    (IsDeadlocked board
    × (text ≡ codes "deadlock: no task is ready, and no tick and no pending interrupt releases one that waits\n"))
    ⊎ ((IsDeadlocked board → ⊥) × (text ≡ []))

-- The processors, then the tasks, by rising number, which tasks have mutexes, whether the board is deadlocked, which
-- tasks wait for each other, which calls were refused, and which raises had no effect.
pub record IsSummary (names : Names) (boot : BoardState) (events : List Event) (n : ℕ) (text : List ℕ)
    : Type 0 where
  pub processors : List ℕ
  pub tasks : List ℕ
  pub deadlock : List ℕ
  pub findings : List ℕ
  pub are_processors : AreTexts (IsProcessor names boot events n) (range_with_len 1 8) processors
  pub are_tasks : AreTexts (IsTask names boot events n) (tasks_of (board_at boot events n)) tasks
  pub is_deadlock : IsDeadlock (board_at boot events n) deadlock
  pub are_findings :
      AreFindings names (accounts_of_run boot (take n events)) (board_at boot events n) findings
  pub is : text ≡ processors ++ tasks ++ owners_text (board_at boot events n) ++ deadlock ++ findings
