-- What is seen of a board's tasks.
use Rattle.std.specs.Prelude.{◌≡◌, ℕ, List, Option, None, Some}
use Rattle.std.specs.Option.{option_map}
use Rattle.std.specs.List.{filter_map, range_with_len}
use Rattle.brd_tasks.specs.declared.task.TaskView.{TaskView}
use Rattle.brd_tasks.specs.Tasks.{no_context}
use Rattle.brd_board.specs.Board.{BoardState, task_of}
use Rattle.brd_board.specs.Runs.{without_context}
use Rattle.brd_happening.specs.Release.{asked_of}
use Rattle.brd_seen.specs.declared.tasks.TaskSeen.{TaskSeen}

-- ---- a task

-- a task as a board shows it
abbrev pub seen_of : ℕ → TaskView → TaskSeen
seen_of id view = record {
  id = id;
  state = view.state;
  waiting = view.waiting;
  due = view.due;
  priority = view.priority;
  cpu = view.cpu;
  activations = view.activations;
  wakeups = view.wakeups;
  call = record { asked = asked_of view.context };
  pc = view.context.pc;
  since = None;
  place = view.context.pc;
}

-- what is known of how a task stands: all but its context
abbrev pub view_of : TaskSeen → TaskView
view_of it = record {
  state = it.state;
  priority = it.priority;
  cpu = it.cpu;
  waiting = it.waiting;
  due = it.due;
  activations = it.activations;
  wakeups = it.wakeups;
  context = no_context;
}

-- the board has a task of that number, and it stands so
abbrev pub IsSeen : BoardState → TaskSeen → Type 0
IsSeen board it = option_map without_context (task_of board it.id) ≡ Some (view_of it)

-- the tasks of a board, as it shows them
abbrev pub seen_in : BoardState → ℕ → Option TaskSeen
seen_in board id = option_map (seen_of id) (task_of board id)

unfoldable pub all_seen : BoardState → List TaskSeen
all_seen board = filter_map (seen_in board) (range_with_len 1 255)
