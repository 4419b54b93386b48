-- What ends a task.
use Rattle.std.specs.Prelude.{◌≡◌, ℕ, Bool, true, false, not, Option, None, Some}
use Rattle.brd_tasks.specs.declared.task.Task.{Task}
use Rattle.brd_tasks.specs.Status.{is_dormant}
use Rattle.brd_tasks.specs.Tasks.{task_at}
use Rattle.brd_board.specs.declared.event.Event.{Event}
use Rattle.brd_board.specs.Board.{BoardState, happens}
use Rattle.brd_frames.specs.Agents as agents
use Rattle.brd_frames.specs.Agents.{Agent, context_in}
use Rattle.brd_frames.specs.Apart.{Terminates, Executes, IsApart}

-- a task is there, and isn't dormant
abbrev pub is_live : Option Task → Bool
is_live None = false
is_live (Some task) = not (is_dormant task.status)

abbrev pub is_live_at : BoardState → ℕ → Bool
is_live_at b id = is_live (task_at b.kernel.tasks id)

-- A task that isn't dormant becomes dormant only by an instruction of its own (ext_tsk, or one that raises an
-- exception), or by another one's ter_tsk of it.
abbrev pub EndLaw : Type 0
EndLaw =
    (b : BoardState) (event : Event) (id : ℕ) → (Executes b event (agents.Task id) → ⊥) → (Terminates b event id → ⊥) →
    is_live_at b id ≡ true → is_live_at (happens b event).board id ≡ true

-- And the context of an agent stays over each event that is apart from it.
abbrev pub ContextLaw : Type 0
ContextLaw =
    (b : BoardState) (event : Event) (who : Agent) → IsApart b event who →
    context_in (happens b event).board.kernel who ≡ context_in b.kernel who
