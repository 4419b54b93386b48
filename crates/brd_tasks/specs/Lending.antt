-- A context that is changed where it lies.
use Rattle.std.specs.Prelude.{ℕ}
use Rattle.std.specs.Borrow.{Lends, MutBor, Fml}
use Rattle.brd_exec.specs.State.{State}
use Rattle.brd_exec.specs.contracts.context.Context.{the_row as context_row}
use Rattle.brd_tasks.specs.contracts.tasks.Tasks.{the_row as tasks_row}
use Rattle.brd_tasks.specs.Tasks.{TaskTable, with_context}

-- the tasks end with what is last in the context
abbrev pub LendsContext : MutBor TaskTable → ℕ → MutBor State → Fml
LendsContext tasks id context = Lends tasks_row context_row tasks context (with_context tasks.now id)
