-- Who executes on a board: an agent is a task, or the handler of a processor. Each has a context of its own.
use Rattle.std.specs.Prelude.{ℕ, Option, slice_set}
use Rattle.std.specs.Option.{option_map}
use Rattle.brd_exec.specs.State.{State}
use Rattle.brd_tasks.specs.Tasks.{context_at, with_context}
use Rattle.brd_kernel.specs.declared.processor.Executor.{Executor}
use Rattle.brd_kernel.specs.declared.processor.Executor.TheVariants as executor
use Rattle.brd_kernel.specs.Kernel.{KernelState, executor_on, handler_context_at, with_tasks}
use Rattle.brd_board.specs.Board.{BoardState, Happened}

pub data Agent : Type 0 where
  Task : ℕ → Agent  -- the task of an ID
  Handler : ℕ → Agent  -- the handler of the processor of a number

abbrev pub agent_by : ℕ → Executor → Agent
agent_by cpu executor.Handler = Handler cpu
agent_by cpu (executor.Task id) = Task id

-- who executes on a processor
abbrev pub agent_on : KernelState → ℕ → Option Agent
agent_on k cpu = option_map (agent_by cpu) (executor_on k cpu)

-- the context of an agent
abbrev pub context_in : KernelState → Agent → State
context_in k (Task id) = context_at k.tasks id
context_in k (Handler cpu) = handler_context_at k cpu

abbrev pub with_context_in : KernelState → Agent → State → KernelState
with_context_in k (Task id) s = with_tasks k (with_context k.tasks id s)
with_context_in k (Handler cpu) s = record k { handler_contexts = slice_set k.handler_contexts cpu s }

-- the board with another context of an agent
abbrev pub with_agent : BoardState → Agent → State → BoardState
with_agent b who s = record b { kernel = with_context_in b.kernel who s }

-- what has happened, the board being with another context of an agent, and the report the same
abbrev pub happened_with : Happened → Agent → State → Happened
happened_with done who s = record done { board = with_agent done.board who s }
