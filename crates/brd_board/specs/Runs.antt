-- What an ordinary instruction leaves as it was.
use Rattle.std.specs.Prelude.{◌≡◌, ℕ, Some}
use Rattle.std.specs.Option.{option_map}
use Rattle.brd_exec.specs.State.{State}
use Rattle.brd_tasks.specs.declared.task.TaskView.{TaskView}
use Rattle.brd_tasks.specs.Tasks.{no_context, ready_on}
use Rattle.brd_kernel.specs.declared.processor.Standing.TheVariants as standing
use Rattle.brd_kernel.specs.Kernel.{handler_context_at, processor_at}
use Rattle.brd_board.specs.declared.event.Event.{Event}
use Rattle.brd_board.specs.declared.event.Event.TheVariants.{Step}
use Rattle.brd_board.specs.Board.{BoardState, standing_of, registers_of, fault_of, task_of}

-- a task as it stands, whatever its context
abbrev pub without_context : TaskView → TaskView
without_context view = record view { context = no_context }

-- An instruction at an address, of whoever executes on a processor. `new` is the board after it. Beside memory and
-- links it may have changed only the context in which it was executed.
pub record ChangesOnlyItsOwn (b : BoardState) (event : Event) (address : ℕ) (new : BoardState) : Type 0 where
  pub cpu : ℕ
  pub context : State
  pub steps : event ≡ Step cpu
  pub executes : registers_of b cpu ≡ Some context
  pub lies : context.pc ≡ address
  -- no task differs but the one that executed, and that one only in its context; where a handler executed none differs
  pub tasks : (id : ℕ) → (standing_of b cpu ≡ Some (standing.Task id) → ⊥) → task_of new id ≡ task_of b id
  pub own : (id : ℕ) → option_map without_context (task_of new id) ≡ option_map without_context (task_of b id)
  -- how tasks were set up, and what else is kept of them
  pub rows : new.kernel.tasks.rows ≡ b.kernel.tasks.rows
  pub registers : (other : ℕ) → (other ≡ cpu → ⊥) → registers_of new other ≡ registers_of b other
  pub handlers : (other : ℕ) → (other ≡ cpu → ⊥) →
      handler_context_at new.kernel other ≡ handler_context_at b.kernel other
  -- who runs on each processor, its handler, its marks and its spin lock
  pub processors : (other : ℕ) → processor_at new.kernel other ≡ processor_at b.kernel other
  pub standings : (other : ℕ) → standing_of new other ≡ standing_of b other
  pub faults : (other : ℕ) → fault_of new other ≡ fault_of b other
  -- who is ready, in which order
  pub ready : (other : ℕ) → ready_on new.kernel.tasks other ≡ ready_on b.kernel.tasks other
  pub semaphores : new.kernel.semaphores ≡ b.kernel.semaphores
  pub flags : new.kernel.flags ≡ b.kernel.flags
  pub queues : new.kernel.queues ≡ b.kernel.queues
  pub mutexes : new.kernel.mutexes ≡ b.kernel.mutexes
  pub pools : new.kernel.pools ≡ b.kernel.pools
  pub mailboxes : new.kernel.mailboxes ≡ b.kernel.mailboxes
  -- (who holds a spin lock, its processor says)
  pub spin_locks : new.kernel.spin_locks ≡ b.kernel.spin_locks
  pub lines : new.kernel.lines ≡ b.kernel.lines
  pub time : new.kernel.time ≡ b.kernel.time
  pub timers : new.kernel.timers ≡ b.kernel.timers
  pub clock : new.kernel.clock ≡ b.kernel.clock
  pub standard : new.kernel.standard ≡ b.kernel.standard
  pub console : new.kernel.console ≡ b.kernel.console
  pub off : new.kernel.off ≡ b.kernel.off
