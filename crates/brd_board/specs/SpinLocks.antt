-- What an event does to who holds spin locks.
use Rattle.std.specs.Prelude.{◌≡◌, ℕ, Some}
use Rattle.brd_kernel.specs.declared.processor.Spin.TheVariants.{Free, Held}
use Rattle.brd_kernel.specs.Kernel.{running_on, executor_on}
use Rattle.brd_board.specs.declared.event.Event.{Event}
use Rattle.brd_board.specs.declared.event.Event.TheVariants.{Step}
use Rattle.brd_board.specs.Board.{BoardState, spin_lock_of}

-- Of an event, `new` being the board after it.
pub record LocksGoOn (b : BoardState) (event : Event) (new : BoardState) : Type 0 where
  -- a spin lock that a processor holds it goes on holding, unless the event is a step of that processor
  pub kept : (id cpu : ℕ) → spin_lock_of b id ≡ Some (Held cpu) → (event ≡ Step cpu → ⊥) →
      spin_lock_of new id ≡ Some (Held cpu)
  -- it never passes from one processor to another in one event
  pub stays : (id cpu other : ℕ) → spin_lock_of b id ≡ Some (Held cpu) → spin_lock_of new id ≡ Some (Held other) →
      other ≡ cpu
  -- who takes one does so by a step
  pub taken : (id cpu : ℕ) → spin_lock_of b id ≡ Some Free → spin_lock_of new id ≡ Some (Held cpu) → event ≡ Step cpu
  -- a processor that holds one after the event has the running task that it had before it, and who executes there is
  -- who executed there before it: the task or the handler that took the lock
  pub runs : (id cpu : ℕ) → spin_lock_of new id ≡ Some (Held cpu) → running_on new.kernel cpu ≡ running_on b.kernel cpu
  pub executes : (id cpu : ℕ) → spin_lock_of new id ≡ Some (Held cpu) →
      executor_on new.kernel cpu ≡ executor_on b.kernel cpu
