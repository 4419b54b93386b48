-- With the profile each task has the current priority that it is to have, after every event.
use Rattle.std.proofs.Common.{◌≡◌, ℕ, List, refl}
use Rattle.std.specs.Prelude.{Option, None, Some, Ok}
use Rattle.brd_mem.specs.declared.image.Image.{Image}
use Rattle.brd_config.specs.Configuration.{Configuration}
use Rattle.brd_tasks.specs.declared.task.TaskSetup.{TaskSetup}
use Rattle.brd_objects.specs.declared.block.PoolSetup.{PoolSetup}
use Rattle.brd_tasks.specs.declared.task.Request.TheVariants.{Assigned}
use Rattle.brd_kernel.specs.declared.processor.LineSetup.{LineSetup}
use Rattle.brd_kernel.specs.Making.{made_kernel}
use Rattle.brd_kernel.proofs.FreshLemmas.{Fresh, fresh-has, made-fresh, activated-fresh}
use Rattle.brd_board.specs.Setup.{all_started}
use Rattle.brd_board.specs.Boot.{booted_kernel, boot}
use Rattle.brd_exec.specs.State.{State}
use Rattle.brd_kernel.specs.declared.processor.Processor.{Processor}
use Rattle.brd_kernel.specs.declared.processor.Executor.{Executor}
use Rattle.brd_kernel.specs.declared.processor.Executor.TheVariants as executor
use Rattle.brd_kernel.specs.Kernel.{KernelState, with_tasks, processor_at, with_context_of, with_pending, handles}
use Rattle.brd_kernel.specs.Dispatch.{dispatched}
use Rattle.brd_kernel.specs.Prioritized.{IsPrioritized}
use Rattle.brd_kernel.proofs.PriorityLemmas.{parts-have, serve-has, ticked-has, fault-has}
use Rattle.brd_board.specs.declared.event.Event.{Event}
use Rattle.brd_board.specs.Board.{BoardState, happens, after}
use Rattle.brd_board.proofs.EventLemmas.{Kept, happens-kept, after-kept, all-started-kept, boot-begins}
use Rattle.brd_board.proofs.CallingLemmas.{Calls, called-leaves}

context-has : (k : KernelState) (cpu : ℕ) (who : Executor) (s : State) → IsPrioritized k → IsPrioritized (with_context_of k cpu who s)
context-has k cpu executor.Handler s was = parts-have k (with_context_of k cpu executor.Handler s) refl refl refl was
context-has k cpu (executor.Task id) s was = parts-have k (with_context_of k cpu (executor.Task id) s) refl refl refl was

calls-have : (k : KernelState) (cpu : ℕ) → Calls IsPrioritized IsPrioritized k cpu
calls-have k cpu = record {
  quiet = λ now was. was;
  goes_on = λ now who s was. context-has now cpu who s was;
  replies = λ now who s was. context-has now cpu who s was;
  serves = λ now p c same there may was. serve-has now cpu c was;
}

handles-has : (k : KernelState) (cpu line : ℕ) (found : Option Processor) → IsPrioritized k → IsPrioritized (handles k cpu line found)
handles-has k cpu line None was = was
handles-has k cpu line (Some p) was = parts-have k (handles k cpu line (Some p)) refl refl refl was

priorities-kept : Kept IsPrioritized IsPrioritized
priorities-kept = record {
  context = λ k cpu who s was. context-has k cpu who s was;
  call = λ k cpu was. called-leaves k cpu (calls-have k cpu) was;
  fault = λ k cpu p there on was. fault-has k cpu;
  accept = λ k cpu line was. handles-has k cpu line (processor_at k cpu) was;
  tick = λ k was. ticked-has k;
  raise = λ k line was. parts-have k (with_pending k line) refl refl refl was;
  dispatch = λ k was. parts-have k (dispatched k) refl refl refl was;
}

pub happens-has : (b : BoardState) (event : Event) → IsPrioritized b.kernel → IsPrioritized (happens b event).board.kernel
happens-has b event was = happens-kept priorities-kept b event was

booted-has : (config : Configuration) (s : List TaskSetup) (l : List LineSetup) (p : List PoolSetup) → IsPrioritized (booted_kernel s l p config)
booted-has config s l p =
    let first : KernelState = made_kernel config.standard config.processors s l config.semaphores config.flags config.queues config.spin_locks config.mutexes p config.mailboxes in
    let started : KernelState = with_tasks first (all_started first.tasks config.tasks) in
    parts-have started (dispatched started) refl refl refl
    (fresh-has started
    (all-started-kept {P = Fresh} (λ k id was. activated-fresh k id Assigned was) first config.tasks
    (made-fresh config.standard config.processors s l config.semaphores config.flags config.queues config.spin_locks config.mutexes p config.mailboxes)))

pub boot-has : (image : Image) (config : Configuration) (b : BoardState) (events : List Event) → boot image config ≡ Ok b →
    IsPrioritized (after b events).kernel
boot-has image config b events is =
    after-kept priorities-kept b events (boot-begins (λ x. IsPrioritized x.kernel) image config b (λ s l p m good. booted-has config s l p) is)
