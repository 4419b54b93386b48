-- Who waits stands in the list of what it waits for, after every list of events from a boot.
use Rattle.std.proofs.Common.{◌≡◌, ℕ, List}
use Rattle.std.specs.Prelude.{Ok}
use Rattle.brd_mem.specs.declared.image.Image.{Image}
use Rattle.brd_config.specs.Configuration.{Configuration}
use Rattle.brd_tasks.specs.declared.task.TaskSetup.{TaskSetup}
use Rattle.brd_objects.specs.declared.block.PoolSetup.{PoolSetup}
use Rattle.brd_tasks.specs.declared.task.Request.TheVariants.{Assigned}
use Rattle.brd_kernel.specs.declared.processor.LineSetup.{LineSetup}
use Rattle.brd_kernel.specs.Kernel.{KernelState, with_tasks}
use Rattle.brd_kernel.specs.Making.{made_kernel}
use Rattle.brd_kernel.specs.Waiting.{WaitsAreKept}
use Rattle.brd_kernel.proofs.who_waits.ServiceLemmas.{serve-keeps, ticked-keeps, fault-keeps, context-keeps, dispatched-keeps, pending-keeps, accepted-keeps}
use Rattle.brd_kernel.proofs.who_waits.FirstLemmas.{made-keeps, activated-keeps}
use Rattle.brd_board.proofs.EventLemmas.{Kept, happens-kept, after-kept, all-started-kept, boot-begins}
use Rattle.brd_board.proofs.CallingLemmas.{Calls, called-leaves}
use Rattle.brd_board.specs.declared.event.Event.{Event}
use Rattle.brd_board.specs.Setup.{all_started}
use Rattle.brd_board.specs.Boot.{booted_kernel, boot}
use Rattle.brd_board.specs.Board.{BoardState, happens, after}

calls-keep : (k : KernelState) (cpu : ℕ) → Calls WaitsAreKept WaitsAreKept k cpu
calls-keep k cpu = record {
  quiet = λ now was. was;
  goes_on = λ now who s was. context-keeps now cpu who s was;
  replies = λ now who s was. context-keeps now cpu who s was;
  serves = λ now p c same there may was. serve-keeps now cpu c was;
}

waits-kept : Kept WaitsAreKept WaitsAreKept
waits-kept = record {
  context = context-keeps;
  call = λ k cpu was. called-leaves k cpu (calls-keep k cpu) was;
  fault = λ k cpu p there on was. fault-keeps k cpu was;
  accept = accepted-keeps;
  tick = ticked-keeps;
  raise = pending-keeps;
  dispatch = dispatched-keeps;
}

pub happens-keeps : (b : BoardState) (event : Event) → WaitsAreKept b.kernel → WaitsAreKept (happens b event).board.kernel
happens-keeps b event was = happens-kept waits-kept b event was

booted-keeps : (config : Configuration) (s : List TaskSetup) (l : List LineSetup) (p : List PoolSetup) → WaitsAreKept (booted_kernel s l p config)
booted-keeps config s l p =
    let first : KernelState = made_kernel config.standard config.processors s l config.semaphores config.flags config.queues config.spin_locks config.mutexes p config.mailboxes in
    dispatched-keeps (with_tasks first (all_started first.tasks config.tasks))
    (all-started-kept {P = WaitsAreKept} (λ k id was. activated-keeps k id Assigned was) first config.tasks
    (made-keeps config.standard config.processors s l config.semaphores config.flags config.queues config.spin_locks config.mutexes p config.mailboxes))

pub boot-keeps : (image : Image) (config : Configuration) (b : BoardState) (events : List Event) → boot image config ≡ Ok b →
    WaitsAreKept (after b events).kernel
boot-keeps image config b events is =
    after-kept waits-kept b events (boot-begins (λ x. WaitsAreKept x.kernel) image config b (λ s l p m good. booted-keeps config s l p) is)
