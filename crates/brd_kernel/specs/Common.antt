-- What a kernel and what is saved of one have in common, and how a kernel is seen in it. (Only private functions'
-- contracts and the models of both name these.)
use Rattle.std.specs.Prelude.{◌≡◌, false, map}
use Rattle.brd_objects.specs.declared.semaphore.Semaphore.{Semaphore}
use Rattle.brd_objects.specs.declared.flag.Flag.{Flag}
use Rattle.brd_objects.specs.declared.mutex.Mutex.{Mutex}
use Rattle.brd_objects.specs.Table.{Table}
use Rattle.brd_objects.specs.DataQueues.{DataQueueState}
use Rattle.brd_objects.specs.Pools.{PoolState}
use Rattle.brd_objects.specs.Mailboxes.{MailboxState}
use Rattle.brd_kernel.specs.declared.common.Common.{Common}
use Rattle.brd_kernel.specs.Kernel.{KernelState}
use Rattle.brd_kernel.specs.Always.{IsKernel, AreQuiet, task_executing}

-- the kernel, with these objects
abbrev pub kernel_of : Common → Table Semaphore → Table Flag → Table DataQueueState → Table Mutex → Table PoolState →
    Table MailboxState → KernelState
kernel_of c semaphores flags queues mutexes pools mailboxes = record {
  off = c.off;
  standard = c.standard;
  clock = c.clock;
  time = c.time;
  timers = c.timers;
  tasks = c.tasks;
  semaphores = semaphores;
  flags = flags;
  queues = queues;
  mutexes = mutexes;
  pools = pools;
  mailboxes = mailboxes;
  spin_locks = c.spin_locks.items;
  processors = c.processors;
  handler_contexts = c.handler_contexts.items;
  lines = c.lines.items;
  console = c.console.items;
}

-- what is always true of it, and that what is kept beside it, so that a step needn't find it out, is so
pub record IsCommon (c : Common) (k : KernelState) : Type 0 where
  pub kernel : IsKernel k
  pub quiet : c.pending ≡ false → AreQuiet c.lines.items
  pub executing : c.executing ≡ map task_executing c.processors

-- a copy makes the same kernel, whatever its objects, and has the same beside it
pub record IsCopy (c copy : Common) : Type 0 where
  pub same : (semaphores : Table Semaphore) (flags : Table Flag) (queues : Table DataQueueState)
      (mutexes : Table Mutex) (pools : Table PoolState) (mailboxes : Table MailboxState) →
      kernel_of copy semaphores flags queues mutexes pools mailboxes
      ≡ kernel_of c semaphores flags queues mutexes pools mailboxes
  pub pending : copy.pending ≡ c.pending
  pub executing : copy.executing ≡ c.executing
