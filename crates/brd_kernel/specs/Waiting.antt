-- What holds of waits after every event. A task that waits for a semaphore, for bits of an event flag, for a mutex, for
-- a block of a memory pool, for a message of a mailbox, or to send to or receive from a data queue stands in the
-- waiting list for just that, once and with its priority, and in no other waiting list of an object; where that list is
-- in the order of priority, no task stands in front of one with a higher priority; no task waits for something that it
-- could have at once; and only a task that waits has a due tick.
use Rattle.std.specs.Prelude.{◌≡◌, ℕ, Bool, true, false, List, [], map, Option, None, Some, IfSome, is_some, length}
use Rattle.std.specs.List.{AllByRecursion}
use Rattle.brd_queue.specs.declared.entry.QueueEntry.{QueueEntry}
use Rattle.brd_queue.specs.declared.entry.QueueOrder.{QueueOrder}
use Rattle.brd_queue.specs.declared.entry.QueueOrder.TheVariants.{Arrival, Priority}
use Rattle.brd_queue.specs.Queue.{Plain, has, priority_in, is_empty, AreApart}
use Rattle.brd_queue.specs.Rule.{IsByPriority}
use Rattle.brd_tasks.specs.declared.status.WaitReason.{WaitReason}
use Rattle.brd_tasks.specs.declared.status.WaitReason.TheVariants as reason
use Rattle.brd_tasks.specs.declared.status.WaitKind.{WaitKind}
use Rattle.brd_tasks.specs.declared.status.WaitKind.TheVariants as kind
use Rattle.brd_tasks.specs.declared.task.Task.{Task}
use Rattle.brd_tasks.specs.Status.{waiting_of}
use Rattle.brd_tasks.specs.Tasks.{task_at}
use Rattle.brd_time.specs.Time.{due_of}
use Rattle.brd_objects.specs.declared.semaphore.Semaphore.{Semaphore}
use Rattle.brd_objects.specs.declared.flag.Flag.{Flag}
use Rattle.brd_objects.specs.declared.mutex.Mutex.{Mutex}
use Rattle.brd_objects.specs.Table.{object_at}
use Rattle.brd_objects.specs.Semaphores.{has_one}
use Rattle.brd_objects.specs.Waiters.{satisfies, WantBits}
use Rattle.brd_objects.specs.DataQueues.{DataQueueState, has_room}
use Rattle.brd_objects.specs.Mutexes.{protocol_order}
use Rattle.brd_objects.specs.Pools.{PoolState, block_for}
use Rattle.brd_objects.specs.Mailboxes.{MailboxState, next_message}
use Rattle.brd_kernel.specs.Kernel.{KernelState}
use Rattle.brd_kernel.specs.Waits.{reason_of}
use Rattle.brd_kernel.specs.Services.{is_asleep}

-- a list without what each waiter wants: IDs and priorities, in the same order
abbrev pub plain : {W : Type 0} → List (QueueEntry W) → List Plain
plain waiters = map (λ e. record { id = e.id; priority = e.priority; wanted = tt }) waiters

abbrev pub semaphore_waiters : Option Semaphore → List Plain
semaphore_waiters None = []
semaphore_waiters (Some s) = s.waiters

abbrev pub flag_waiters : Option Flag → List Plain
flag_waiters None = []
flag_waiters (Some f) = plain f.waiters

abbrev pub senders : Option DataQueueState → List Plain
senders None = []
senders (Some q) = plain q.senders

abbrev pub receivers : Option DataQueueState → List Plain
receivers None = []
receivers (Some q) = q.receivers

abbrev pub mutex_waiters : Option Mutex → List Plain
mutex_waiters None = []
mutex_waiters (Some m) = m.waiters

abbrev pub pool_waiters : Option PoolState → List Plain
pool_waiters None = []
pool_waiters (Some p) = p.waiters

abbrev pub mailbox_waiters : Option MailboxState → List Plain
mailbox_waiters None = []
mailbox_waiters (Some m) = m.waiters

-- the list of those who wait for an object
abbrev pub waiters_of : KernelState → WaitKind → ℕ → List Plain
waiters_of k kind.Semaphore object = semaphore_waiters (object_at k.semaphores object)
waiters_of k kind.Flag object = flag_waiters (object_at k.flags object)
waiters_of k kind.Room object = senders (object_at k.queues object)
waiters_of k kind.Datum object = receivers (object_at k.queues object)
waiters_of k kind.Mutex object = mutex_waiters (object_at k.mutexes object)
waiters_of k kind.Block object = pool_waiters (object_at k.pools object)
waiters_of k kind.Message object = mailbox_waiters (object_at k.mailboxes object)

-- the list of those who wait for something: a sleep and a delay have none
abbrev pub standing_for : KernelState → WaitReason → List Plain
standing_for k reason.Sleep = []
standing_for k reason.Delay = []
standing_for k (reason.On what object) = waiters_of k what object

abbrev pub has_list : WaitReason → Bool
has_list reason.Sleep = false
has_list reason.Delay = false
has_list (reason.On what object) = true

-- Where the order is by priority, no task stands in front of one with a higher priority, which is a lower number.
-- Nothing is said of arrival, neither where the order is by arrival nor among equals: a list doesn't tell who came
-- first.
abbrev pub AreInOrder : {W : Type 0} → QueueOrder → List (QueueEntry W) → Type 0
AreInOrder Arrival waiters = Unit {0}
AreInOrder Priority waiters = IsByPriority waiters

-- No task sleeps (waits for a wake-up) while one is queued for it.
abbrev pub SleeperIsKept : Task → Type 0
SleeperIsKept task = is_asleep task.status ≡ true → task.wakeup ≡ false

-- What holds of the waiters of an object: they are in order, and none of them could have at once what it waits for.

pub record SemaphoreIsKept (s : Semaphore) : Type 0 where
  pub ordered : AreInOrder s.order s.waiters
  -- while the count isn't 0, no task waits
  pub lacking : has_one s ≡ true → s.waiters ≡ []

pub record FlagIsKept (f : Flag) : Type 0 where
  pub ordered : AreInOrder f.order f.waiters
  -- no task waits for an empty set of bits: under TWF_ANDW every pattern would satisfy it, also one that TA_CLR has
  -- cleared
  pub bits : WantBits f.waiters
  -- no task waits that the pattern satisfies
  pub lacking : AllByRecursion (λ e. satisfies f.pattern e.wanted ≡ false) f.waiters

pub record QueueIsKept (q : DataQueueState) : Type 0 where
  -- senders are in order; receivers always wait by arrival, of which nothing is said
  pub ordered : AreInOrder q.order q.senders
  -- while it has room, no task waits to send
  pub room : has_room q ≡ true → q.senders ≡ []
  -- while a task waits to receive, nothing is stored, and no task waits to send
  pub datum : is_empty q.receivers ≡ false → (q.stored ≡ []) × (q.senders ≡ [])

pub record MutexIsKept (m : Mutex) : Type 0 where
  pub ordered : AreInOrder (protocol_order m.protocol) m.waiters
  -- while nobody has it, no task waits
  pub lacking : m.owner ≡ None → m.waiters ≡ []

pub record PoolIsKept (p : PoolState) : Type 0 where
  pub ordered : AreInOrder p.order p.waiters
  -- while a block is there, no task waits
  pub lacking : is_some (block_for p) ≡ true → p.waiters ≡ []

pub record MailboxIsKept (m : MailboxState) : Type 0 where
  pub ordered : AreInOrder m.order m.waiters
  -- while a message is there, no task waits
  pub lacking : is_some (next_message m) ≡ true → m.waiters ≡ []

-- Each task is so, and each object.
pub record EachIsKept (k : KernelState) : Type 0 where
  pub sleepers : (id : ℕ) → IfSome (task_at k.tasks id) (λ task. SleeperIsKept task)
  pub semaphores : (id : ℕ) → IfSome (object_at k.semaphores id) (λ s. SemaphoreIsKept s)
  pub flags : (id : ℕ) → IfSome (object_at k.flags id) (λ f. FlagIsKept f)
  pub queues : (id : ℕ) → IfSome (object_at k.queues id) (λ q. QueueIsKept q)
  pub mutexes : (id : ℕ) → IfSome (object_at k.mutexes id) (λ m. MutexIsKept m)
  pub pools : (id : ℕ) → IfSome (object_at k.pools id) (λ p. PoolIsKept p)
  pub mailboxes : (id : ℕ) → IfSome (object_at k.mailboxes id) (λ m. MailboxIsKept m)

pub record WaitsAreKept (k : KernelState) : Type 0 where
  -- each ID from 0 to 255 has a row and a due tick, or None
  pub rows : length k.tasks.rows ≡ 256
  pub dues : length k.time.dues ≡ 256
  -- no task stands twice in a list; IDs are below 256
  pub apart : (why : WaitReason) → AreApart (standing_for k why)
  -- a task that waits for an object stands in the list for just that, with its priority
  pub listed : (id : ℕ) (task : Task) (why : WaitReason) → task_at k.tasks id ≡ Some task →
      waiting_of task.status ≡ Some why → has_list why ≡ true →
      priority_in id (standing_for k why) ≡ Some task.priority
  -- and no other task does
  pub only : (id : ℕ) (why : WaitReason) → has id (standing_for k why) ≡ true → reason_of k id ≡ Some why
  -- each list is in order, and no task waits for something that it could have at once
  pub each : EachIsKept k
  -- a task that doesn't wait has no due tick
  pub timed : (id : ℕ) → reason_of k id ≡ None → due_of k.time id ≡ None
  -- and one that waits for time alone has one
  pub delayed : (id : ℕ) → reason_of k id ≡ Some reason.Delay → is_some (due_of k.time id) ≡ true
