-- Waits: how they begin, and how they end. What a task waits for stands in its status; it stands in the list of waiters
-- of that object, and it has a due tick where its wait has an end.
use Rattle.std.specs.Prelude.{ℕ, zero, suc, ◌+◌, ◌-◌, ◌^◌, ◌==◌, nat_le, nat_lt}
use Rattle.std.specs.Prelude.{Bool, true, false, not, ◌&&◌, if◌then◌else◌, List}
use Rattle.std.specs.Prelude.{[], ◌∷◌, Option, None, Some, is_some, replicate, slice_set}
use Rattle.std.specs.Option.{option_map}
use Rattle.brd_tasks.specs.declared.status.WaitReason.{WaitReason}
use Rattle.brd_tasks.specs.declared.status.WaitReason.TheVariants as reason
use Rattle.brd_tasks.specs.declared.status.WaitKind.{WaitKind}
use Rattle.brd_tasks.specs.declared.status.WaitKind.TheVariants as kind
use Rattle.brd_tasks.specs.declared.task.Task.{Task}
use Rattle.brd_tasks.specs.declared.task.TaskView.{TaskView}
use Rattle.brd_tasks.specs.Status.{waiting_of, is_ready, blocked}
use Rattle.brd_tasks.specs.Tasks.{TaskTable, task_at, through, released_with, ended}
use Rattle.brd_tasks.specs.Tasks.{changed, lifted_to, noted, without_activation}
use Rattle.brd_tasks.specs.Tasks.{view_of}
use Rattle.brd_time.specs.Time.{Time, due_of, with_due, last_count, advanced, due_from}
use Rattle.brd_timers.specs.Timers.{is_due_at, passed_at}
use Rattle.brd_objects.specs.declared.semaphore.Semaphore.{Semaphore}
use Rattle.brd_config.specs.declared.objects.Protocol.{Protocol}
use Rattle.brd_config.specs.declared.objects.Protocol.TheVariants as protocol
use Rattle.brd_mutexes.specs.Lifting.{priority_at}
use Rattle.brd_mutexes.specs.Passes.{lifted}
use Rattle.brd_objects.specs.declared.flag.Flag.{Flag}
use Rattle.brd_objects.specs.declared.mutex.Mutex.{Mutex}
use Rattle.brd_objects.specs.Table.{object_at, object_changed, objects_changed}
use Rattle.brd_objects.specs.Semaphores.{semaphore_left, semaphore_reordered}
use Rattle.brd_objects.specs.Flags.{flag_left, flag_reordered}
use Rattle.brd_objects.specs.DataQueues.{DataQueueState, data_queue_left, data_queue_reordered}
use Rattle.brd_objects.specs.Mutexes.{is_owned_by, given, next_owner_in, mutex_left, mutex_reordered}
use Rattle.brd_objects.specs.Pools.{PoolState, pool_left, pool_reordered}
use Rattle.brd_objects.specs.Mailboxes.{MailboxState, mailbox_left, mailbox_reordered}
use Rattle.brd_kernel.specs.declared.processor.Processor.{Processor}
use Rattle.brd_kernel.specs.declared.call.Ercd.TheVariants.{Tmout}
use Rattle.brd_kernel.specs.Answer.{e_ok, code_of}
use Rattle.brd_kernel.specs.Kernel.{KernelState, with_tasks, with_processor, processor_at, unmarked, letting_go, line_at}
use Rattle.brd_kernel.specs.Kernel.{timer_line}

-- How long a call may wait, as its caller says it: a signed number of ticks, of which -1 (TMO_FEVR) is without an end
-- and 0 (TMO_POL) not at all.

abbrev pub forever : ℕ
forever = 2 ^ 32 - 1

-- below -1
unfoldable pub is_bad_timeout : ℕ → Bool
is_bad_timeout timeout = nat_le (2 ^ 31) timeout && not (timeout == forever)

-- The tick at which a wait ends that begins now: n whole ticks have passed then.
abbrev pub due_after : KernelState → ℕ → ℕ
due_after k ticks = k.time.count + ticks + 1

unfoldable pub due_by : KernelState → ℕ → Option ℕ
due_by k timeout = if timeout == forever then None else Some (due_after k timeout)

-- the priority of a task; 0 where there is none
abbrev pub priority_of : Option Task → ℕ
priority_of None = 0
priority_of (Some task) = task.priority

-- a task can begin to wait: it is ready, as every running task is
abbrev pub can_wait : Option Task → Bool
can_wait None = false
can_wait (Some task) = is_ready task.status

-- a task begins to wait: `entered` is the kernel in which it stands in the list of what it waits for
abbrev pub with_wait : KernelState → ℕ → WaitReason → Option ℕ → KernelState → KernelState
with_wait k id why due entered =
    if can_wait (task_at k.tasks id)
    then record entered { tasks = through (blocked why) k.tasks id; time = with_due k.time id due }
    else k

-- a wait ends by what was waited for, and the task's service call is answered
abbrev pub released_in : KernelState → ℕ → ℕ → Option ℕ → KernelState
released_in k id answer second =
    record k { tasks = released_with k.tasks id answer second; time = with_due k.time id None }

-- what a task waits for
abbrev pub reason_in : Option Task → Option WaitReason
reason_in None = None
reason_in (Some task) = waiting_of task.status

abbrev pub reason_of : KernelState → ℕ → Option WaitReason
reason_of k id = reason_in (task_at k.tasks id)

-- A change in the list of what a task waits for: what becomes of an object, by its kind. It is made of all objects of
-- that kind, and is one of the object in whose list the task stands: it stands in no other.

pub record Change : Type 0 where
  pub semaphore : Semaphore → Semaphore
  pub flag : Flag → Flag
  pub queue : DataQueueState → DataQueueState
  pub mutex : Mutex → Mutex
  pub pool : PoolState → PoolState
  pub mailbox : MailboxState → MailboxState

abbrev pub changed_of : Change → KernelState → WaitKind → KernelState
changed_of change k kind.Semaphore = record k { semaphores = objects_changed change.semaphore k.semaphores }
changed_of change k kind.Flag = record k { flags = objects_changed change.flag k.flags }
changed_of change k kind.Room = record k { queues = objects_changed change.queue k.queues }
changed_of change k kind.Datum = record k { queues = objects_changed change.queue k.queues }
changed_of change k kind.Mutex = record k { mutexes = objects_changed change.mutex k.mutexes }
changed_of change k kind.Block = record k { pools = objects_changed change.pool k.pools }
changed_of change k kind.Message = record k { mailboxes = objects_changed change.mailbox k.mailboxes }

-- a sleep and a delay have no list
abbrev pub changed_for : Change → KernelState → Option WaitReason → KernelState
changed_for change k None = k
changed_for change k (Some reason.Sleep) = k
changed_for change k (Some reason.Delay) = k
changed_for change k (Some (reason.On what object)) = changed_of change k what

-- a task leaves the list of what it waits for

abbrev pub leaving : ℕ → Change
leaving id =
    record {
      semaphore = semaphore_left id;
      flag = flag_left id;
      queue = data_queue_left id;
      mutex = mutex_left id;
      pool = pool_left id;
      mailbox = mailbox_left id;
    }

abbrev pub unlisted_from : KernelState → ℕ → Option WaitReason → KernelState
unlisted_from k id why = changed_for (leaving id) k why

abbrev pub unlisted : KernelState → ℕ → KernelState
unlisted k id = unlisted_from k id (reason_of k id)

-- a wait is broken off, or ends by time: the task leaves the list in which it waits
abbrev pub broken_off : KernelState → ℕ → ℕ → KernelState
broken_off k id answer = released_in (unlisted k id) id answer None

-- a task ends, in a wait or not; it starts again where a request was queued
abbrev pub ended_in : KernelState → ℕ → KernelState
ended_in k id = let out = unlisted k id in record out { tasks = ended k.tasks id; time = with_due k.time id None }

-- a task has another priority: in the list of what it waits for it is placed anew where that goes by priority, else it
-- keeps its place

abbrev pub moving : ℕ → ℕ → Change
moving id priority =
    record {
      semaphore = semaphore_reordered id priority;
      flag = flag_reordered id priority;
      queue = data_queue_reordered id priority;
      mutex = mutex_reordered id priority;
      pool = pool_reordered id priority;
      mailbox = mailbox_reordered id priority;
    }

abbrev pub reordered_in : KernelState → ℕ → ℕ → Option WaitReason → KernelState
reordered_in k id priority why = changed_for (moving id priority) k why

-- Mutexes: who has them, and what they make of priorities. They are there in the profile PROFILE(STANDARD) alone.

-- a task, if it is one, is released with E_OK
abbrev pub with_released : KernelState → Option ℕ → KernelState
with_released k None = k
with_released k (Some id) = released_in k id e_ok None

-- a mutex is given back: its first waiter has it then, and goes on, else nobody has it
abbrev pub given_in : KernelState → ℕ → KernelState
given_in k at =
    with_released (record k { mutexes = object_changed given k.mutexes at }) (next_owner_in (object_at k.mutexes at))

abbrev pub has_mutex_in : ℕ → Option Mutex → Bool
has_mutex_in id None = false
has_mutex_in id (Some m) = is_owned_by id m

-- a task gives a mutex back where it has it
abbrev pub given_by_in : KernelState → ℕ → ℕ → KernelState
given_by_in k id at = if has_mutex_in id (object_at k.mutexes at) then given_in k at else k

-- a task gives back what it has of the mutexes with IDs below a number, by ascending ID
unfoldable pub given_below : KernelState → ℕ → ℕ → KernelState
given_below k id zero = k
given_below k id (suc at) = given_by_in (given_below k id at) id at

abbrev pub all_given_in : KernelState → ℕ → KernelState
all_given_in k id = if k.standard then given_below k id 256 else k

-- a task ends, and gives back all mutexes that it has before
abbrev pub quits_in : KernelState → ℕ → KernelState
quits_in k id = ended_in (all_given_in k id) id

-- Each task has a base priority; one that has a mutex with TA_CEILING has the ceiling, where that is higher. A priority
-- is a number, of which a lower one is higher.

abbrev pub base_in : Option Task → ℕ
base_in None = 0
base_in (Some task) = task.base

-- of the tasks with IDs below a number, by ID; 0 from there on
unfoldable pub bases_below : TaskTable → ℕ → List ℕ
bases_below t zero = replicate 256 0
bases_below t (suc id) = slice_set (bases_below t id) id (base_in (task_at t id))

abbrev pub ceiling_by : Protocol → ℕ → ℕ → List ℕ → List ℕ
ceiling_by protocol.Ceiling ceiling id priorities =
    if nat_lt ceiling (priority_at priorities id) then slice_set priorities id ceiling else priorities
ceiling_by protocol.Arrival ceiling id priorities = priorities
ceiling_by protocol.Priority ceiling id priorities = priorities
ceiling_by protocol.Inherit ceiling id priorities = priorities

abbrev pub ceiling_of : Mutex → Option ℕ → List ℕ → List ℕ
ceiling_of m None priorities = priorities
ceiling_of m (Some id) priorities = ceiling_by m.protocol m.ceiling id priorities

-- the owner of a mutex has its ceiling
abbrev pub ceiling_in : Option Mutex → List ℕ → List ℕ
ceiling_in None priorities = priorities
ceiling_in (Some m) priorities = ceiling_of m m.owner priorities

-- the owners of the mutexes with IDs below a number
unfoldable pub ceilings_below : KernelState → ℕ → List ℕ
ceilings_below k zero = bases_below k.tasks 256
ceilings_below k (suc at) = ceiling_in (object_at k.mutexes at) (ceilings_below k at)

-- who has the mutex with TA_INHERIT that a task waits for, if it waits for one

abbrev pub lifts_owner : Protocol → Bool
lifts_owner protocol.Inherit = true
lifts_owner protocol.Arrival = false
lifts_owner protocol.Priority = false
lifts_owner protocol.Ceiling = false

abbrev pub inheritor_in : Option Mutex → Option ℕ
inheritor_in None = None
inheritor_in (Some m) = if lifts_owner m.protocol then m.owner else None

abbrev pub inheritor_of : KernelState → WaitKind → ℕ → Option ℕ
inheritor_of k kind.Mutex object = inheritor_in (object_at k.mutexes object)
inheritor_of k kind.Semaphore object = None
inheritor_of k kind.Flag object = None
inheritor_of k kind.Room object = None
inheritor_of k kind.Datum object = None
inheritor_of k kind.Block object = None
inheritor_of k kind.Message object = None

abbrev pub inheritor_for : KernelState → Option WaitReason → Option ℕ
inheritor_for k None = None
inheritor_for k (Some reason.Sleep) = None
inheritor_for k (Some reason.Delay) = None
inheritor_for k (Some (reason.On what object)) = inheritor_of k what object

-- for the tasks with IDs below a number, by ID; None from there on
unfoldable pub inheritors_below : KernelState → ℕ → List (Option ℕ)
inheritors_below k zero = replicate 256 None
inheritors_below k (suc id) = slice_set (inheritors_below k id) id (inheritor_for k (reason_of k id))

-- The current priorities: the highest of what each task has of its own, and of those of the tasks that wait for the
-- mutexes with TA_INHERIT that it has (`Lifting` has the rule).
abbrev pub priorities_of : KernelState → List ℕ
priorities_of k = lifted (ceilings_below k 256) (inheritors_below k 256)

-- a task is lifted to a priority or comes down to it, and has its place by it where it is ready or waits
abbrev pub lifted_in : KernelState → ℕ → ℕ → Option WaitReason → KernelState
lifted_in k id priority why =
    reordered_in (with_tasks k (changed (lifted_to priority) k.tasks id)) id priority why

-- where that isn't the priority that it has
abbrev pub prioritized_by : KernelState → ℕ → ℕ → Option Task → KernelState
prioritized_by k id priority None = k
prioritized_by k id priority (Some task) =
    if task.priority == priority then k else lifted_in k id priority (waiting_of task.status)

-- the tasks with IDs below a number have these priorities, by ascending ID
unfoldable pub prioritized_below : KernelState → List ℕ → ℕ → KernelState
prioritized_below k priorities zero = k
prioritized_below k priorities (suc id) =
    let before = prioritized_below k priorities id in
    prioritized_by before id (priority_at priorities id) (task_at before.tasks id)

-- each task has the current priority that it is to have
abbrev pub prioritized : KernelState → KernelState
prioritized k = if k.standard then prioritized_below k (priorities_of k) 256 else k

-- Time.

-- what a task is answered whose wait ends by time: dly_tsk has waited for just that

abbrev pub answer_by : Option WaitReason → ℕ
answer_by None = code_of Tmout
answer_by (Some reason.Sleep) = code_of Tmout
answer_by (Some reason.Delay) = e_ok
answer_by (Some (reason.On what object)) = code_of Tmout

abbrev pub timed_out : KernelState → ℕ → KernelState
timed_out k id = broken_off k id (answer_by (reason_of k id))

-- one after the other
abbrev pub all_timed_out : KernelState → List ℕ → KernelState
all_timed_out k [] = k
all_timed_out k (id ∷ ids) = all_timed_out (timed_out k id) ids

-- Time handlers, which are there in the profile PROFILE(STANDARD) alone. Where the time of one has come its line is
-- pending, as by an interrupt from outside, and it has its next time, if it has one.

abbrev pub rung_at : KernelState → ℕ → KernelState
rung_at k place = record k {
  timers = passed_at k.time.count k.timers place;
  lines =
      if is_due_at k.time.count k.timers place
      then slice_set k.lines (timer_line place) (record (line_at k (timer_line place)) { pending = true })
      else k.lines;
}

-- those of the places below a number
unfoldable pub rung_below : KernelState → ℕ → KernelState
rung_below k zero = k
rung_below k (suc place) = rung_at (rung_below k place) place

-- all of them
abbrev pub rung : KernelState → KernelState
rung k = if k.standard then rung_below k 128 else k

-- a tick is counted: the waits end whose tick has come, by ascending ID, and then the time of handlers has come
abbrev pub ticked_on : KernelState → Time → KernelState
ticked_on k time = rung (prioritized (all_timed_out (record k { time = time }) (due_from time 0)))

-- a tick passes, unless the last one has been counted
abbrev pub ticked : KernelState → KernelState
ticked k = if nat_lt k.time.count last_count then ticked_on k (advanced k.time) else k

-- Exceptions.

-- The running task of a processor is ended by an exception: it gives back its mutexes, is dormant, with nothing queued,
-- and its processor is neither CPU-locked nor has dispatching disabled.
abbrev pub faulted_task : KernelState → ℕ → Processor → Option ℕ → KernelState
faulted_task k cpu p None = k
faulted_task k cpu p (Some id) =
    with_processor (quits_in (with_tasks k (noted without_activation k.tasks id)) id) cpu (unmarked p)

abbrev pub faulted_in : KernelState → ℕ → Option Processor → KernelState
faulted_in k cpu None = k
faulted_in k cpu (Some p) =
    if is_some p.handling then with_processor k cpu (record (letting_go p) { stopped = true })
    else faulted_task k cpu p p.running

-- An exception on a processor: in a handler it stops the processor for good, and frees the spin lock that it holds,
-- else it ends the running task.
abbrev pub ended_by_fault : KernelState → ℕ → KernelState
ended_by_fault k cpu = prioritized (faulted_in k cpu (processor_at k cpu))

-- A task as it stands, with the tick at which its wait ends.

abbrev pub shown_until : Option ℕ → TaskView → TaskView
shown_until due view = record view { due = due }

abbrev pub seen_at : KernelState → ℕ → Option TaskView
seen_at k id = option_map (shown_until (due_of k.time id)) (view_of k.tasks id)
