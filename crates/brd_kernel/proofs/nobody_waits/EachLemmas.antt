-- A change of an object or a task, a wait that begins or ends, a tick and an exception leave nobody waiting for what is
-- there, and the waiters of each object in order.
use Rattle.std.proofs.Common.{◌≡◌, ℕ, List, [], ◌∷◌, refl, sym, subst, ◌∙◌}
use Rattle.std.specs.Prelude.{true, false, is_some, Option, None, Some, IfSome}
use Rattle.std.proofs.lemmas.Bool.{false≢true}
use Rattle.brd_tasks.specs.declared.status.WaitReason.{WaitReason}
use Rattle.brd_tasks.specs.declared.status.WaitReason.TheVariants as reason
use Rattle.brd_tasks.specs.declared.status.WaitKind.{WaitKind}
use Rattle.brd_tasks.specs.declared.status.WaitKind.TheVariants as kind
use Rattle.brd_tasks.specs.declared.task.Task.{Task}
use Rattle.brd_tasks.specs.Tasks.{TaskTable, task_at, noted, without_activation, changed}
use Rattle.brd_time.specs.Time.{Time, advanced, due_from}
use Rattle.brd_objects.specs.declared.semaphore.Semaphore.{Semaphore}
use Rattle.brd_objects.specs.declared.flag.Flag.{Flag}
use Rattle.brd_objects.specs.declared.sent.Sent.{Sent}
use Rattle.brd_objects.specs.declared.sent.Sent.TheVariants.{Handed, Stored, Full}
use Rattle.brd_objects.specs.Table.{Table, object_at, object_changed, objects_changed}
use Rattle.brd_objects.specs.Flags.{joined, all_released, with_all_released}
use Rattle.brd_objects.specs.DataQueues.{DataQueueState}
use Rattle.brd_kernel.specs.declared.processor.Processor.{Processor}
use Rattle.brd_kernel.specs.Answer.{e_ok}
use Rattle.brd_kernel.specs.Kernel.{KernelState, with_tasks, with_processor, processor_at, unmarked, letting_go}
use Rattle.brd_kernel.specs.Waits.{Change, changed_of, changed_for, leaving, moving, can_wait, with_wait, released_in, reason_of, unlisted_from, unlisted, broken_off, ended_in, reordered_in, answer_by, timed_out, all_timed_out, ticked_on, faulted_task, faulted_in, ended_by_fault, with_released, given_in, all_given_in, quits_in, prioritized}
use Rattle.brd_kernel.specs.Services as table
use Rattle.brd_kernel.specs.Services.{is_sleep, with_all_released_in, with_satisfied_of, handed_over}
use Rattle.brd_kernel.specs.Waiting.{SemaphoreIsKept, FlagIsKept, QueueIsKept, EachIsKept, MutexIsKept, PoolIsKept, MailboxIsKept}
use Rattle.brd_kernel.proofs.who_waits.ListLemmas.{either}
use Rattle.brd_kernel.proofs.RingLemmas.{Outlasts, rung-keeps}
use Rattle.brd_kernel.proofs.nobody_waits.TableLemmas.{one-keeps, all-keep, changed-twice, changed-there}
use Rattle.brd_kernel.proofs.nobody_waits.ObjectLemmas.{semaphore-left, semaphore-reordered, flag-left, flag-reordered, set-kept, queue-left, queue-reordered, mutex-given, mutex-left, mutex-reordered, pool-left, pool-reordered, mailbox-left, mailbox-reordered}
use Rattle.brd_kernel.proofs.nobody_waits.SleeperLemmas.{AreKept}
use Rattle.brd_kernel.proofs.nobody_waits.SleeperLemmas as sleeper
use Rattle.brd_objects.specs.declared.mutex.Mutex.{Mutex}
use Rattle.brd_objects.specs.Pools.{PoolState}
use Rattle.brd_objects.specs.Mailboxes.{MailboxState}
use Rattle.brd_objects.specs.Mutexes.{given, next_owner_in}
use Rattle.brd_kernel.proofs.PricedLemmas.{priced, priced_in}
use Rattle.brd_kernel.proofs.SettledLemmas.{Settles, all-given, all-prioritized}
use Rattle.brd_tasks.specs.Status.{waiting_of}

-- Objects and tasks that are changed.

-- the objects stay
pub others-kept : (k new : KernelState) → new.semaphores ≡ k.semaphores → new.flags ≡ k.flags → new.queues ≡ k.queues → new.mutexes ≡ k.mutexes → new.pools ≡ k.pools → new.mailboxes ≡ k.mailboxes →
    AreKept new.tasks → EachIsKept k →
    EachIsKept new
others-kept k new semaphores flags queues mutexes pools mailboxes sleepers was = record {
  sleepers = sleepers;
  semaphores = λ id. subst (λ (t : Table Semaphore). IfSome (object_at t id) (λ s. SemaphoreIsKept s)) (sym semaphores) (was.semaphores id);
  flags = λ id. subst (λ (t : Table Flag). IfSome (object_at t id) (λ f. FlagIsKept f)) (sym flags) (was.flags id);
  queues = λ id. subst (λ (t : Table DataQueueState). IfSome (object_at t id) (λ q. QueueIsKept q)) (sym queues) (was.queues id);
  mutexes = λ id. subst (λ (t : Table Mutex). IfSome (object_at t id) (λ m. MutexIsKept m)) (sym mutexes) (was.mutexes id);
  pools = λ id. subst (λ (t : Table PoolState). IfSome (object_at t id) (λ p. PoolIsKept p)) (sym pools) (was.pools id);
  mailboxes = λ id. subst (λ (t : Table MailboxState). IfSome (object_at t id) (λ m. MailboxIsKept m)) (sym mailboxes) (was.mailboxes id);
}

pub tasks-kept : (k : KernelState) (t : TaskTable) → AreKept t → EachIsKept k → EachIsKept (with_tasks k t)
tasks-kept k t sleepers was = others-kept k (with_tasks k t) refl refl refl refl refl refl sleepers was

pub processor-kept : (k : KernelState) (cpu : ℕ) (p : Processor) → EachIsKept k → EachIsKept (with_processor k cpu p)
processor-kept k cpu p was = others-kept k (with_processor k cpu p) refl refl refl refl refl refl was.sleepers was

pub semaphore-changed : (f : Semaphore → Semaphore) (k : KernelState) (id : ℕ) →
    ((s : Semaphore) → object_at k.semaphores id ≡ Some s → SemaphoreIsKept s → SemaphoreIsKept (f s)) → EachIsKept k →
    EachIsKept (record k { semaphores = object_changed f k.semaphores id })
semaphore-changed f k id keeps was = record {
  sleepers = was.sleepers;
  semaphores = λ at. one-keeps (λ s. SemaphoreIsKept s) f k.semaphores id at keeps was.semaphores;
  flags = was.flags;
  queues = was.queues;
  mutexes = was.mutexes;
  pools = was.pools;
  mailboxes = was.mailboxes;
}

pub flag-changed : (f : Flag → Flag) (k : KernelState) (id : ℕ) → ((g : Flag) → object_at k.flags id ≡ Some g → FlagIsKept g → FlagIsKept (f g)) →
    EachIsKept k →
    EachIsKept (record k { flags = object_changed f k.flags id })
flag-changed f k id keeps was = record {
  sleepers = was.sleepers;
  semaphores = was.semaphores;
  flags = λ at. one-keeps (λ g. FlagIsKept g) f k.flags id at keeps was.flags;
  queues = was.queues;
  mutexes = was.mutexes;
  pools = was.pools;
  mailboxes = was.mailboxes;
}

pub queue-changed : (f : DataQueueState → DataQueueState) (k : KernelState) (id : ℕ) →
    ((q : DataQueueState) → object_at k.queues id ≡ Some q → QueueIsKept q → QueueIsKept (f q)) → EachIsKept k →
    EachIsKept (record k { queues = object_changed f k.queues id })
queue-changed f k id keeps was = record {
  sleepers = was.sleepers;
  semaphores = was.semaphores;
  flags = was.flags;
  queues = λ at. one-keeps (λ q. QueueIsKept q) f k.queues id at keeps was.queues;
  mutexes = was.mutexes;
  pools = was.pools;
  mailboxes = was.mailboxes;
}

pub mutex-changed : (f : Mutex → Mutex) (k : KernelState) (id : ℕ) →
    ((m : Mutex) → object_at k.mutexes id ≡ Some m → MutexIsKept m → MutexIsKept (f m)) → EachIsKept k →
    EachIsKept (record k { mutexes = object_changed f k.mutexes id })
mutex-changed f k id keeps was = record {
  sleepers = was.sleepers;
  semaphores = was.semaphores;
  flags = was.flags;
  queues = was.queues;
  mutexes = λ at. one-keeps (λ m. MutexIsKept m) f k.mutexes id at keeps was.mutexes;
  pools = was.pools;
  mailboxes = was.mailboxes;
}

pub pool-changed : (f : PoolState → PoolState) (k : KernelState) (id : ℕ) →
    ((p : PoolState) → object_at k.pools id ≡ Some p → PoolIsKept p → PoolIsKept (f p)) → EachIsKept k →
    EachIsKept (record k { pools = object_changed f k.pools id })
pool-changed f k id keeps was = record {
  sleepers = was.sleepers;
  semaphores = was.semaphores;
  flags = was.flags;
  queues = was.queues;
  mutexes = was.mutexes;
  pools = λ at. one-keeps (λ p. PoolIsKept p) f k.pools id at keeps was.pools;
  mailboxes = was.mailboxes;
}

pub mailbox-changed : (f : MailboxState → MailboxState) (k : KernelState) (id : ℕ) →
    ((m : MailboxState) → object_at k.mailboxes id ≡ Some m → MailboxIsKept m → MailboxIsKept (f m)) → EachIsKept k →
    EachIsKept (record k { mailboxes = object_changed f k.mailboxes id })
mailbox-changed f k id keeps was = record {
  sleepers = was.sleepers;
  semaphores = was.semaphores;
  flags = was.flags;
  queues = was.queues;
  mutexes = was.mutexes;
  pools = was.pools;
  mailboxes = λ at. one-keeps (λ m. MailboxIsKept m) f k.mailboxes id at keeps was.mailboxes;
}

-- a change that keeps each object
record KeepsEach (change : Change) : Type 0 where
  semaphore : (s : Semaphore) → SemaphoreIsKept s → SemaphoreIsKept (change.semaphore s)
  flag : (f : Flag) → FlagIsKept f → FlagIsKept (change.flag f)
  queue : (q : DataQueueState) → QueueIsKept q → QueueIsKept (change.queue q)
  mutex : (m : Mutex) → MutexIsKept m → MutexIsKept (change.mutex m)
  pool : (p : PoolState) → PoolIsKept p → PoolIsKept (change.pool p)
  mailbox : (m : MailboxState) → MailboxIsKept m → MailboxIsKept (change.mailbox m)

queues-kept : (change : Change) (k : KernelState) → KeepsEach change → EachIsKept k → EachIsKept (record k { queues = objects_changed change.queue k.queues })
queues-kept change k keeps was = record {
  sleepers = was.sleepers;
  semaphores = was.semaphores;
  flags = was.flags;
  queues = λ at. all-keep (λ q. QueueIsKept q) change.queue k.queues at keeps.queue (was.queues at);
  mutexes = was.mutexes;
  pools = was.pools;
  mailboxes = was.mailboxes;
}

of-kept : (change : Change) (k : KernelState) (what : WaitKind) → KeepsEach change → EachIsKept k → EachIsKept (changed_of change k what)
of-kept change k kind.Semaphore keeps was = record {
  sleepers = was.sleepers;
  semaphores = λ at. all-keep (λ s. SemaphoreIsKept s) change.semaphore k.semaphores at keeps.semaphore (was.semaphores at);
  flags = was.flags;
  queues = was.queues;
  mutexes = was.mutexes;
  pools = was.pools;
  mailboxes = was.mailboxes;
}
of-kept change k kind.Flag keeps was = record {
  sleepers = was.sleepers;
  semaphores = was.semaphores;
  flags = λ at. all-keep (λ f. FlagIsKept f) change.flag k.flags at keeps.flag (was.flags at);
  queues = was.queues;
  mutexes = was.mutexes;
  pools = was.pools;
  mailboxes = was.mailboxes;
}
of-kept change k kind.Room keeps was = queues-kept change k keeps was
of-kept change k kind.Datum keeps was = queues-kept change k keeps was
of-kept change k kind.Mutex keeps was = record {
  sleepers = was.sleepers;
  semaphores = was.semaphores;
  flags = was.flags;
  queues = was.queues;
  mutexes = λ at. all-keep (λ m. MutexIsKept m) change.mutex k.mutexes at keeps.mutex (was.mutexes at);
  pools = was.pools;
  mailboxes = was.mailboxes;
}
of-kept change k kind.Block keeps was = record {
  sleepers = was.sleepers;
  semaphores = was.semaphores;
  flags = was.flags;
  queues = was.queues;
  mutexes = was.mutexes;
  pools = λ at. all-keep (λ p. PoolIsKept p) change.pool k.pools at keeps.pool (was.pools at);
  mailboxes = was.mailboxes;
}
of-kept change k kind.Message keeps was = record {
  sleepers = was.sleepers;
  semaphores = was.semaphores;
  flags = was.flags;
  queues = was.queues;
  mutexes = was.mutexes;
  pools = was.pools;
  mailboxes = λ at. all-keep (λ m. MailboxIsKept m) change.mailbox k.mailboxes at keeps.mailbox (was.mailboxes at);
}

for-kept : (change : Change) (k : KernelState) (why : Option WaitReason) → KeepsEach change → EachIsKept k → EachIsKept (changed_for change k why)
for-kept change k (Some (reason.On what object)) keeps was = of-kept change k what keeps was
for-kept change k _ keeps was = was

-- Waits that begin and end, and priorities.

unlisted-by : (k : KernelState) (id : ℕ) (why : Option WaitReason) → EachIsKept k → EachIsKept (unlisted_from k id why)
unlisted-by k id why was =
    for-kept (leaving id) k why (record { semaphore = semaphore-left id; flag = flag-left id; queue = queue-left id; mutex = mutex-left id; pool = pool-left id; mailbox = mailbox-left id }) was

unlisted-kept : (k : KernelState) (id : ℕ) → EachIsKept k → EachIsKept (unlisted k id)
unlisted-kept k id was = unlisted-by k id (reason_of k id) was

pub released-kept : (k : KernelState) (id answer : ℕ) (second : Option ℕ) → EachIsKept k → EachIsKept (released_in k id answer second)
released-kept k id answer second was =
    others-kept k (released_in k id answer second) refl refl refl refl refl refl (sleeper.released-kept k.tasks id answer second was.sleepers) was

pub broken-kept : (k : KernelState) (id answer : ℕ) → EachIsKept k → EachIsKept (broken_off k id answer)
broken-kept k id answer was = released-kept (unlisted k id) id answer None (unlisted-kept k id was)

pub ended-kept : (k : KernelState) (id : ℕ) → EachIsKept k → EachIsKept (ended_in k id)
ended-kept k id was =
    others-kept (unlisted k id) (ended_in k id) refl refl refl refl refl refl (sleeper.ended-kept k.tasks id was.sleepers) (unlisted-kept k id was)

pub reordered-by : (k : KernelState) (id priority : ℕ) (why : Option WaitReason) → EachIsKept k → EachIsKept (reordered_in k id priority why)
reordered-by k id priority why was =
    for-kept (moving id priority) k why
    (record { semaphore = semaphore-reordered id priority; flag = flag-reordered id priority; queue = queue-reordered id priority; mutex = mutex-reordered id priority; pool = pool-reordered id priority; mailbox = mailbox-reordered id priority }) was

-- a wait begins: of who begins to sleep no wake-up is queued
abbrev MaySleep : KernelState → ℕ → WaitReason → Type 0
MaySleep k id why = (task : Task) → task_at k.tasks id ≡ Some task → is_sleep (Some why) ≡ true → task.wakeup ≡ false

pub wait-kept : (k : KernelState) (id : ℕ) (why : WaitReason) (due : Option ℕ) (entered : KernelState) → MaySleep k id why → EachIsKept k →
    EachIsKept entered →
    EachIsKept (with_wait k id why due entered)
wait-kept k id why due entered may was now =
    either EachIsKept (can_wait (task_at k.tasks id)) _ k
    (others-kept entered _ refl refl refl refl refl refl (sleeper.blocked-kept why k.tasks id may was.sleepers) now) was

pub no-sleep : (k : KernelState) (id : ℕ) (why : WaitReason) → is_sleep (Some why) ≡ false → MaySleep k id why
no-sleep k id why other = λ task there asleep. absurd (false≢true (sym other ∙ asleep))

-- Several tasks.

pub released-if : (k : KernelState) (first : Option ℕ) → EachIsKept k → EachIsKept (with_released k first)
released-if k None was = was
released-if k (Some id) was = released-kept k id e_ok None was

all-released : (k : KernelState) (ids : List ℕ) (second : ℕ) → EachIsKept k → EachIsKept (with_all_released_in k ids second)
all-released k [] second was = was
all-released k (id ∷ ids) second was =
    all-released (released_in k id e_ok (Some second)) ids second (released-kept k id e_ok (Some second) was)

-- a flag that is there has bits set, and all whom they satisfy are released

set-by : (k : KernelState) (id bits : ℕ) (found : Option Flag) → object_at (object_changed (joined bits) k.flags id) id ≡ found →
    is_some found ≡ true → EachIsKept k →
    EachIsKept (with_satisfied_of (record k { flags = object_changed (joined bits) k.flags id }) id found)
set-by k id bits None is there was = let wrong : ⊥ = cc in absurd wrong
set-by k id bits (Some f) is there was =
    all-released (record k { flags = object_changed with_all_released (object_changed (joined bits) k.flags id) id }) (all_released f) f.pattern
    (others-kept (record k { flags = object_changed (λ g. with_all_released (joined bits g)) k.flags id }) _ refl
    (changed-twice (joined bits) with_all_released k.flags id) refl refl refl refl was.sleepers
    (flag-changed (λ g. with_all_released (joined bits g)) k id (λ g at. set-kept bits g) was))

pub set-stays : (k : KernelState) (id bits : ℕ) (f : Flag) → object_at k.flags id ≡ Some f → EachIsKept k →
    EachIsKept (table.with_satisfied_released (record k { flags = object_changed (joined bits) k.flags id }) id)
set-stays k id bits f there was =
    set-by k id bits (object_at (object_changed (joined bits) k.flags id) id) refl (changed-there (joined bits) k.flags id f there) was

pub handed-kept : (k : KernelState) (datum : ℕ) (what : Sent) → EachIsKept k → EachIsKept (handed_over k datum what)
handed-kept k datum (Handed id) was = released-kept k id e_ok (Some datum) was
handed-kept k datum Stored was = was
handed-kept k datum Full was = was

-- Mutexes are given back, and priorities given.

pub given-kept : (k : KernelState) (at : ℕ) → EachIsKept k → EachIsKept (given_in k at)
given-kept k at was =
    released-if (record k { mutexes = object_changed given k.mutexes at }) (next_owner_in (object_at k.mutexes at))
    (mutex-changed given k at (λ m there. mutex-given m) was)

pub priced-kept : (k : KernelState) (base : Task → ℕ) (id priority : ℕ) (why : Option WaitReason) → EachIsKept k →
    EachIsKept (priced_in k base id priority why)
priced-kept k base id priority why was =
    reordered-by (with_tasks k (changed (priced base priority) k.tasks id)) id priority why
    (tasks-kept k (changed (priced base priority) k.tasks id)
    (sleeper.changed-kept (priced base priority) k.tasks id (λ x own. own) was.sleepers) was)

pub each-settles : Settles EachIsKept
each-settles = record {
  gives = λ k at m there was. given-kept k at was;
  prices = λ k base id priority (task : Task) there was. priced-kept k base id priority (waiting_of task.status) was;
}

pub quits-kept : (k : KernelState) (id : ℕ) → EachIsKept k → EachIsKept (quits_in k id)
quits-kept k id was = ended-kept (all_given_in k id) id (all-given EachIsKept k id each-settles was)

pub prioritized-kept : (k : KernelState) → EachIsKept k → EachIsKept (prioritized k)
prioritized-kept k was = all-prioritized EachIsKept k each-settles was

-- Ticks.

all-timed : (k : KernelState) (ids : List ℕ) → EachIsKept k → EachIsKept (all_timed_out k ids)
all-timed k [] was = was
all-timed k (id ∷ ids) was = all-timed (timed_out k id) ids (broken-kept k id (answer_by (reason_of k id)) was)

rings-kept : Outlasts EachIsKept
rings-kept k timers lines was = others-kept k (record k { timers = timers; lines = lines }) refl refl refl refl refl refl was.sleepers was

pub ticked-kept : (k : KernelState) → EachIsKept k → EachIsKept (ticked_on k (advanced k.time))
ticked-kept k was =
    let time : Time = advanced k.time in
    let ended : KernelState = all_timed_out (record k { time = time }) (due_from time 0) in
    rung-keeps EachIsKept (prioritized ended) rings-kept
    (prioritized-kept ended
    (all-timed (record k { time = time }) (due_from time 0) (others-kept k (record k { time = time }) refl refl refl refl refl refl was.sleepers was)))

-- Exceptions.

faulted-task : (k : KernelState) (cpu : ℕ) (p : Processor) (running : Option ℕ) → EachIsKept k → EachIsKept (faulted_task k cpu p running)
faulted-task k cpu p None was = was
faulted-task k cpu p (Some id) was =
    let on : KernelState = with_tasks k (noted without_activation k.tasks id) in
    let out : KernelState = quits_in on id in
    let sleepers = sleeper.noted-kept without_activation k.tasks id (λ x at own. own) was.sleepers in
    let ended : EachIsKept out = quits-kept on id (tasks-kept k (noted without_activation k.tasks id) sleepers was) in
    processor-kept out cpu (unmarked p) ended

faulted : (k : KernelState) (cpu : ℕ) (found : Option Processor) → EachIsKept k → EachIsKept (faulted_in k cpu found)
faulted k cpu None was = was
faulted k cpu (Some p) was =
    either EachIsKept (is_some p.handling) _ _ (processor-kept k cpu (record (letting_go p) { stopped = true }) was)
    (faulted-task k cpu p p.running was)

pub fault-kept : (k : KernelState) (cpu : ℕ) → EachIsKept k → EachIsKept (ended_by_fault k cpu)
fault-kept k cpu was = prioritized-kept (faulted_in k cpu (processor_at k cpu)) (faulted k cpu (processor_at k cpu) was)
