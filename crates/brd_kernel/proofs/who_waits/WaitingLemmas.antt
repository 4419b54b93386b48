-- What is kept of waits when one begins, is moved or ends.
use Rattle.std.proofs.Common.{◌≡◌, ◌<◌, ℕ, List, [], ◌∷◌, length, refl, sym, ap, subst, ◌∙◌}
use Rattle.std.specs.Prelude.{Bool, true, false, ◌==◌, ◌||◌, nat_lt, if◌then◌else◌, Option, None, Some}
use Rattle.std.proofs.lemmas.Bool.{false≢true}
use Rattle.brd_queue.specs.declared.entry.QueueEntry.{QueueEntry}
use Rattle.brd_queue.specs.declared.entry.QueueOrder.{QueueOrder}
use Rattle.brd_queue.specs.declared.entry.QueueOrder.TheVariants.{Arrival}
use Rattle.brd_queue.specs.Queue.{Plain, has, priority_in, placed, AreApart}
use Rattle.brd_tasks.specs.declared.status.WaitReason.{WaitReason}
use Rattle.brd_tasks.specs.declared.status.WaitReason.TheVariants as reason
use Rattle.brd_tasks.specs.declared.status.WaitKind.TheVariants as kind
use Rattle.brd_tasks.specs.declared.status.Status.{Status}
use Rattle.brd_tasks.specs.declared.status.Status.TheVariants.{Dormant, Ready, Waiting, Suspended, WaitingSuspended}
use Rattle.brd_tasks.specs.declared.task.Task.{Task}
use Rattle.brd_tasks.specs.Status.{waiting_of, is_ready, blocked}
use Rattle.brd_tasks.specs.Tasks.{TaskTable, task_at, through, changed, ended, released_with}
use Rattle.brd_time.specs.Time.{with_due}
use Rattle.brd_objects.specs.declared.semaphore.Semaphore.{Semaphore}
use Rattle.brd_objects.specs.Table.{object_at}
use Rattle.brd_objects.specs.Semaphores.{semaphore_awaited}
use Rattle.brd_objects.specs.Flags.{flag_awaited}
use Rattle.brd_objects.specs.DataQueues.{DataQueueState, awaited_by_sender, awaited_by_receiver}
use Rattle.brd_kernel.specs.declared.processor.Processor.{Processor}
use Rattle.brd_kernel.specs.Kernel.{KernelState, with_tasks, with_processor}
use Rattle.brd_kernel.specs.Waits.{priority_of, can_wait, with_wait, released_in, reason_of, unlisted, broken_off, ended_in, reordered_in}
use Rattle.brd_kernel.specs.Services.{callers_priority}
use Rattle.brd_kernel.specs.Waiting.{plain, semaphore_waiters, flag_waiters, senders, receivers, standing_for, mutex_waiters, pool_waiters, mailbox_waiters}
use Rattle.brd_kernel.proofs.who_waits.ListLemmas.{priority_in-plain, priority_in-placed, priority_in-first, apart-plain, apart-wanting, apart-placed}
use Rattle.brd_kernel.proofs.WaitLemmas.{unlisted-only, reordered-only}
use Rattle.brd_kernel.proofs.WalkLemmas.{Lacks, No-one, No-bits, No-room, No-datum, lacked, awaiting, in_semaphore, in_flag, in_senders, in_receivers, No-mutex, in_mutex, No-block, in_pool, No-message, in_mailbox}
use Rattle.brd_kernel.proofs.who_waits.StandingLemmas.{stands_in, stands-same, waits_by, waits, IsTimedBy, Stands, StandsIn}
use Rattle.brd_kernel.proofs.who_waits.KeepingLemmas.{IsEntered, Rewrites, by-lists, by-rows, by-ending, by-beginning, by-priority, by-leaving-one, apart-rewritten}
use Rattle.brd_kernel.proofs.who_waits.RowLemmas.{IsAsBefore, changed-before, ended-made, released-made, blocked-made, changed-made, row-small}
use Rattle.brd_kernel.proofs.who_waits.WaitersLemmas.{plain-same, semaphore-rewrites, flag-rewrites, sender-rewrites, receiver-rewrites, mutex-rewrites, pool-rewrites, mailbox-rewrites}
use Rattle.brd_kernel.proofs.who_waits.LeavingLemmas.{or-false, sleeps-nowhere, out-of-none, unlisted-out}
use Rattle.brd_kernel.proofs.who_waits.MovingLemmas.{IsMoved, moved-by-reason}
use Rattle.brd_kernel.proofs.PricedLemmas.{priced, priced_in}
use Rattle.brd_objects.specs.declared.mutex.Mutex.{Mutex}
use Rattle.brd_objects.specs.Mutexes.{protocol_order, mutex_awaited}
use Rattle.brd_objects.specs.Pools.{PoolState, pool_awaited}
use Rattle.brd_objects.specs.Mailboxes.{MailboxState, mailbox_awaited}

-- The parts of the kernel that say nothing of waits.

pub lists-by : (k new : KernelState) → new.semaphores ≡ k.semaphores → new.flags ≡ k.flags → new.queues ≡ k.queues → new.mutexes ≡ k.mutexes → new.pools ≡ k.pools → new.mailboxes ≡ k.mailboxes →
    (why : WaitReason) →
    standing_for new why ≡ standing_for k why
lists-by k new semaphores flags queues mutexes pools mailboxes reason.Sleep = refl
lists-by k new semaphores flags queues mutexes pools mailboxes reason.Delay = refl
lists-by k new semaphores flags queues mutexes pools mailboxes (reason.On kind.Semaphore object) = ap (λ table. semaphore_waiters (object_at table object)) semaphores
lists-by k new semaphores flags queues mutexes pools mailboxes (reason.On kind.Flag object) = ap (λ table. flag_waiters (object_at table object)) flags
lists-by k new semaphores flags queues mutexes pools mailboxes (reason.On kind.Room object) = ap (λ table. senders (object_at table object)) queues
lists-by k new semaphores flags queues mutexes pools mailboxes (reason.On kind.Datum object) = ap (λ table. receivers (object_at table object)) queues
lists-by k new semaphores flags queues mutexes pools mailboxes (reason.On kind.Mutex object) = ap (λ table. mutex_waiters (object_at table object)) mutexes
lists-by k new semaphores flags queues mutexes pools mailboxes (reason.On kind.Block object) = ap (λ table. pool_waiters (object_at table object)) pools
lists-by k new semaphores flags queues mutexes pools mailboxes (reason.On kind.Message object) = ap (λ table. mailbox_waiters (object_at table object)) mailboxes

pub parts-keep : (k new : KernelState) → new.tasks ≡ k.tasks → new.time ≡ k.time → new.semaphores ≡ k.semaphores → new.flags ≡ k.flags →
    new.queues ≡ k.queues → new.mutexes ≡ k.mutexes → new.pools ≡ k.pools → new.mailboxes ≡ k.mailboxes → StandsIn [] k → StandsIn [] new
parts-keep k new tasks time semaphores flags queues mutexes pools mailboxes was =
    by-lists [] new.tasks new.time (standing_for k) (standing_for new) (lists-by k new semaphores flags queues mutexes pools mailboxes)
    (subst (λ t. Stands [] t new.time (standing_for k)) (sym tasks) (subst (λ m. Stands [] k.tasks m (standing_for k)) (sym time) was))

pub processor-keeps : (k : KernelState) (cpu : ℕ) (p : Processor) → StandsIn [] k → StandsIn [] (with_processor k cpu p)
processor-keeps k cpu p was = parts-keep k (with_processor k cpu p) refl refl refl refl refl refl refl refl was

-- Tasks of which none waits otherwise.
pub tasks-keep : (k : KernelState) (t : TaskTable) → IsAsBefore k.tasks t → StandsIn [] k → StandsIn [] (with_tasks k t)
tasks-keep k t before was =
    by-lists [] t k.time (standing_for k) (standing_for (with_tasks k t)) (lists-by k (with_tasks k t) refl refl refl refl refl refl)
    (by-rows [] k.tasks t k.time (standing_for k) before.long before.same was)

-- A wait ends.

pub released-keep : (k : KernelState) (id answer : ℕ) (second : Option ℕ) (but : List ℕ) → StandsIn (id ∷ but) k →
    StandsIn but (released_in k id answer second)
released-keep k id answer second but was =
    let made = released-made k.tasks id answer second in
    by-lists but (released_with k.tasks id answer second) (with_due k.time id None) (standing_for k) (standing_for (released_in k id answer second))
    (lists-by k (released_in k id answer second) refl refl refl refl refl refl)
    (by-ending id but k.tasks (released_with k.tasks id answer second) k.time (standing_for k) made.long made.now was)

unlisted-stands : (k : KernelState) (id : ℕ) → StandsIn [] k → StandsIn (id ∷ []) (unlisted k id)
unlisted-stands k id was =
    let out : KernelState = unlisted k id in
    subst (λ t. Stands (id ∷ []) t out.time (standing_for out)) (sym (unlisted-only k id (reason_of k id)).tasks)
    (subst (λ m. Stands (id ∷ []) k.tasks m (standing_for out)) (sym (unlisted-only k id (reason_of k id)).time) (unlisted-out k id was))

pub broken-keeps : (k : KernelState) (id answer : ℕ) → StandsIn [] k → StandsIn [] (broken_off k id answer)
broken-keeps k id answer was = released-keep (unlisted k id) id answer None [] (unlisted-stands k id was)

pub ended-keeps : (k : KernelState) (id : ℕ) → StandsIn [] k → StandsIn [] (ended_in k id)
ended-keeps k id was =
    let made = ended-made k.tasks id in
    let out : KernelState = unlisted k id in
    by-lists [] (ended k.tasks id) (with_due k.time id None) (standing_for out) (standing_for (ended_in k id))
    (lists-by out (ended_in k id) refl refl refl refl refl refl)
    (by-ending id [] k.tasks (ended k.tasks id) k.time (standing_for out) made.long made.now (unlisted-out k id was))

-- one who sleeps stands in no list
pub asleep-out : (k : KernelState) (id p : ℕ) → waits (task_at k.tasks id) ≡ Some (reason.Sleep, p) → StandsIn [] k → StandsIn (id ∷ []) k
asleep-out k id p is was = out-of-none k id (Some (reason.Sleep, p)) is (sleeps-nowhere p) was

-- The first of a list leaves it.

first-has : (same other : Bool) → (same || false) ≡ true → (same || other) ≡ true
first-has true other is = refl
first-has false other is = absurd (false≢true is)

pub first-out : (k : KernelState) (new : WaitReason → List Plain) (why : WaitReason) (first : Plain) (others : List Plain) →
    Rewrites why others (standing_for k) new →
    standing_for k why ≡ first ∷ others → StandsIn [] k → Stands (first.id ∷ []) k.tasks k.time new
first-out k new why first others all is was =
    let apart : AreApart (first ∷ others) = subst AreApart is (was.apart why) in
    by-leaving-one (first.id ∷ []) k.tasks k.time (standing_for k) new why others all apart.2
    (λ at there. ap (has at) is ∙ first-has (first.id == at) (has at others) there)
    (λ at. priority_in-first at first others apart
    ∙ ap (λ l. if first.id == at then None else priority_in at l) (sym is)
    ∙ ap (λ t. if t then None else priority_in at (standing_for k why)) (sym (or-false (first.id == at))))
    was

-- A list is written as it was.

as-list : (same : Bool) (k : KernelState) (why other : WaitReason) (list : List Plain) → stands_in why other ≡ same → list ≡ standing_for k why →
    (if same then list else standing_for k other) ≡ standing_for k other
as-list true k why other list test is = is ∙ ap (standing_for k) (stands-same why other test)
as-list false k why other list test is = refl

pub unchanged-keeps : (k : KernelState) (new : WaitReason → List Plain) (why : WaitReason) (list : List Plain) →
    Rewrites why list (standing_for k) new → list ≡ standing_for k why →
    StandsIn [] k → Stands [] k.tasks k.time new
unchanged-keeps k new why list all is was =
    by-lists [] k.tasks k.time (standing_for k) new (λ other. all other ∙ as-list (stands_in why other) k why other list refl is) was

-- A wait begins.

ready-waits : (s : Status) (p : ℕ) → is_ready s ≡ true → waits_by (waiting_of s) p ≡ None
ready-waits Dormant p ready = refl
ready-waits Ready p ready = refl
ready-waits (Waiting why) p ready = absurd (false≢true ready)
ready-waits Suspended p ready = refl
ready-waits (WaitingSuspended why) p ready = absurd (false≢true ready)

begun-ready : (ready : Bool) (k : KernelState) (id : ℕ) (why : WaitReason) (due : Option ℕ) (entered : KernelState) (task : Task) →
    is_ready task.status ≡ ready → task_at k.tasks id ≡ Some task →
    IsTimedBy why due → (id < 256 → IsEntered id why (callers_priority k id) (standing_for k) (standing_for entered)) → StandsIn [] k →
    StandsIn [] (if ready then record entered { tasks = through (blocked why) k.tasks id; time = with_due k.time id due } else k)
begun-ready false k id why due entered task test there timed stood was = was
begun-ready true k id why due entered task test there timed stood was =
    let new : KernelState = record entered { tasks = through (blocked why) k.tasks id; time = with_due k.time id due } in
    let made = blocked-made why k.tasks id task there test in
    let small : id < 256 = subst (λ n. id < n) was.rows (row-small (nat_lt id (length k.tasks.rows)) k.tasks id task refl there) in
    let at_priority : IsEntered id why task.priority (standing_for k) (standing_for entered) =
    subst (λ p. IsEntered id why p (standing_for k) (standing_for entered)) (ap priority_of there) (stood small) in
    by-lists [] new.tasks new.time (standing_for entered) (standing_for new) (lists-by entered new refl refl refl refl refl refl)
    (by-beginning id task.priority why due k.tasks (through (blocked why) k.tasks id) k.time (standing_for k) (standing_for entered) made.long small
    (ap waits there ∙ ready-waits task.status task.priority test) made.now timed at_priority was)

begun-row : (k : KernelState) (id : ℕ) (why : WaitReason) (due : Option ℕ) (entered : KernelState) (row : Option Task) → task_at k.tasks id ≡ row →
    IsTimedBy why due → (id < 256 → IsEntered id why (callers_priority k id) (standing_for k) (standing_for entered)) → StandsIn [] k →
    StandsIn [] (if can_wait row then record entered { tasks = through (blocked why) k.tasks id; time = with_due k.time id due } else k)
begun-row k id why due entered None there timed stood was = was
begun-row k id why due entered (Some task) there timed stood was =
    begun-ready (is_ready task.status) k id why due entered task refl there timed stood was

pub wait-keeps : (k : KernelState) (id : ℕ) (why : WaitReason) (due : Option ℕ) (entered : KernelState) → IsTimedBy why due →
    (id < 256 → IsEntered id why (callers_priority k id) (standing_for k) (standing_for entered)) → StandsIn [] k →
    StandsIn [] (with_wait k id why due entered)
wait-keeps k id why due entered timed stood was = begun-row k id why due entered (task_at k.tasks id) refl timed stood was

-- The list that the task enters.

entered-by : (same : Bool) (id at p : ℕ) (why other : WaitReason) (list : List Plain) (old : WaitReason → List Plain) → stands_in why other ≡ same →
    priority_in at list ≡ (if id == at then Some p else priority_in at (old why)) →
    priority_in at (if same then list else old other) ≡ (if same then (if id == at then Some p else priority_in at (old other)) else priority_in at
    (old other))
entered-by true id at p why other list old test listed =
    listed ∙ ap (λ w. if id == at then Some p else priority_in at (old w)) (stands-same why other test)
entered-by false id at p why other list old test listed = refl

enters : (id p : ℕ) (why : WaitReason) (list : List Plain) (old new : WaitReason → List Plain) → Rewrites why list old new → AreApart list →
    ((other : WaitReason) → AreApart (old other)) →
    ((at : ℕ) → priority_in at list ≡ (if id == at then Some p else priority_in at (old why))) → IsEntered id why p old new
enters id p why list old new all apart were listed = record {
  apart = apart-rewritten why list old new all apart were;
  listed = λ at other. ap (priority_in at) (all other) ∙ entered-by (stands_in why other) id at p why other list old refl (listed at);
}

-- where there is no list, none is entered
pub enters-none : (id p : ℕ) (why : WaitReason) (lists : WaitReason → List Plain) → ((other : WaitReason) → stands_in why other ≡ false) →
    ((other : WaitReason) → AreApart (lists other)) →
    IsEntered id why p lists lists
enters-none id p why lists none were = record {
  apart = were;
  listed = λ at other. ap (λ t. if t then (if id == at then Some p else priority_in at (lists other)) else priority_in at (lists other))
      (sym (none other));
}

placed-apart : {W : Type 0} → (order : QueueOrder) (e : QueueEntry W) (xs : List (QueueEntry W)) → e.id < 256 → AreApart (plain xs) →
    AreApart (plain (placed order e xs))
placed-apart order e xs small apart = apart-plain (placed order e xs) (apart-placed order e xs small (apart-wanting xs apart))

-- `old` is the list of what a task waits for, before it enters
placed-listed : {W : Type 0} → (order : QueueOrder) (at : ℕ) (e : QueueEntry W) (xs : List (QueueEntry W)) (old : List Plain) → old ≡ plain xs →
    priority_in at (plain (placed order e xs)) ≡ (if e.id == at then Some e.priority else priority_in at old)
placed-listed order at e xs old is =
    priority_in-plain at (placed order e xs) ∙ priority_in-placed order at e xs
    ∙ ap (λ q. if e.id == at then Some e.priority else q) (sym (priority_in-plain at xs) ∙ ap (priority_in at) (sym is))

-- the task is placed in one list
enters-placed : {W : Type 0} → (k : KernelState) (new : WaitReason → List Plain) (why : WaitReason) (order : QueueOrder) (e : QueueEntry W) (xs : List (QueueEntry W))
    (list : List Plain) → list ≡ plain (placed order e xs) → standing_for k why ≡ plain xs → Rewrites why list (standing_for k) new → StandsIn [] k →
    e.id < 256 → IsEntered e.id why e.priority (standing_for k) new
enters-placed k new why order e xs list is were all was small =
    enters e.id e.priority why list (standing_for k) new all
    (subst AreApart (sym is) (placed-apart order e xs small (subst AreApart were (was.apart why))))
    was.apart
    (λ at. ap (priority_in at) is ∙ placed-listed order at e xs (standing_for k why) were)

pub enters-object : (k : KernelState) (id object : ℕ) (lacks : Lacks k object) → StandsIn [] k → id < 256 →
    IsEntered id (reason.On (lacked lacks) object) (callers_priority k id) (standing_for k) (standing_for (awaiting k id object lacks))
enters-object k id object (No-one s there none) was small =
    let p : ℕ = callers_priority k id in
    let f : Semaphore → Semaphore = semaphore_awaited id p in
    enters-placed k (standing_for (in_semaphore k id object)) (reason.On kind.Semaphore object) s.order
    (record { id = id; priority = p; wanted = tt }) s.waiters
    (f s).waiters (sym (plain-same (f s).waiters)) (ap semaphore_waiters there ∙ sym (plain-same s.waiters))
    (semaphore-rewrites f k object s there) was small
enters-object k id object (No-bits want f there none some) was small =
    let p : ℕ = callers_priority k id in
    enters-placed k (standing_for (in_flag k id object want)) (reason.On kind.Flag object) f.order
    (record { id = id; priority = p; wanted = want }) f.waiters
    (plain (flag_awaited id p want f).waiters) refl (ap flag_waiters there)
    (flag-rewrites (flag_awaited id p want) k object f there) was small
enters-object k id object (No-room datum q there full) was small =
    let p : ℕ = callers_priority k id in
    enters-placed k (standing_for (in_senders k id object datum)) (reason.On kind.Room object) q.order
    (record { id = id; priority = p; wanted = datum }) q.senders
    (plain (awaited_by_sender id p datum q).senders) refl (ap senders there)
    (sender-rewrites (awaited_by_sender id p datum) k object q there refl) was small
enters-object k id object (No-datum q there none) was small =
    let p : ℕ = callers_priority k id in
    let f : DataQueueState → DataQueueState = awaited_by_receiver id p in
    enters-placed k (standing_for (in_receivers k id object)) (reason.On kind.Datum object) Arrival
    (record { id = id; priority = p; wanted = tt }) q.receivers
    (f q).receivers (sym (plain-same (f q).receivers)) (ap receivers there ∙ sym (plain-same q.receivers))
    (receiver-rewrites f k object q there refl) was small
enters-object k id object (No-mutex m there held) was small =
    let p : ℕ = callers_priority k id in
    let f : Mutex → Mutex = mutex_awaited id p in
    enters-placed k (standing_for (in_mutex k id object)) (reason.On kind.Mutex object) (protocol_order m.protocol)
    (record { id = id; priority = p; wanted = tt }) m.waiters
    (f m).waiters (sym (plain-same (f m).waiters)) (ap mutex_waiters there ∙ sym (plain-same m.waiters))
    (mutex-rewrites f k object m there) was small
enters-object k id object (No-block b there none) was small =
    let p : ℕ = callers_priority k id in
    let f : PoolState → PoolState = pool_awaited id p in
    enters-placed k (standing_for (in_pool k id object)) (reason.On kind.Block object) b.order
    (record { id = id; priority = p; wanted = tt }) b.waiters
    (f b).waiters (sym (plain-same (f b).waiters)) (ap pool_waiters there ∙ sym (plain-same b.waiters))
    (pool-rewrites f k object b there) was small
enters-object k id object (No-message m there none) was small =
    let p : ℕ = callers_priority k id in
    let f : MailboxState → MailboxState = mailbox_awaited id p in
    enters-placed k (standing_for (in_mailbox k id object)) (reason.On kind.Message object) m.order
    (record { id = id; priority = p; wanted = tt }) m.waiters
    (f m).waiters (sym (plain-same (f m).waiters)) (ap mailbox_waiters there ∙ sym (plain-same m.waiters))
    (mailbox-rewrites f k object m there) was small

-- Another priority.

pub priority-keeps : (k : KernelState) (base : Task → ℕ) (id p : ℕ) (task : Task) (why : Option WaitReason) → task_at k.tasks id ≡ Some task →
    waiting_of task.status ≡ why → StandsIn [] k →
    StandsIn [] (priced_in k base id p why)
priority-keeps k base id p task None there waiting was =
    tasks-keep k (changed (priced base p) k.tasks id)
    (changed-before k.tasks base id p (ap waits there ∙ ap (λ w. waits_by w task.priority) waiting)) was
priority-keeps k base id p task (Some why) there waiting was =
    let t : TaskTable = changed (priced base p) k.tasks id in
    let on : KernelState = with_tasks k t in
    let new : KernelState = reordered_in on id p (Some why) in
    let is : waits (task_at k.tasks id) ≡ Some (why, task.priority) = ap waits there ∙ ap (λ w. waits_by w task.priority) waiting in
    let made = changed-made k.tasks base id p why task there waiting in
    let stood : Stands [] k.tasks k.time (standing_for on) =
    by-lists [] k.tasks k.time (standing_for k) (standing_for on) (lists-by k on refl refl refl refl refl refl) was in
    let moved : (other : WaitReason) → IsMoved id p (standing_for new other) (standing_for on other) =
    moved-by-reason on k.tasks k.time id p task.priority why is stood in
    subst (λ x. Stands [] x new.time (standing_for new)) (sym (reordered-only on id p (Some why)).tasks)
    (subst (λ m. Stands [] t m (standing_for new)) (sym (reordered-only on id p (Some why)).time)
    (by-priority id p (why, task.priority) k.tasks t k.time (standing_for on)
    (standing_for new) made.long is made.now (λ other. (moved other).apart (stood.apart other)) (λ at other. (moved other).listed at) stood))
