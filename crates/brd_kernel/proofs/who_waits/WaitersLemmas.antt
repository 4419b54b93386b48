-- The lists of waiters, when objects are changed.
use Rattle.std.proofs.Common.{◌≡◌, ℕ, zero, suc, List, [], ◌∷◌, refl, sym, ap, subst, ◌∙◌}
use Rattle.std.specs.Prelude.{Bool, true, false, ◌==◌, if◌then◌else◌, Option, None, Some, slice_set}
use Rattle.std.specs.Option.{option_map}
use Rattle.brd_queue.specs.Queue.{Plain}
use Rattle.brd_tasks.specs.declared.status.WaitReason.{WaitReason}
use Rattle.brd_tasks.specs.declared.status.WaitReason.TheVariants as reason
use Rattle.brd_tasks.specs.declared.status.WaitKind.{WaitKind}
use Rattle.brd_tasks.specs.declared.status.WaitKind.TheVariants as kind
use Rattle.brd_objects.specs.declared.semaphore.Semaphore.{Semaphore}
use Rattle.brd_objects.specs.declared.flag.Flag.{Flag}
use Rattle.brd_objects.specs.Table.{Table, object_at, object_changed, objects_changed}
use Rattle.brd_objects.specs.DataQueues.{DataQueueState}
use Rattle.brd_objects.specs.Pools.{PoolState}
use Rattle.brd_objects.specs.Mailboxes.{MailboxState}
use Rattle.brd_kernel.specs.Kernel.{KernelState}
use Rattle.brd_kernel.specs.Waits.{Change, changed_of}
use Rattle.brd_kernel.specs.Waiting.{plain, semaphore_waiters, flag_waiters, senders, receivers, standing_for, mutex_waiters, pool_waiters, mailbox_waiters}
use Rattle.brd_kernel.proofs.who_waits.ListLemmas.{if-lift, same-number, written-at}
use Rattle.brd_kernel.proofs.who_waits.StandingLemmas.{stands_in, wanted}
use Rattle.brd_objects.specs.declared.mutex.Mutex.{Mutex}

-- One object is changed.

object-changed : {X : Type 0} → (f : X → X) (table : Table X) (id at : ℕ) (x : X) → object_at table id ≡ Some x →
    object_at (object_changed f table id) at ≡ (if id == at then Some (f x) else object_at table at)
object-changed f table id at x there =
    ap (λ o. object_at (slice_set table id (option_map f o)) at) there ∙ written-at table id at x (Some (f x)) there

pub semaphore-rewrites : (f : Semaphore → Semaphore) (k : KernelState) (id : ℕ) (s : Semaphore) → object_at k.semaphores id ≡ Some s →
    (other : WaitReason) →
    standing_for (record k { semaphores = object_changed f k.semaphores id }) other ≡
    (if stands_in (reason.On kind.Semaphore id) other then (f s).waiters else standing_for k other)
semaphore-rewrites f k id s there (reason.On kind.Semaphore object) =
    ap semaphore_waiters (object-changed f k.semaphores id object s there)
    ∙ if-lift semaphore_waiters (id == object) (Some (f s)) (object_at k.semaphores object)
semaphore-rewrites f k id s there _ = refl

pub flag-rewrites : (f : Flag → Flag) (k : KernelState) (id : ℕ) (g : Flag) → object_at k.flags id ≡ Some g → (other : WaitReason) →
    standing_for (record k { flags = object_changed f k.flags id }) other ≡
    (if stands_in (reason.On kind.Flag id) other then plain (f g).waiters else standing_for k other)
flag-rewrites f k id g there (reason.On kind.Flag object) =
    ap flag_waiters (object-changed f k.flags id object g there) ∙ if-lift flag_waiters (id == object) (Some (f g)) (object_at k.flags object)
flag-rewrites f k id g there _ = refl

pub mutex-rewrites : (f : Mutex → Mutex) (k : KernelState) (id : ℕ) (m : Mutex) → object_at k.mutexes id ≡ Some m → (other : WaitReason) →
    standing_for (record k { mutexes = object_changed f k.mutexes id }) other ≡
    (if stands_in (reason.On kind.Mutex id) other then (f m).waiters else standing_for k other)
mutex-rewrites f k id m there (reason.On kind.Mutex object) =
    ap mutex_waiters (object-changed f k.mutexes id object m there) ∙ if-lift mutex_waiters (id == object) (Some (f m)) (object_at k.mutexes object)
mutex-rewrites f k id m there _ = refl

pub pool-rewrites : (f : PoolState → PoolState) (k : KernelState) (id : ℕ) (p : PoolState) → object_at k.pools id ≡ Some p → (other : WaitReason) →
    standing_for (record k { pools = object_changed f k.pools id }) other ≡
    (if stands_in (reason.On kind.Block id) other then (f p).waiters else standing_for k other)
pool-rewrites f k id p there (reason.On kind.Block object) =
    ap pool_waiters (object-changed f k.pools id object p there) ∙ if-lift pool_waiters (id == object) (Some (f p)) (object_at k.pools object)
pool-rewrites f k id p there _ = refl

pub mailbox-rewrites : (f : MailboxState → MailboxState) (k : KernelState) (id : ℕ) (m : MailboxState) → object_at k.mailboxes id ≡ Some m → (other : WaitReason) →
    standing_for (record k { mailboxes = object_changed f k.mailboxes id }) other ≡
    (if stands_in (reason.On kind.Message id) other then (f m).waiters else standing_for k other)
mailbox-rewrites f k id m there (reason.On kind.Message object) =
    ap mailbox_waiters (object-changed f k.mailboxes id object m there) ∙ if-lift mailbox_waiters (id == object) (Some (f m)) (object_at k.mailboxes object)
mailbox-rewrites f k id m there _ = refl

-- of a queue one list stays

list-stays : (here : Bool) (list : Option DataQueueState → List Plain) (table : Table DataQueueState) (id at : ℕ) (q new : DataQueueState) →
    (id == at) ≡ here → object_at table id ≡ Some q →
    list (Some new) ≡ list (Some q) → list (if here then Some new else object_at table at) ≡ list (object_at table at)
list-stays true list table id at q new test there same = same ∙ ap list (sym there) ∙ ap (λ n. list (object_at table n)) (same-number id at test)
list-stays false list table id at q new test there same = refl

pub sender-rewrites : (f : DataQueueState → DataQueueState) (k : KernelState) (id : ℕ) (q : DataQueueState) → object_at k.queues id ≡ Some q →
    (f q).receivers ≡ q.receivers → (other : WaitReason) →
    standing_for (record k { queues = object_changed f k.queues id }) other ≡
    (if stands_in (reason.On kind.Room id) other then plain (f q).senders else standing_for k other)
sender-rewrites f k id q there same (reason.On kind.Room object) =
    ap senders (object-changed f k.queues id object q there) ∙ if-lift senders (id == object) (Some (f q)) (object_at k.queues object)
sender-rewrites f k id q there same (reason.On kind.Datum object) =
    ap receivers (object-changed f k.queues id object q there) ∙ list-stays (id == object) receivers k.queues id object q (f q) refl there same
sender-rewrites f k id q there same _ = refl

pub receiver-rewrites : (f : DataQueueState → DataQueueState) (k : KernelState) (id : ℕ) (q : DataQueueState) → object_at k.queues id ≡ Some q →
    (f q).senders ≡ q.senders → (other : WaitReason) →
    standing_for (record k { queues = object_changed f k.queues id }) other ≡
    (if stands_in (reason.On kind.Datum id) other then (f q).receivers else standing_for k other)
receiver-rewrites f k id q there same (reason.On kind.Room object) =
    ap senders (object-changed f k.queues id object q there) ∙ list-stays (id == object) senders k.queues id object q (f q) refl there (ap plain same)
receiver-rewrites f k id q there same (reason.On kind.Datum object) =
    ap receivers (object-changed f k.queues id object q there) ∙ if-lift receivers (id == object) (Some (f q)) (object_at k.queues object)
receiver-rewrites f k id q there same _ = refl

-- All objects of a kind are changed: what a change makes of each list it makes of all of that kind.

pub mapped-at : {X : Type 0} → (f : X → X) (table : Table X) (at : ℕ) → object_at (objects_changed f table) at ≡ option_map f (object_at table at)
mapped-at f [] at = refl
mapped-at f (x ∷ xs) zero = refl
mapped-at f (x ∷ xs) (suc at) = mapped-at f xs at

-- what a change makes of the list of each object; where there is no object, the list is empty
pub record OfEach (R : List Plain → List Plain → Type 0) (change : Change) : Type 0 where
  pub nobody : R [] []
  pub semaphore : (s : Semaphore) → R (plain (change.semaphore s).waiters) (plain s.waiters)
  pub flag : (f : Flag) → R (plain (change.flag f).waiters) (plain f.waiters)
  pub room : (q : DataQueueState) → R (plain (change.queue q).senders) (plain q.senders)
  pub datum : (q : DataQueueState) → R (plain (change.queue q).receivers) (plain q.receivers)
  pub mutex : (m : Mutex) → R (plain (change.mutex m).waiters) (plain m.waiters)
  pub pool : (p : PoolState) → R (plain (change.pool p).waiters) (plain p.waiters)
  pub mailbox : (m : MailboxState) → R (plain (change.mailbox m).waiters) (plain m.waiters)

pub plain-same : (xs : List Plain) → plain xs ≡ xs
plain-same [] = refl
plain-same (x ∷ xs) = ap (λ l. x ∷ l) (plain-same xs)

as-plain : (R : List Plain → List Plain → Type 0) (new old : List Plain) → R (plain new) (plain old) → R new old
as-plain R new old is = subst (λ l. R l old) (plain-same new) (subst (λ l. R (plain new) l) (plain-same old) is)

found-by : {X : Type 0} → (R : List Plain → List Plain → Type 0) (list : Option X → List Plain) (f : X → X) (found : Option X) →
    R (list None) (list None) → ((x : X) → R (list (Some (f x))) (list (Some x))) → R (list (option_map f found)) (list found)
found-by R list f None none some = none
found-by R list f (Some x) none some = some x

at-by : {X : Type 0} → (R : List Plain → List Plain → Type 0) (list : Option X → List Plain) (f : X → X) (table : Table X) (at : ℕ) →
    R (list None) (list None) → ((x : X) → R (list (Some (f x))) (list (Some x))) →
    R (list (object_at (objects_changed f table) at)) (list (object_at table at))
at-by R list f table at none some =
    subst (λ x. R (list x) (list (object_at table at))) (sym (mapped-at f table at)) (found-by R list f (object_at table at) none some)

-- the lists of others stay
pub changed-all : (R : List Plain → List Plain → Type 0) (change : Change) (k : KernelState) (what : WaitKind) → OfEach R change →
    ((other : WaitReason) → ((object : ℕ) → stands_in (reason.On what object) other ≡ false) → R (standing_for k other) (standing_for k other)) →
    (other : WaitReason) → R (standing_for (changed_of change k what) other) (standing_for k other)
changed-all R change k kind.Semaphore each rest (reason.On kind.Semaphore at) =
    at-by R semaphore_waiters change.semaphore k.semaphores at each.nobody
    (λ (s : Semaphore). as-plain R (change.semaphore s).waiters s.waiters (each.semaphore s))
changed-all R change k kind.Flag each rest (reason.On kind.Flag at) = at-by R flag_waiters change.flag k.flags at each.nobody each.flag
changed-all R change k kind.Mutex each rest (reason.On kind.Mutex at) =
    at-by R mutex_waiters change.mutex k.mutexes at each.nobody (λ (m : Mutex). as-plain R (change.mutex m).waiters m.waiters (each.mutex m))
changed-all R change k kind.Block each rest (reason.On kind.Block at) =
    at-by R pool_waiters change.pool k.pools at each.nobody (λ (p : PoolState). as-plain R (change.pool p).waiters p.waiters (each.pool p))
changed-all R change k kind.Message each rest (reason.On kind.Message at) =
    at-by R mailbox_waiters change.mailbox k.mailboxes at each.nobody (λ (m : MailboxState). as-plain R (change.mailbox m).waiters m.waiters (each.mailbox m))
changed-all R change k kind.Room each rest (reason.On kind.Room at) = at-by R senders change.queue k.queues at each.nobody each.room
changed-all R change k kind.Room each rest (reason.On kind.Datum at) = at-by R receivers change.queue k.queues at each.nobody
    (λ (q : DataQueueState). as-plain R (change.queue q).receivers q.receivers (each.datum q))
changed-all R change k kind.Datum each rest (reason.On kind.Room at) = at-by R senders change.queue k.queues at each.nobody each.room
changed-all R change k kind.Datum each rest (reason.On kind.Datum at) = at-by R receivers change.queue k.queues at each.nobody
    (λ (q : DataQueueState). as-plain R (change.queue q).receivers q.receivers (each.datum q))
changed-all R change k what each rest other = rest other (λ object. refl)

-- who waits for something stands in no list of others
pub elsewhere-none : (what : WaitKind) (object p : ℕ) (other : WaitReason) → ((at : ℕ) → stands_in (reason.On what at) other ≡ false) →
    wanted (Some (reason.On what object, p)) other ≡ None
elsewhere-none what object p other none = ap (λ test. if test then Some p else None) (none object)
