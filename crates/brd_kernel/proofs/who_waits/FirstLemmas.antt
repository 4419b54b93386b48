-- What holds of waits at the making, where nobody waits, and when tasks are started.
use Rattle.std.proofs.Common.{◌≡◌, ◌<◌, ◌≤◌, ℕ, List, [], length, refl, sym, ap, subst, ◌∙◌, arith}
use Rattle.std.specs.Prelude.{Bool, true, false, ◌==◌, nat_lt, find, Option, None, Some, IfSome, slice_index_or}
use Rattle.std.specs.Option.{option_map}
use Rattle.std.proofs.lemmas.Bool.Decides.{nat_tests}
use Rattle.std.proofs.lemmas.List.FromFn.{length-map-range_with_len, get_or-map-range_with_len}
use Rattle.std.proofs.Math.ListN.{get_or-eq_default}
use Rattle.brd_queue.specs.declared.entry.QueueOrder.{QueueOrder}
use Rattle.brd_queue.specs.declared.entry.QueueOrder.TheVariants.{Arrival, Priority}
use Rattle.brd_queue.specs.Queue.{Plain, priority_in, AreApart}
use Rattle.brd_tasks.specs.declared.status.WaitReason.{WaitReason}
use Rattle.brd_tasks.specs.declared.status.WaitReason.TheVariants as reason
use Rattle.brd_tasks.specs.declared.status.WaitKind.TheVariants as kind
use Rattle.brd_tasks.specs.declared.task.TaskSetup.{TaskSetup}
use Rattle.brd_tasks.specs.declared.task.Request.{Request}
use Rattle.brd_tasks.specs.Tasks.{activated, unstarted, first_rows}
use Rattle.brd_tasks.proofs.MadeLemmas.{rows-length, same-at, row-at}
use Rattle.brd_time.specs.Time.{due_of, beginning}
use Rattle.brd_config.specs.declared.objects.SemaphoreConfig.{SemaphoreConfig}
use Rattle.brd_config.specs.declared.objects.FlagConfig.{FlagConfig}
use Rattle.brd_config.specs.declared.objects.QueueConfig.{QueueConfig}
use Rattle.brd_config.specs.declared.objects.SpinLockConfig.{SpinLockConfig}
use Rattle.brd_config.specs.declared.objects.MutexConfig.{MutexConfig}
use Rattle.brd_config.specs.declared.objects.MailboxConfig.{MailboxConfig}
use Rattle.brd_objects.specs.declared.block.PoolSetup.{PoolSetup}
use Rattle.brd_objects.specs.declared.want.Want.{Want}
use Rattle.brd_objects.specs.QueueOrder.{order_of}
use Rattle.brd_objects.specs.Table.{object_at, made_at, made_below}
use Rattle.brd_objects.specs.Semaphores.{semaphore_of}
use Rattle.brd_objects.specs.Flags.{flag_of}
use Rattle.brd_objects.specs.DataQueues.{data_queue_of}
use Rattle.brd_kernel.specs.declared.processor.LineSetup.{LineSetup}
use Rattle.brd_kernel.specs.Kernel.{KernelState, with_tasks}
use Rattle.brd_kernel.specs.Making.{made_kernel}
use Rattle.brd_kernel.specs.Waiting.{semaphore_waiters, flag_waiters, senders, receivers, standing_for, AreInOrder, SemaphoreIsKept, FlagIsKept, QueueIsKept, SleeperIsKept, EachIsKept, WaitsAreKept, mutex_waiters, MutexIsKept}
use Rattle.brd_kernel.proofs.who_waits.StandingLemmas.{waits, wanted, IsTimed, StandsIn, stands, kept}
use Rattle.brd_kernel.proofs.nobody_waits.SleeperLemmas.{activated-kept}
use Rattle.brd_kernel.proofs.nobody_waits.EachLemmas.{tasks-kept}
use Rattle.brd_kernel.proofs.who_waits.RowLemmas.{activated-before}
use Rattle.brd_kernel.proofs.who_waits.WaitingLemmas.{tasks-keep}
use Rattle.brd_objects.specs.Mutexes.{mutex_of, protocol_order}
use Rattle.brd_objects.specs.Pools.{pool_of}
use Rattle.brd_objects.specs.Mailboxes.{mailbox_of}
use Rattle.brd_kernel.specs.Waiting.{pool_waiters, mailbox_waiters, PoolIsKept, MailboxIsKept}

-- what stands at a place of a table that is made: what its ID makes, or nothing
made-by : {C X : Type 0} → (small : Bool) (id_of : C → ℕ) (object_of : C → X) (configs : List C) (n at : ℕ) (P : Option X → Type 0) →
    nat_lt at n ≡ small → P None → P (made_at id_of object_of configs at) →
    P (slice_index_or (made_below id_of object_of configs n) at None)
unfolding made_below
made-by true id_of object_of configs n at P test none some =
    let small : at < n = grind (arith, nat_tests, test) in
    subst P (sym (get_or-map-range_with_len (made_at id_of object_of configs) 0 n at at None small (omega arith))) some
made-by false id_of object_of configs n at P test none some =
    let past : length (made_below id_of object_of configs n) ≤ at =
    grind (arith, nat_tests, test, length-map-range_with_len (made_at id_of object_of configs) 0 n) in
    subst P (sym (get_or-eq_default (made_below id_of object_of configs n) None past)) none

-- nobody waits for an object that is as its configuration says it
nobody-at : {C X : Type 0} → (object_of : C → X) (list : Option X → List Plain) (found : Option C) → list None ≡ [] →
    ((c : C) → list (Some (object_of c)) ≡ []) →
    list (option_map object_of found) ≡ []
nobody-at object_of list None none some = none
nobody-at object_of list (Some c) none some = some c

nobody-made : {C X : Type 0} → (id_of : C → ℕ) (object_of : C → X) (configs : List C) (at : ℕ) (list : Option X → List Plain) → list None ≡ [] →
    ((c : C) → list (Some (object_of c)) ≡ []) →
    list (object_at (made_below id_of object_of configs 256) at) ≡ []
nobody-made id_of object_of configs at list none some =
    made-by (nat_lt at 256) id_of object_of configs 256 at (λ found. list found ≡ []) refl none
    (nobody-at object_of list (find (λ c. id_of c == at) configs) none some)

nobody-waits : (standard : Bool) (processors : ℕ) (setups : List TaskSetup) (lines : List LineSetup) (semaphores : List SemaphoreConfig) (flags : List FlagConfig) (queues : List QueueConfig) (spin_locks : List SpinLockConfig) (mutexes : List MutexConfig) (pools : List PoolSetup) (mailboxes : List MailboxConfig)
    (why : WaitReason) →
    standing_for (made_kernel standard processors setups lines semaphores flags queues spin_locks mutexes pools mailboxes) why ≡ []
nobody-waits standard processors setups lines semaphores flags queues spin_locks mutexes pools mailboxes reason.Sleep = refl
nobody-waits standard processors setups lines semaphores flags queues spin_locks mutexes pools mailboxes reason.Delay = refl
nobody-waits standard processors setups lines semaphores flags queues spin_locks mutexes pools mailboxes (reason.On kind.Semaphore object) =
    nobody-made (λ config. config.id) semaphore_of semaphores object semaphore_waiters refl (λ c. refl)
nobody-waits standard processors setups lines semaphores flags queues spin_locks mutexes pools mailboxes (reason.On kind.Flag object) =
    nobody-made (λ config. config.id) flag_of flags object flag_waiters refl (λ c. refl)
nobody-waits standard processors setups lines semaphores flags queues spin_locks mutexes pools mailboxes (reason.On kind.Room object) =
    nobody-made (λ config. config.id) data_queue_of queues object senders refl (λ c. refl)
nobody-waits standard processors setups lines semaphores flags queues spin_locks mutexes pools mailboxes (reason.On kind.Datum object) =
    nobody-made (λ config. config.id) data_queue_of queues object receivers refl (λ c. refl)
nobody-waits standard processors setups lines semaphores flags queues spin_locks mutexes pools mailboxes (reason.On kind.Mutex object) =
    nobody-made (λ config. config.id) mutex_of mutexes object mutex_waiters refl (λ c. refl)
nobody-waits standard processors setups lines semaphores flags queues spin_locks mutexes pools mailboxes (reason.On kind.Block object) =
    nobody-made (λ setup. setup.id) pool_of pools object pool_waiters refl (λ c. refl)
nobody-waits standard processors setups lines semaphores flags queues spin_locks mutexes pools mailboxes (reason.On kind.Message object) =
    nobody-made (λ config. config.id) mailbox_of mailboxes object mailbox_waiters refl (λ c. refl)

-- a task that hasn't started waits for nothing
first-waits : (found : Option TaskSetup) → waits (option_map unstarted found) ≡ None
first-waits None = refl
first-waits (Some setup) = refl

nothing-waited : (setups : List TaskSetup) (at : ℕ) → waits (slice_index_or (first_rows setups 256) at None) ≡ None
nothing-waited setups at =
    row-at (nat_lt at 256) setups 256 at refl (λ row. waits row ≡ None) refl (first-waits (find (λ setup. setup.id == at) setups))

undue : (at : ℕ) → due_of beginning at ≡ None
unfolding beginning
undue at = same-at 256 at None

dues-long : length beginning.dues ≡ 256
unfolding beginning
dues-long = refl

made-stands : (standard : Bool) (processors : ℕ) (setups : List TaskSetup) (lines : List LineSetup) (semaphores : List SemaphoreConfig) (flags : List FlagConfig) (queues : List QueueConfig) (spin_locks : List SpinLockConfig) (mutexes : List MutexConfig) (pools : List PoolSetup) (mailboxes : List MailboxConfig) →
    StandsIn [] (made_kernel standard processors setups lines semaphores flags queues spin_locks mutexes pools mailboxes)
made-stands standard processors setups lines semaphores flags queues spin_locks mutexes pools mailboxes = record {
  rows = rows-length setups 256;
  dues = dues-long;
  apart = λ why. subst AreApart (sym (nobody-waits standard processors setups lines semaphores flags queues spin_locks mutexes pools mailboxes why)) tt;
  listed = λ id why. ap (priority_in id) (nobody-waits standard processors setups lines semaphores flags queues spin_locks mutexes pools mailboxes why)
      ∙ sym (ap (λ w. wanted w why) (nothing-waited setups id));
  timed = λ id in_it. subst (λ w. IsTimed w (due_of beginning id)) (sym (nothing-waited setups id)) (undue id);
}

-- nobody waits for an object

some-first : {C X : Type 0} → (P : X → Type 0) (object_of : C → X) (found : Option C) → ((c : C) → P (object_of c)) →
    IfSome (option_map object_of found) P
some-first P object_of None first = tt
some-first P object_of (Some c) first = first c

pub each-first : {C X : Type 0} → (P : X → Type 0) (id_of : C → ℕ) (object_of : C → X) (configs : List C) (at : ℕ) → ((c : C) → P (object_of c)) →
    IfSome (object_at (made_below id_of object_of configs 256) at) P
each-first P id_of object_of configs at first =
    made-by (nat_lt at 256) id_of object_of configs 256 at (λ found. IfSome found P) refl tt
    (some-first P object_of (find (λ c. id_of c == at) configs) first)

empty-in-order : (W : Type 0) (order : QueueOrder) → AreInOrder {W = W} order []
empty-in-order W Arrival = tt
empty-in-order W Priority = tt

-- a task that hasn't started doesn't sleep

unstarted-kept : (found : Option TaskSetup) → IfSome (option_map unstarted found) (λ task. SleeperIsKept task)
unstarted-kept None = tt
unstarted-kept (Some setup) = λ asleep. refl

made-each : (standard : Bool) (processors : ℕ) (setups : List TaskSetup) (lines : List LineSetup) (semaphores : List SemaphoreConfig) (flags : List FlagConfig) (queues : List QueueConfig) (spin_locks : List SpinLockConfig) (mutexes : List MutexConfig) (pools : List PoolSetup) (mailboxes : List MailboxConfig) →
    EachIsKept (made_kernel standard processors setups lines semaphores flags queues spin_locks mutexes pools mailboxes)
made-each standard processors setups lines semaphores flags queues spin_locks mutexes pools mailboxes = record {
  sleepers = λ at. row-at (nat_lt at 256) setups 256 at refl (λ row. IfSome row (λ task. SleeperIsKept task)) tt
      (unstarted-kept (find (λ setup. setup.id == at) setups));
  semaphores = λ at. each-first (λ s. SemaphoreIsKept s) (λ config. config.id) semaphore_of semaphores at
      (λ c. record { ordered = empty-in-order (Unit {0}) (order_of c.attributes.0); lacking = λ has. refl });
  flags = λ at. each-first (λ f. FlagIsKept f) (λ config. config.id) flag_of flags at
      (λ c. record { ordered = empty-in-order Want (order_of c.attributes.0); bits = tt; lacking = tt });
  queues = λ at. each-first (λ q. QueueIsKept q) (λ config. config.id) data_queue_of queues at
      (λ c. record { ordered = empty-in-order ℕ (order_of c.attributes.0); room = λ has. refl; datum = λ some. (refl, refl) });
  mutexes = λ at. each-first (λ m. MutexIsKept m) (λ config. config.id) mutex_of mutexes at
      (λ c. record { ordered = empty-in-order (Unit {0}) (protocol_order c.protocol); lacking = λ none. refl });
  pools = λ at. each-first (λ p. PoolIsKept p) (λ setup. setup.id) pool_of pools at
      (λ c. record { ordered = empty-in-order (Unit {0}) (order_of c.attributes.0); lacking = λ there. refl });
  mailboxes = λ at. each-first (λ m. MailboxIsKept m) (λ config. config.id) mailbox_of mailboxes at
      (λ c. record { ordered = empty-in-order (Unit {0}) (order_of c.attributes.0); lacking = λ there. refl });
}

pub made-keeps : (standard : Bool) (processors : ℕ) (setups : List TaskSetup) (lines : List LineSetup) (semaphores : List SemaphoreConfig) (flags : List FlagConfig)
    (queues : List QueueConfig) (spin_locks : List SpinLockConfig) (mutexes : List MutexConfig) (pools : List PoolSetup) (mailboxes : List MailboxConfig) →
    WaitsAreKept (made_kernel standard processors setups lines semaphores flags queues spin_locks mutexes pools mailboxes)
made-keeps standard processors setups lines semaphores flags queues spin_locks mutexes pools mailboxes =
    kept (made_kernel standard processors setups lines semaphores flags queues spin_locks mutexes pools mailboxes) (made-stands standard processors setups lines semaphores flags queues spin_locks mutexes pools mailboxes)
    (made-each standard processors setups lines semaphores flags queues spin_locks mutexes pools mailboxes)

pub activated-keeps : (k : KernelState) (id : ℕ) (request : Request) → WaitsAreKept k → WaitsAreKept (with_tasks k (activated k.tasks id request))
activated-keeps k id request was =
    kept (with_tasks k (activated k.tasks id request))
    (tasks-keep k (activated k.tasks id request) (activated-before k.tasks id request) (stands k was))
    (tasks-kept k (activated k.tasks id request) (activated-kept k.tasks id request was.each.sleepers) was.each)
