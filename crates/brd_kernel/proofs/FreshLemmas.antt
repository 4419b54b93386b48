-- A kernel in which nobody waits and nobody has a mutex: each task has its base priority. So it is at boot.
use Rattle.std.proofs.Common.{◌≡◌, ◌<◌, ◌≤◌, ℕ, zero, suc, List, length, refl, sym, ap, subst, ◌∙◌, arith}
use Rattle.std.specs.Prelude.{Bool, true, false, ◌==◌, nat_lt, if◌then◌else◌, Option, None, Some, IfSome, find, replicate, slice_set, slice_index_or}
use Rattle.std.specs.Option.{option_map}
use Rattle.std.proofs.lemmas.Bool.Decides.{nat_tests}
use Rattle.std.proofs.lemmas.List.{get_or-set_same, get_or-set_other, length-set}
use Rattle.brd_tasks.specs.declared.task.TaskSetup.{TaskSetup}
use Rattle.brd_tasks.specs.declared.task.Task.{Task}
use Rattle.brd_tasks.specs.declared.task.Request.{Request}
use Rattle.brd_tasks.specs.Status.{waiting_of, is_dormant}
use Rattle.brd_tasks.specs.Tasks.{TaskTable, task_at, unstarted, started, processor_of, starts, patched, where_there, activated}
use Rattle.brd_tasks.proofs.MadeLemmas.{same-at, row-at}
use Rattle.brd_mutexes.specs.Lifting.{priority_at}
use Rattle.brd_mutexes.specs.Passes.{lifted}
use Rattle.brd_mutexes.proofs.PassLemmas.{begins}
use Rattle.brd_mutexes.proofs.LiftedLemmas.{lifted-is}
use Rattle.brd_config.specs.declared.objects.SemaphoreConfig.{SemaphoreConfig}
use Rattle.brd_config.specs.declared.objects.FlagConfig.{FlagConfig}
use Rattle.brd_config.specs.declared.objects.QueueConfig.{QueueConfig}
use Rattle.brd_config.specs.declared.objects.SpinLockConfig.{SpinLockConfig}
use Rattle.brd_config.specs.declared.objects.MutexConfig.{MutexConfig}
use Rattle.brd_config.specs.declared.objects.MailboxConfig.{MailboxConfig}
use Rattle.brd_objects.specs.declared.block.PoolSetup.{PoolSetup}
use Rattle.brd_objects.specs.declared.mutex.Mutex.{Mutex}
use Rattle.brd_objects.specs.Mutexes.{mutex_of}
use Rattle.brd_objects.specs.Table.{object_at}
use Rattle.brd_kernel.specs.declared.processor.LineSetup.{LineSetup}
use Rattle.brd_kernel.specs.Kernel.{KernelState, with_tasks}
use Rattle.brd_kernel.specs.Making.{made_kernel}
use Rattle.brd_kernel.specs.Waits.{reason_in, base_in, bases_below, ceiling_of, ceiling_in, ceilings_below, inheritor_for, inheritors_below, priorities_of}
use Rattle.brd_kernel.specs.Prioritized.{IsPrioritized}
use Rattle.brd_kernel.proofs.WaitLemmas.{same-set}
use Rattle.brd_kernel.proofs.who_waits.ListLemmas.{either}
use Rattle.brd_kernel.proofs.who_waits.FirstLemmas.{each-first}
use Rattle.brd_kernel.proofs.nobody_waits.TableLemmas.{set-keeps}

-- a task that has its base priority, and waits for nothing
pub record IsFresh (task : Task) : Type 0 where
  pub base : task.base ≡ task.priority
  pub free : waiting_of task.status ≡ None

abbrev pub FreshRow : Option Task → Type 0
FreshRow row = IfSome row (λ task. IsFresh task)

abbrev pub AreFresh : TaskTable → Type 0
AreFresh t = (id : ℕ) → FreshRow (task_at t id)

pub record Fresh (k : KernelState) : Type 0 where
  pub tasks : AreFresh k.tasks
  pub mutexes : (at : ℕ) → IfSome (object_at k.mutexes at) (λ m. m.owner ≡ None)

-- The priorities are the base priorities.

bases-length : (t : TaskTable) (n : ℕ) → length (bases_below t n) ≡ 256
unfolding bases_below
bases-length t zero = refl
bases-length t (suc n) = length-set (bases_below t n) n (base_in (task_at t n)) ∙ bases-length t n

base-by : (here : Bool) (t : TaskTable) (n id : ℕ) → (n == id) ≡ here → id < suc n → n < 256 →
    (id < n → priority_at (bases_below t n) id ≡ base_in (task_at t id)) →
    priority_at (slice_set (bases_below t n) n (base_in (task_at t n))) id ≡ base_in (task_at t id)
base-by true t n id test small few rest =
    let same : n ≡ id = grind (arith, nat_tests, test) in
    subst (λ m. priority_at (slice_set (bases_below t n) n (base_in (task_at t n))) m ≡ base_in (task_at t m)) same
    (get_or-set_same (bases_below t n) n (base_in (task_at t n)) 0 (omega (arith, few, bases-length t n)))
base-by false t n id test small few rest =
    get_or-set_other (bases_below t n) n id (base_in (task_at t n)) 0 (λ e. grind (arith, nat_tests, test, e)) ∙ rest (grind (arith, nat_tests, test, small))

base-at : (t : TaskTable) (n id : ℕ) → id < n → n ≤ 256 → priority_at (bases_below t n) id ≡ base_in (task_at t id)
unfolding bases_below
base-at t zero id small few = absurd (omega (arith, small))
base-at t (suc n) id small few =
    base-by (n == id) t n id refl small (omega (arith, few)) (λ less. base-at t n id less (omega (arith, few)))

no-ceiling-of : (m : Mutex) (owner : Option ℕ) (priorities : List ℕ) → owner ≡ None → ceiling_of m owner priorities ≡ priorities
no-ceiling-of m owner priorities none = ap (λ o. ceiling_of m o priorities) none

no-ceiling : (found : Option Mutex) (priorities : List ℕ) → IfSome found (λ m. m.owner ≡ None) → ceiling_in found priorities ≡ priorities
no-ceiling None priorities none = refl
no-ceiling (Some m) priorities none = no-ceiling-of m m.owner priorities none

no-ceilings : (k : KernelState) (n : ℕ) → Fresh k → ceilings_below k n ≡ bases_below k.tasks 256
unfolding ceilings_below
no-ceilings k zero fresh = refl
no-ceilings k (suc n) fresh = no-ceiling (object_at k.mutexes n) (ceilings_below k n) (fresh.mutexes n) ∙ no-ceilings k n fresh

no-reason : (row : Option Task) → FreshRow row → reason_in row ≡ None
no-reason None fresh = refl
no-reason (Some task) fresh = fresh.free

no-inheritors : (k : KernelState) (n : ℕ) → Fresh k → inheritors_below k n ≡ replicate 256 None
unfolding inheritors_below
no-inheritors k zero fresh = refl
no-inheritors k (suc n) fresh =
    ap (λ why. slice_set (inheritors_below k n) n (inheritor_for k why)) (no-reason (task_at k.tasks n) (fresh.tasks n))
    ∙ ap (λ l. slice_set l n None) (no-inheritors k n fresh)
    ∙ ap (slice_set (replicate 256 None) n) (sym (same-at 256 n None)) ∙ same-set (replicate 256 None) n None

nobody-lifts : (own : List ℕ) → own ≡ lifted own (replicate 256 None)
nobody-lifts own =
    lifted-is own (replicate 256 None) own
    (record {
      founded = begins own (replicate 256 None);
      high = λ id to waits. let wrong : ◌≡◌ {A = Option ℕ} None (Some to) = sym (same-at 256 id None) ∙ waits in
          let never : ⊥ = cc in absurd never;
    })

fresh-priorities : (k : KernelState) → Fresh k → priorities_of k ≡ bases_below k.tasks 256
fresh-priorities k fresh =
    ap (λ own. lifted own (inheritors_below k 256)) (no-ceilings k 256 fresh)
    ∙ ap (lifted (bases_below k.tasks 256)) (no-inheritors k 256 fresh) ∙ sym (nobody-lifts (bases_below k.tasks 256))

pub fresh-has : (k : KernelState) → Fresh k → IsPrioritized k
fresh-has k fresh standard id task small there =
    let own : IsFresh task = subst FreshRow there (fresh.tasks id) in
    sym own.base ∙ sym (ap base_in there) ∙ sym (base-at k.tasks 256 id small (omega arith))
    ∙ ap (λ ps. priority_at ps id) (sym (fresh-priorities k fresh))

-- At the making, and when tasks are started.

unstarted-fresh : (found : Option TaskSetup) → FreshRow (option_map unstarted found)
unstarted-fresh None = tt
unstarted-fresh (Some setup) = record { base = refl; free = refl }

pub made-fresh : (standard : Bool) (processors : ℕ) (setups : List TaskSetup) (lines : List LineSetup) (semaphores : List SemaphoreConfig) (flags : List FlagConfig)
    (queues : List QueueConfig) (spin_locks : List SpinLockConfig) (mutexes : List MutexConfig) (pools : List PoolSetup) (mailboxes : List MailboxConfig) →
    Fresh (made_kernel standard processors setups lines semaphores flags queues spin_locks mutexes pools mailboxes)
made-fresh standard processors setups lines semaphores flags queues spin_locks mutexes pools mailboxes = record {
  tasks = λ at. row-at (nat_lt at 256) setups 256 at refl FreshRow tt (unstarted-fresh (find (λ setup. setup.id == at) setups));
  mutexes = λ at. each-first (λ m. m.owner ≡ None) (λ config. config.id) mutex_of mutexes at (λ c. refl);
}

written : (t new : TaskTable) (id : ℕ) (task : Task) → new.rows ≡ slice_set t.rows id (Some task) → IsFresh task → AreFresh t → AreFresh new
written t new id task is own was = λ at.
    subst (λ (rows : List (Option Task)). FreshRow (slice_index_or rows at None)) (sym is)
    (set-keeps FreshRow t.rows id at (Some task) own (was at))

activated-by : (t : TaskTable) (id : ℕ) (request : Request) (row : Option Task) → FreshRow row → AreFresh t →
    AreFresh (where_there t row (λ task. if is_dormant task.status then starts t id (processor_of request task) task
    else patched t id (record task { activation = Some request })))
activated-by t id request None own was = was
activated-by t id request (Some task) own was =
    either AreFresh (is_dormant task.status) (starts t id (processor_of request task) task)
    (patched t id (record task { activation = Some request }))
    (written t (starts t id (processor_of request task) task) id (started (processor_of request task) task) refl
    (record { base = refl; free = refl }) was)
    (written t (patched t id (record task { activation = Some request })) id (record task { activation = Some request }) refl
    (record { base = own.base; free = own.free }) was)

pub activated-fresh : (k : KernelState) (id : ℕ) (request : Request) → Fresh k → Fresh (with_tasks k (activated k.tasks id request))
activated-fresh k id request fresh = record {
  tasks = activated-by k.tasks id request (task_at k.tasks id) (fresh.tasks id) fresh.tasks;
  mutexes = fresh.mutexes;
}
