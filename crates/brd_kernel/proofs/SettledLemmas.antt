-- What giving mutexes back and giving priorities leaves: what each of their steps leaves.
use Rattle.std.proofs.Common.{◌≡◌, ℕ, zero, suc, List, refl}
use Rattle.std.specs.Prelude.{◌==◌, if◌then◌else◌, Option, None, Some}
use Rattle.brd_tasks.specs.declared.task.Task.{Task}
use Rattle.brd_tasks.specs.Status.{waiting_of}
use Rattle.brd_tasks.specs.Tasks.{task_at}
use Rattle.brd_mutexes.specs.Lifting.{priority_at}
use Rattle.brd_objects.specs.declared.mutex.Mutex.{Mutex}
use Rattle.brd_objects.specs.Mutexes.{is_owned_by}
use Rattle.brd_objects.specs.Table.{object_at}
use Rattle.brd_kernel.specs.Kernel.{KernelState}
use Rattle.brd_kernel.specs.Waits.{given_in, has_mutex_in, given_below, all_given_in, lifted_in, prioritized_by, priorities_of, prioritized_below, prioritized}
use Rattle.brd_kernel.proofs.who_waits.ListLemmas.{either}
use Rattle.brd_kernel.proofs.PricedLemmas.{priced_in}

-- a property that each step keeps
pub record Settles (Q : KernelState → Type 0) : Type 0 where
  pub gives : (k : KernelState) (at : ℕ) (m : Mutex) → object_at k.mutexes at ≡ Some m → Q k → Q (given_in k at)
  pub prices : (k : KernelState) (base : Task → ℕ) (id priority : ℕ) (task : Task) → task_at k.tasks id ≡ Some task → Q k →
      Q (priced_in k base id priority (waiting_of task.status))

given-one : (Q : KernelState → Type 0) (k : KernelState) (id at : ℕ) (found : Option Mutex) → Settles Q → object_at k.mutexes at ≡ found → Q k →
    Q (if has_mutex_in id found then given_in k at else k)
given-one Q k id at None settles there was = was
given-one Q k id at (Some m) settles there was = either Q (is_owned_by id m) (given_in k at) k (settles.gives k at m there was) was

given-first : (Q : KernelState → Type 0) (k : KernelState) (id count : ℕ) → Settles Q → Q k → Q (given_below k id count)
unfolding given_below
given-first Q k id zero settles was = was
given-first Q k id (suc at) settles was =
    given-one Q (given_below k id at) id at (object_at (given_below k id at).mutexes at) settles refl (given-first Q k id at settles was)

pub all-given : (Q : KernelState → Type 0) (k : KernelState) (id : ℕ) → Settles Q → Q k → Q (all_given_in k id)
all-given Q k id settles was = either Q k.standard (given_below k id 256) k (given-first Q k id 256 settles was) was

priced-one : (Q : KernelState → Type 0) (k : KernelState) (id priority : ℕ) (found : Option Task) → Settles Q → task_at k.tasks id ≡ found → Q k →
    Q (prioritized_by k id priority found)
priced-one Q k id priority None settles there was = was
priced-one Q k id priority (Some task) settles there was =
    either Q (task.priority == priority) k (lifted_in k id priority (waiting_of task.status)) was
    (settles.prices k (λ x. x.base) id priority task there was)

priced-first : (Q : KernelState → Type 0) (k : KernelState) (priorities : List ℕ) (count : ℕ) → Settles Q → Q k →
    Q (prioritized_below k priorities count)
unfolding prioritized_below
priced-first Q k priorities zero settles was = was
priced-first Q k priorities (suc id) settles was =
    let before : KernelState = prioritized_below k priorities id in
    priced-one Q before id (priority_at priorities id) (task_at before.tasks id) settles refl (priced-first Q k priorities id settles was)

pub all-prioritized : (Q : KernelState → Type 0) (k : KernelState) → Settles Q → Q k → Q (prioritized k)
all-prioritized Q k settles was =
    either Q k.standard (prioritized_below k (priorities_of k) 256) k (priced-first Q k (priorities_of k) 256 settles was) was
