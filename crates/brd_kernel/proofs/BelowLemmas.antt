-- What is done for the IDs below a number is done for one more.
use Rattle.std.proofs.Common.{◌≡◌, ℕ, suc, ◌+◌, List, refl, ap, arith}
use Rattle.std.specs.Prelude.{false, ◌&&◌, ◌||◌, None, replicate, slice_set}
use Rattle.brd_mutexes.specs.Lifting.{priority_at}
use Rattle.brd_tasks.specs.Tasks.{TaskTable, task_at}
use Rattle.brd_objects.specs.Table.{object_at}
use Rattle.brd_kernel.specs.Kernel.{KernelState}
use Rattle.brd_kernel.specs.Waits.{has_mutex_in, given_by_in, given_below, base_in, bases_below, ceiling_in, ceilings_below, inheritor_for, reason_of, inheritors_below, prioritized_by, prioritized_below, rung_at, rung_below}
use Rattle.brd_kernel.specs.Services.{is_over_mutex, is_over_below}

next : (n : ℕ) → suc n ≡ n + 1
next n = omega arith

pub given_none : (k : KernelState) (id : ℕ) → k ≡ given_below k id 0
unfolding given_below
given_none k id = refl

pub given_more : (k : KernelState) (id at : ℕ) → given_by_in (given_below k id at) id at ≡ given_below k id (at + 1)
unfolding given_below
given_more k id at = ap (given_below k id) (next at)

pub over_none : (k : KernelState) (id priority : ℕ) → false ≡ is_over_below k id priority 0
unfolding is_over_below
over_none k id priority = refl

pub over_more : (k : KernelState) (id priority at : ℕ) →
    (is_over_below k id priority at || (has_mutex_in id (object_at k.mutexes at) && is_over_mutex priority (object_at k.mutexes at))) ≡
    is_over_below k id priority (at + 1)
unfolding is_over_below
over_more k id priority at = ap (is_over_below k id priority) (next at)

pub bases_none : (t : TaskTable) → replicate 256 0 ≡ bases_below t 0
unfolding bases_below
bases_none t = refl

pub bases_more : (t : TaskTable) (id : ℕ) → slice_set (bases_below t id) id (base_in (task_at t id)) ≡ bases_below t (id + 1)
unfolding bases_below
bases_more t id = ap (bases_below t) (next id)

pub ceilings_none : (k : KernelState) → bases_below k.tasks 256 ≡ ceilings_below k 0
unfolding ceilings_below
ceilings_none k = refl

pub ceilings_more : (k : KernelState) (at : ℕ) → ceiling_in (object_at k.mutexes at) (ceilings_below k at) ≡ ceilings_below k (at + 1)
unfolding ceilings_below
ceilings_more k at = ap (ceilings_below k) (next at)

pub inheritors_none : (k : KernelState) → replicate 256 None ≡ inheritors_below k 0
unfolding inheritors_below
inheritors_none k = refl

pub inheritors_more : (k : KernelState) (id : ℕ) →
    slice_set (inheritors_below k id) id (inheritor_for k (reason_of k id)) ≡ inheritors_below k (id + 1)
unfolding inheritors_below
inheritors_more k id = ap (inheritors_below k) (next id)

pub prioritized_none : (k : KernelState) (priorities : List ℕ) → k ≡ prioritized_below k priorities 0
unfolding prioritized_below
prioritized_none k priorities = refl

pub prioritized_more : (k : KernelState) (priorities : List ℕ) (id : ℕ) →
    prioritized_by (prioritized_below k priorities id) id (priority_at priorities id) (task_at (prioritized_below k priorities id).tasks id) ≡
    prioritized_below k priorities (id + 1)
unfolding prioritized_below
prioritized_more k priorities id = ap (prioritized_below k priorities) (next id)

pub rung_none : (k : KernelState) → k ≡ rung_below k 0
unfolding rung_below
rung_none k = refl

pub rung_more : (k : KernelState) (place : ℕ) → rung_at (rung_below k place) place ≡ rung_below k (place + 1)
unfolding rung_below
rung_more k place = ap (rung_below k) (next place)
