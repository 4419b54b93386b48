use Rattle.std.proofs.Common.{refl}
use Rattle.brd_kernel.specs.Waits.{ended_by_fault, ticked}
use Rattle.brd_kernel.specs.Dispatch.{dispatched}
use Rattle.brd_kernel.proofs.SpinLemmas.{locks-locking, locking-locks, made-locking, locking-ticked, wrote-locking, fault-wrote, dispatch-locking}
use Rattle.brd_kernel.proofs.laws.a_spin_lock_has_one_holder.Goals as goal

pub returns-clause-made : goal.returns-clause-made
returns-clause-made c standard processors setups lines semaphores flags queues spin_locks mutexes pools mailboxes =
    locking-locks _ (made-locking _ processors refl)

pub returns-clause-tick : goal.returns-clause-tick
returns-clause-tick c k was = locking-locks (ticked k) (locking-ticked k (locks-locking k was))

pub returns-clause-fault : goal.returns-clause-fault
returns-clause-fault c k cpu was =
    locking-locks (ended_by_fault k cpu)
    (wrote-locking k (ended_by_fault k cpu) cpu (fault-wrote k cpu (locks-locking k was)) (locks-locking k was))

pub returns-clause-dispatch : goal.returns-clause-dispatch
returns-clause-dispatch c k was = locking-locks (dispatched k) (dispatch-locking k (locks-locking k was))
