-- A copy of what a kernel has, beside equal objects, makes an equal kernel.
use Rattle.std.proofs.Common.{◌≡◌, map, sym, ap, subst, ◌∙◌}
use Rattle.brd_objects.specs.declared.semaphore.Semaphore.{Semaphore}
use Rattle.brd_objects.specs.declared.flag.Flag.{Flag}
use Rattle.brd_objects.specs.Table.{Table}
use Rattle.brd_objects.specs.DataQueues.{DataQueueState}
use Rattle.brd_objects.specs.Pools.{PoolState}
use Rattle.brd_objects.specs.Mailboxes.{MailboxState}
use Rattle.brd_kernel.specs.declared.common.Common.{Common}
use Rattle.brd_kernel.specs.Kernel.{KernelState}
use Rattle.brd_kernel.specs.Always.{IsKernel, AreQuiet, task_executing}
use Rattle.brd_kernel.specs.Common.{kernel_of, IsCommon, IsCopy}
use Rattle.brd_objects.specs.declared.mutex.Mutex.{Mutex}

pub copied : (c copy : Common) (semaphores s : Table Semaphore) (flags f : Table Flag) (queues q : Table DataQueueState) (mutexes m : Table Mutex) (pools p : Table PoolState) (mailboxes b : Table MailboxState) →
    IsCopy c copy → s ≡ semaphores → f ≡ flags → q ≡ queues → m ≡ mutexes → p ≡ pools → b ≡ mailboxes → kernel_of copy s f q m p b ≡ kernel_of c semaphores flags queues mutexes pools mailboxes
copied c copy semaphores s flags f queues q mutexes m pools p mailboxes b is s_is f_is q_is m_is p_is b_is =
    ap (λ x. kernel_of copy x f q m p b) s_is ∙ ap (λ x. kernel_of copy semaphores x q m p b) f_is ∙ ap (λ x. kernel_of copy semaphores flags x m p b) q_is
    ∙ ap (λ x. kernel_of copy semaphores flags queues x p b) m_is ∙ ap (λ x. kernel_of copy semaphores flags queues mutexes x b) p_is
    ∙ ap (λ x. kernel_of copy semaphores flags queues mutexes pools x) b_is ∙ is.same semaphores flags queues mutexes pools mailboxes

-- and what is always true of it is so of the copy
pub copied-common : (c copy : Common) (semaphores s : Table Semaphore) (flags f : Table Flag) (queues q : Table DataQueueState) (mutexes m : Table Mutex) (pools p : Table PoolState) (mailboxes b : Table MailboxState) →
    IsCopy c copy → s ≡ semaphores → f ≡ flags → q ≡ queues → m ≡ mutexes → p ≡ pools → b ≡ mailboxes → IsCommon c (kernel_of c semaphores flags queues mutexes pools mailboxes) →
    IsCommon copy (kernel_of copy s f q m p b)
copied-common c copy semaphores s flags f queues q mutexes m pools p mailboxes b is s_is f_is q_is m_is p_is b_is was =
    let same : kernel_of copy semaphores flags queues mutexes pools mailboxes ≡ kernel_of c semaphores flags queues mutexes pools mailboxes = is.same semaphores flags queues mutexes pools mailboxes in
    record {
      kernel = subst IsKernel (sym (copied c copy semaphores s flags f queues q mutexes m pools p mailboxes b is s_is f_is q_is m_is p_is b_is)) was.kernel;
      quiet = λ quiet. subst AreQuiet (sym (ap (λ (k : KernelState). k.lines) same)) (was.quiet (sym is.pending ∙ quiet));
      executing = is.executing ∙ was.executing ∙ ap (λ (k : KernelState). map task_executing k.processors) (sym same);
    }
