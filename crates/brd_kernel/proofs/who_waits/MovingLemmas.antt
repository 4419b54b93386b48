-- The lists of waiters, when a task that waits is given another priority.
use Rattle.std.proofs.Common.{◌≡◌, ℕ, List, [], refl, sym, ap, ◌∙◌}
use Rattle.std.specs.Prelude.{Bool, true, false, ◌==◌, ◌&&◌, if◌then◌else◌, Option, None, Some, is_some}
use Rattle.brd_queue.specs.declared.entry.QueueEntry.{QueueEntry}
use Rattle.brd_queue.specs.declared.entry.QueueOrder.{QueueOrder}
use Rattle.brd_queue.specs.declared.entry.QueueOrder.TheVariants.{Arrival}
use Rattle.brd_queue.specs.Queue.{Plain, has, priority_in, reordered, AreApart}
use Rattle.brd_queue.proofs.PriorityLemmas.{has-priority_in}
use Rattle.brd_tasks.specs.declared.status.WaitReason.{WaitReason}
use Rattle.brd_tasks.specs.declared.status.WaitReason.TheVariants as reason
use Rattle.brd_tasks.specs.Tasks.{TaskTable, task_at}
use Rattle.brd_time.specs.Time.{Time}
use Rattle.brd_objects.specs.declared.semaphore.Semaphore.{Semaphore}
use Rattle.brd_objects.specs.declared.flag.Flag.{Flag}
use Rattle.brd_objects.specs.DataQueues.{DataQueueState}
use Rattle.brd_kernel.specs.Kernel.{KernelState}
use Rattle.brd_kernel.specs.Waits.{moving, reordered_in}
use Rattle.brd_kernel.specs.Waiting.{plain, standing_for}
use Rattle.brd_kernel.proofs.who_waits.ListLemmas.{priority_in-plain, has-plain, apart-plain, apart-wanting, priority_in-reordered, apart-reordered}
use Rattle.brd_kernel.proofs.who_waits.StandingLemmas.{waits, wanted, Stands}
use Rattle.brd_kernel.proofs.who_waits.WaitersLemmas.{OfEach, changed-all, elsewhere-none}
use Rattle.brd_kernel.proofs.who_waits.LeavingLemmas.{sleeps-nowhere, delayed-nowhere}
use Rattle.brd_objects.specs.declared.mutex.Mutex.{Mutex}
use Rattle.brd_objects.specs.Pools.{PoolState}
use Rattle.brd_objects.specs.Mailboxes.{MailboxState}
use Rattle.brd_objects.specs.Mutexes.{protocol_order}

-- What becomes of a list when a task in it is given a priority.
pub record IsMoved (id p : ℕ) (new old : List Plain) : Type 0 where
  pub apart : AreApart old → AreApart new
  pub listed : (at : ℕ) → priority_in at new ≡ (if (id == at) && has id old then Some p else priority_in at old)

-- one in which it doesn't stand stays

stays-by : (here : Bool) (id p at : ℕ) (list : List Plain) → has id list ≡ false →
    priority_in at list ≡ (if here && has id list then Some p else priority_in at list)
stays-by true id p at list none = sym (ap (λ h. if h then Some p else priority_in at list) none)
stays-by false id p at list none = refl

stays : (k : KernelState) (t : TaskTable) (time : Time) (id p : ℕ) (wait : Option (WaitReason × ℕ)) (other : WaitReason) →
    Stands [] t time (standing_for k) → waits (task_at t id) ≡ wait → wanted wait other ≡ None →
    IsMoved id p (standing_for k other) (standing_for k other)
stays k t time id p wait other was is none = record {
  apart = λ apart. apart;
  listed = λ at. stays-by (id == at) id p at (standing_for k other)
      (has-priority_in id (standing_for k other) ∙ ap is_some (was.listed id other ∙ ap (λ w. wanted w other) is ∙ none));
}

moved-list : {W : Type 0} → (order : QueueOrder) (id p : ℕ) (xs : List (QueueEntry W)) → IsMoved id p (plain (reordered order id p xs)) (plain xs)
moved-list order id p xs = record {
  apart = λ apart. apart-plain (reordered order id p xs) (apart-reordered order id p xs (apart-wanting xs apart));
  listed = λ at. priority_in-plain at (reordered order id p xs) ∙ priority_in-reordered order at id p xs
      ∙ ap (λ h. if (id == at) && h then Some p else priority_in at xs) (sym (has-plain id xs))
      ∙ ap (λ q. if (id == at) && has id (plain xs) then Some p else q) (sym (priority_in-plain at xs));
}

-- each kind of object, with that priority
moves : (id p : ℕ) → OfEach (IsMoved id p) (moving id p)
moves id p = record {
  nobody = record { apart = λ apart. apart; listed = λ at. stays-by (id == at) id p at [] refl };
  semaphore = λ (s : Semaphore). moved-list s.order id p s.waiters;
  flag = λ (f : Flag). moved-list f.order id p f.waiters;
  room = λ (q : DataQueueState). moved-list q.order id p q.senders;
  datum = λ (q : DataQueueState). moved-list Arrival id p q.receivers;
  mutex = λ (m : Mutex). moved-list (protocol_order m.protocol) id p m.waiters;
  pool = λ (b : PoolState). moved-list b.order id p b.waiters;
  mailbox = λ (m : MailboxState). moved-list m.order id p m.waiters;
}

-- `t` and `time` are those before
pub moved-by-reason : (k : KernelState) (t : TaskTable) (time : Time) (id p old : ℕ) (why : WaitReason) → waits (task_at t id) ≡ Some (why, old) →
    Stands [] t time (standing_for k) → (other : WaitReason) → IsMoved id p (standing_for (reordered_in k id p (Some why)) other) (standing_for k other)
moved-by-reason k t time id p old reason.Sleep is was =
    λ other. stays k t time id p (Some (reason.Sleep, old)) other was is (sleeps-nowhere old other)
moved-by-reason k t time id p old reason.Delay is was =
    λ other. stays k t time id p (Some (reason.Delay, old)) other was is (delayed-nowhere old other)
moved-by-reason k t time id p old (reason.On what object) is was =
    changed-all (IsMoved id p) (moving id p) k what (moves id p)
    (λ other none. stays k t time id p (Some (reason.On what object, old)) other was is (elsewhere-none what object old other none))
