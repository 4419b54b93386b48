-- The lists of waiters, when a task leaves what it waits for.
use Rattle.std.proofs.Common.{◌≡◌, ℕ, List, [], ◌∷◌, refl, sym, ap, ◌∙◌}
use Rattle.std.specs.Prelude.{Bool, true, false, ◌==◌, ◌||◌, if◌then◌else◌, Option, None, Some}
use Rattle.brd_queue.specs.declared.entry.QueueEntry.{QueueEntry}
use Rattle.brd_queue.specs.Queue.{Plain, priority_in, without, AreApart}
use Rattle.brd_queue.proofs.QueueLemmas.{apart-without}
use Rattle.brd_queue.proofs.PriorityLemmas.{priority_in-without}
use Rattle.brd_tasks.specs.declared.status.WaitReason.{WaitReason}
use Rattle.brd_tasks.specs.declared.status.WaitReason.TheVariants as reason
use Rattle.brd_tasks.specs.declared.task.Task.{Task}
use Rattle.brd_tasks.specs.Tasks.{task_at}
use Rattle.brd_objects.specs.declared.semaphore.Semaphore.{Semaphore}
use Rattle.brd_objects.specs.declared.flag.Flag.{Flag}
use Rattle.brd_objects.specs.DataQueues.{DataQueueState}
use Rattle.brd_kernel.specs.Kernel.{KernelState}
use Rattle.brd_kernel.specs.Waits.{changed_of, leaving, reason_in, reason_of, priority_of, unlisted_from, unlisted}
use Rattle.brd_kernel.specs.Waiting.{plain, standing_for}
use Rattle.brd_kernel.proofs.who_waits.ListLemmas.{same-number, priority_in-plain, apart-plain, apart-wanting}
use Rattle.brd_kernel.proofs.who_waits.StandingLemmas.{waits_by, waits, wanted, Stands, StandsIn}
use Rattle.brd_kernel.proofs.who_waits.WaitersLemmas.{OfEach, changed-all, elsewhere-none}
use Rattle.brd_kernel.proofs.who_waits.KeepingLemmas.{by-leaving}
use Rattle.brd_objects.specs.declared.mutex.Mutex.{Mutex}
use Rattle.brd_objects.specs.Pools.{PoolState}
use Rattle.brd_objects.specs.Mailboxes.{MailboxState}

-- what a task waits for, as its row says it
wait-row : (row : Option Task) → waits row ≡ waits_by (reason_in row) (priority_of row)
wait-row None = refl
wait-row (Some task) = refl

nowhere-by : (here : Bool) (id at : ℕ) (list : List Plain) → (id == at) ≡ here → priority_in id list ≡ None →
    priority_in at list ≡ (if here then None else priority_in at list)
nowhere-by true id at list test none = ap (λ n. priority_in n list) (sym (same-number id at test)) ∙ none
nowhere-by false id at list test none = refl

-- What becomes of a list when a task leaves it.
record IsLeft (id : ℕ) (new old : List Plain) : Type 0 where
  apart : AreApart old → AreApart new
  listed : (at : ℕ) → priority_in at new ≡ (if id == at then None else priority_in at old)

-- one in which it doesn't stand is the same without it
nowhere : (k : KernelState) (id : ℕ) (wait : Option (WaitReason × ℕ)) (other : WaitReason) → StandsIn [] k → waits (task_at k.tasks id) ≡ wait →
    wanted wait other ≡ None → IsLeft id (standing_for k other) (standing_for k other)
nowhere k id wait other was is none = record {
  apart = λ apart. apart;
  listed = λ at. nowhere-by (id == at) id at (standing_for k other) refl (was.listed id other ∙ ap (λ w. wanted w other) is ∙ none);
}

left-list : {W : Type 0} → (id : ℕ) (xs : List (QueueEntry W)) → IsLeft id (plain (without id xs)) (plain xs)
left-list id xs = record {
  apart = λ apart. apart-plain (without id xs) (apart-without id xs (apart-wanting xs apart));
  listed = λ at. priority_in-plain at (without id xs) ∙ priority_in-without at id xs
      ∙ ap (λ p. if id == at then None else p) (sym (priority_in-plain at xs));
}

-- each kind of object, without a task
leaves : (id : ℕ) → OfEach (IsLeft id) (leaving id)
leaves id = record {
  nobody = left-list {W = Unit {0}} id [];
  semaphore = λ (s : Semaphore). left-list id s.waiters;
  flag = λ (f : Flag). left-list id f.waiters;
  room = λ (q : DataQueueState). left-list id q.senders;
  datum = λ (q : DataQueueState). left-list id q.receivers;
  mutex = λ (m : Mutex). left-list id m.waiters;
  pool = λ (p : PoolState). left-list id p.waiters;
  mailbox = λ (m : MailboxState). left-list id m.waiters;
}

pub or-false : (test : Bool) → (test || false) ≡ test
or-false true = refl
or-false false = refl

-- A task leaves what it waits for.

-- a task has left the lists, and its wait hasn't ended yet
abbrev pub Out : KernelState → ℕ → (WaitReason → List Plain) → Type 0
Out k id lists = Stands (id ∷ []) k.tasks k.time lists

-- one task leaves the lists
by-leaving-id : (k new : KernelState) (id : ℕ) → ((other : WaitReason) → IsLeft id (standing_for new other) (standing_for k other)) → StandsIn [] k →
    Out k id (standing_for new)
by-leaving-id k new id left was =
    by-leaving (id ∷ []) k.tasks k.time (standing_for k) (standing_for new) (λ other. (left other).apart (was.apart other))
    (λ at other. (left other).listed at ∙ ap (λ o. if o then None else priority_in at (standing_for k other)) (sym (or-false (id == at)))) was

-- who waits in no list is out of them all
pub out-of-none : (k : KernelState) (id : ℕ) (wait : Option (WaitReason × ℕ)) → waits (task_at k.tasks id) ≡ wait →
    ((other : WaitReason) → wanted wait other ≡ None) →
    StandsIn [] k → Out k id (standing_for k)
out-of-none k id wait is none was = by-leaving-id k k id (λ other. nowhere k id wait other was is (none other)) was

-- for a wake-up, or for time alone, nobody waits in a list

pub sleeps-nowhere : (p : ℕ) (other : WaitReason) → wanted (Some (reason.Sleep, p)) other ≡ None
sleeps-nowhere p other = refl

pub delayed-nowhere : (p : ℕ) (other : WaitReason) → wanted (Some (reason.Delay, p)) other ≡ None
delayed-nowhere p other = refl

unlisted-by : (k : KernelState) (id p : ℕ) (why : Option WaitReason) → waits (task_at k.tasks id) ≡ waits_by why p → StandsIn [] k →
    Out k id (standing_for (unlisted_from k id why))
unlisted-by k id p None is was = out-of-none k id None is (λ other. refl) was
unlisted-by k id p (Some reason.Sleep) is was = out-of-none k id (Some (reason.Sleep, p)) is (sleeps-nowhere p) was
unlisted-by k id p (Some reason.Delay) is was = out-of-none k id (Some (reason.Delay, p)) is (delayed-nowhere p) was
unlisted-by k id p (Some (reason.On what object)) is was =
    by-leaving-id k (changed_of (leaving id) k what) id
    (changed-all (IsLeft id) (leaving id) k what (leaves id)
    (λ other none. nowhere k id (Some (reason.On what object, p)) other was is (elsewhere-none what object p other none)))
    was

pub unlisted-out : (k : KernelState) (id : ℕ) → StandsIn [] k → Out k id (standing_for (unlisted k id))
unlisted-out k id was = unlisted-by k id (priority_of (task_at k.tasks id)) (reason_of k id) (wait-row (task_at k.tasks id)) was
