-- After priorities were given each task has the one that it is to have.
use Rattle.std.proofs.Common.{◌≡◌, ◌<◌, ◌≤◌, ℕ, zero, suc, List, refl, sym, ap, subst, ◌∙◌, arith}
use Rattle.std.specs.Prelude.{Bool, true, false, ◌==◌, nat_lt, if◌then◌else◌, Option, None, Some, slice_set, slice_index_or, Result, Ok, Err}
use Rattle.std.specs.Option.{option_map}
use Rattle.std.proofs.lemmas.Bool.{false≢true, true≢false}
use Rattle.std.proofs.lemmas.Bool.Decides.{nat_tests}
use Rattle.brd_tasks.specs.declared.status.WaitReason.{WaitReason}
use Rattle.brd_tasks.specs.declared.status.WaitReason.TheVariants as reason
use Rattle.brd_tasks.specs.declared.status.WaitKind.{WaitKind}
use Rattle.brd_tasks.specs.declared.status.WaitKind.TheVariants as kind
use Rattle.brd_tasks.specs.declared.task.Task.{Task}
use Rattle.brd_tasks.specs.Status.{waiting_of}
use Rattle.brd_tasks.specs.Tasks.{TaskTable, task_at, changed, lifted_to, placed, where_there}
use Rattle.brd_mutexes.specs.Lifting.{priority_at, AreLifted}
use Rattle.brd_mutexes.specs.Passes.{lifted}
use Rattle.brd_objects.specs.declared.mutex.Mutex.{Mutex}
use Rattle.brd_objects.specs.Mutexes.{mutex_reordered}
use Rattle.brd_objects.specs.Table.{object_at}
use Rattle.brd_kernel.specs.Kernel.{KernelState, with_tasks, processor_at, spin_of}
use Rattle.brd_kernel.specs.Waits.{changed_of, moving, reason_in, reason_of, reordered_in, base_in, bases_below, ceiling_of, ceiling_in, ceilings_below, inheritor_in, inheritor_for, inheritors_below, priorities_of, lifted_in, prioritized_by, prioritized_below, prioritized, all_timed_out, ticked_on, ticked, faulted_in, ended_by_fault}
use Rattle.brd_time.specs.Time.{last_count, advanced, due_from}
use Rattle.brd_mutexes.proofs.LiftedLemmas.{lifted-are}
use Rattle.brd_kernel.specs.declared.processor.Spin.{Spin}
use Rattle.brd_kernel.specs.declared.processor.Spin.TheVariants as spin
use Rattle.brd_kernel.specs.declared.call.Call.{Call}
use Rattle.brd_kernel.specs.declared.call.Call.TheVariants as call
use Rattle.brd_kernel.specs.declared.call.Ercd.{Ercd}
use Rattle.brd_kernel.specs.declared.call.Ercd.TheVariants.{Id}
use Rattle.brd_kernel.specs.declared.call.Reply.{Reply}
use Rattle.brd_kernel.specs.declared.call.Reply.TheVariants.{Answer, Silent, Again}
use Rattle.brd_kernel.specs.Row.{Served, refused, served_object, or_refused, asks_again}
use Rattle.brd_kernel.specs.Services.{loc_spn, is_no_id, caller_on, serve_by, serve_of, prioritized_after, with_priorities}
use Rattle.brd_kernel.specs.Prioritized.{HaveTheirPriorities, IsPrioritized}
use Rattle.brd_kernel.proofs.WaitLemmas.{reordered-only}
use Rattle.brd_kernel.proofs.SameLemmas.{same-prioritized}
use Rattle.brd_kernel.proofs.AgainLemmas.{serve-again}
use Rattle.brd_kernel.proofs.who_waits.ListLemmas.{either, same-number, written-at}
use Rattle.brd_kernel.proofs.RingLemmas.{Outlasts, rung-keeps}
use Rattle.brd_kernel.proofs.who_waits.WaitersLemmas.{mapped-at}

-- What priorities hang on: of a task its base priority and what it waits for, of a mutex who has it and what it does.

record SameRoots (k new : KernelState) : Type 0 where
  base : (at : ℕ) → base_in (task_at new.tasks at) ≡ base_in (task_at k.tasks at)
  reason : (at : ℕ) → reason_of new at ≡ reason_of k at
  ceiling : (at : ℕ) (priorities : List ℕ) → ceiling_in (object_at new.mutexes at) priorities ≡ ceiling_in (object_at k.mutexes at) priorities
  inheritor : (at : ℕ) → inheritor_in (object_at new.mutexes at) ≡ inheritor_in (object_at k.mutexes at)

same-self : (k : KernelState) → SameRoots k k
same-self k = record { base = λ at. refl; reason = λ at. refl; ceiling = λ at priorities. refl; inheritor = λ at. refl }

roots-then : {a b c : KernelState} → SameRoots a b → SameRoots b c → SameRoots a c
roots-then first second = record {
  base = λ at. second.base at ∙ first.base at;
  reason = λ at. second.reason at ∙ first.reason at;
  ceiling = λ at priorities. second.ceiling at priorities ∙ first.ceiling at priorities;
  inheritor = λ at. second.inheritor at ∙ first.inheritor at;
}

-- they are the same priorities then

same-bases : (t new : TaskTable) (n : ℕ) → ((at : ℕ) → base_in (task_at new at) ≡ base_in (task_at t at)) → bases_below new n ≡ bases_below t n
unfolding bases_below
same-bases t new zero same = refl
same-bases t new (suc n) same =
    ap (λ l. slice_set l n (base_in (task_at new n))) (same-bases t new n same) ∙ ap (slice_set (bases_below t n) n) (same n)

same-ceilings : (k new : KernelState) (n : ℕ) → SameRoots k new → ceilings_below new n ≡ ceilings_below k n
unfolding ceilings_below
same-ceilings k new zero same = same-bases k.tasks new.tasks 256 same.base
same-ceilings k new (suc n) same =
    ap (ceiling_in (object_at new.mutexes n)) (same-ceilings k new n same) ∙ same.ceiling n (ceilings_below k n)

for-same : (k new : KernelState) (why : Option WaitReason) → SameRoots k new → inheritor_for new why ≡ inheritor_for k why
for-same k new None same = refl
for-same k new (Some reason.Sleep) same = refl
for-same k new (Some reason.Delay) same = refl
for-same k new (Some (reason.On kind.Mutex object)) same = same.inheritor object
for-same k new (Some (reason.On what object)) same = refl

same-inheritors : (k new : KernelState) (n : ℕ) → SameRoots k new → inheritors_below new n ≡ inheritors_below k n
unfolding inheritors_below
same-inheritors k new zero same = refl
same-inheritors k new (suc n) same =
    ap (λ l. slice_set l n (inheritor_for new (reason_of new n))) (same-inheritors k new n same)
    ∙ ap (λ why. slice_set (inheritors_below k n) n (inheritor_for new why)) (same.reason n)
    ∙ ap (slice_set (inheritors_below k n) n) (for-same k new (reason_of k n) same)

same-priorities : (k new : KernelState) → SameRoots k new → priorities_of new ≡ priorities_of k
same-priorities k new same =
    ap (λ own. lifted own (inheritors_below new 256)) (same-ceilings k new 256 same)
    ∙ ap (lifted (ceilings_below k 256)) (same-inheritors k new 256 same)

-- One task is given a priority.

-- that task has it, and the others are as they were
record IsGiven (k new : KernelState) (id p : ℕ) : Type 0 where
  row : (at : ℕ) → task_at new.tasks at ≡ (if id == at then option_map (lifted_to p) (task_at k.tasks at) else task_at k.tasks at)
  roots : SameRoots k new

moved-owner : (id p : ℕ) (m : Mutex) (owner : Option ℕ) (priorities : List ℕ) →
    ceiling_of (mutex_reordered id p m) owner priorities ≡ ceiling_of m owner priorities
moved-owner id p m None priorities = refl
moved-owner id p m (Some other) priorities = refl

moved-ceiling : (id p : ℕ) (found : Option Mutex) (priorities : List ℕ) →
    ceiling_in (option_map (mutex_reordered id p) found) priorities ≡ ceiling_in found priorities
moved-ceiling id p None priorities = refl
moved-ceiling id p (Some m) priorities = moved-owner id p m m.owner priorities

moved-inheritor : (id p : ℕ) (found : Option Mutex) → inheritor_in (option_map (mutex_reordered id p) found) ≡ inheritor_in found
moved-inheritor id p None = refl
moved-inheritor id p (Some m) = refl

moved-of : (k : KernelState) (id p : ℕ) (what : WaitKind) → SameRoots k (changed_of (moving id p) k what)
moved-of k id p kind.Mutex = record {
  base = λ at. refl;
  reason = λ at. refl;
  ceiling = λ at priorities. ap (λ found. ceiling_in found priorities) (mapped-at (mutex_reordered id p) k.mutexes at)
      ∙ moved-ceiling id p (object_at k.mutexes at) priorities;
  inheritor = λ at. ap inheritor_in (mapped-at (mutex_reordered id p) k.mutexes at) ∙ moved-inheritor id p (object_at k.mutexes at);
}
moved-of k id p kind.Semaphore = record { base = λ at. refl; reason = λ at. refl; ceiling = λ at priorities. refl; inheritor = λ at. refl }
moved-of k id p kind.Flag = record { base = λ at. refl; reason = λ at. refl; ceiling = λ at priorities. refl; inheritor = λ at. refl }
moved-of k id p kind.Room = record { base = λ at. refl; reason = λ at. refl; ceiling = λ at priorities. refl; inheritor = λ at. refl }
moved-of k id p kind.Datum = record { base = λ at. refl; reason = λ at. refl; ceiling = λ at priorities. refl; inheritor = λ at. refl }
moved-of k id p kind.Block = record { base = λ at. refl; reason = λ at. refl; ceiling = λ at priorities. refl; inheritor = λ at. refl }
moved-of k id p kind.Message = record { base = λ at. refl; reason = λ at. refl; ceiling = λ at priorities. refl; inheritor = λ at. refl }

moved-for : (k : KernelState) (id p : ℕ) (why : Option WaitReason) → SameRoots k (reordered_in k id p why)
moved-for k id p None = same-self k
moved-for k id p (Some reason.Sleep) = same-self k
moved-for k id p (Some reason.Delay) = same-self k
moved-for k id p (Some (reason.On what object)) = moved-of k id p what

lifted-base : (p : ℕ) (row : Option Task) → base_in (option_map (lifted_to p) row) ≡ base_in row
lifted-base p None = refl
lifted-base p (Some task) = refl

lifted-reason : (p : ℕ) (row : Option Task) → reason_in (option_map (lifted_to p) row) ≡ reason_in row
lifted-reason p None = refl
lifted-reason p (Some task) = refl

if-lifted : {A : Type 0} → (f : Option Task → A) (here : Bool) (p : ℕ) (row : Option Task) → f (option_map (lifted_to p) row) ≡ f row →
    f (if here then option_map (lifted_to p) row else row) ≡ f row
if-lifted f true p row same = same
if-lifted f false p row same = refl

row-roots : (k new : KernelState) (id p : ℕ) → new.mutexes ≡ k.mutexes →
    ((at : ℕ) → task_at new.tasks at ≡ (if id == at then option_map (lifted_to p) (task_at k.tasks at) else task_at k.tasks at)) → SameRoots k new
row-roots k new id p same rows = record {
  base = λ at. ap base_in (rows at) ∙ if-lifted base_in (id == at) p (task_at k.tasks at) (lifted-base p (task_at k.tasks at));
  reason = λ at. ap reason_in (rows at) ∙ if-lifted reason_in (id == at) p (task_at k.tasks at) (lifted-reason p (task_at k.tasks at));
  ceiling = λ at priorities. ap (λ table. ceiling_in (object_at table at) priorities) same;
  inheritor = λ at. ap (λ table. inheritor_in (object_at table at)) same;
}

here-by : (here : Bool) (k : KernelState) (id at p : ℕ) (task : Task) → (id == at) ≡ here → task_at k.tasks id ≡ Some task →
    (if here then Some (lifted_to p task) else task_at k.tasks at) ≡
    (if here then option_map (lifted_to p) (task_at k.tasks at) else task_at k.tasks at)
here-by true k id at p task test there =
    sym (ap (λ n. option_map (lifted_to p) (task_at k.tasks n)) (sym (same-number id at test)) ∙ ap (option_map (lifted_to p)) there)
here-by false k id at p task test there = refl

lifted-rows : (k : KernelState) (id p : ℕ) (task : Task) → task_at k.tasks id ≡ Some task → (at : ℕ) →
    task_at (changed (lifted_to p) k.tasks id) at ≡
    (if id == at then option_map (lifted_to p) (task_at k.tasks at) else task_at k.tasks at)
lifted-rows k id p task there at =
    ap (λ row. task_at (where_there k.tasks row (λ x. placed k.tasks id (lifted_to p x))) at) there
    ∙ written-at k.tasks.rows id at task (Some (lifted_to p task)) there ∙ here-by (id == at) k id at p task refl there

given-lifted : (k : KernelState) (id p : ℕ) (task : Task) → task_at k.tasks id ≡ Some task →
    IsGiven k (lifted_in k id p (waiting_of task.status)) id p
given-lifted k id p task there =
    let on : KernelState = with_tasks k (changed (lifted_to p) k.tasks id) in
    let rows = lifted-rows k id p task there in
    record {
      row = λ at. ap (λ t. task_at t at) (reordered-only on id p (waiting_of task.status)).tasks ∙ rows at;
      roots = roots-then (row-roots k on id p refl rows) (moved-for on id p (waiting_of task.status));
    }

-- a task that has that priority stays
same-row : (here : Bool) (k : KernelState) (id at p : ℕ) (task : Task) → (id == at) ≡ here → task_at k.tasks id ≡ Some task → task.priority ≡ p →
    task_at k.tasks at ≡ (if here then option_map (lifted_to p) (task_at k.tasks at) else task_at k.tasks at)
same-row true k id at p task test there is =
    let row : task_at k.tasks at ≡ Some task = ap (task_at k.tasks) (sym (same-number id at test)) ∙ there in
    row ∙ ap (λ q. Some (lifted_to q task)) is ∙ sym (ap (option_map (lifted_to p)) row)
same-row false k id at p task test there is = refl

none-row : (here : Bool) (k : KernelState) (id at p : ℕ) → (id == at) ≡ here → task_at k.tasks id ≡ None →
    task_at k.tasks at ≡ (if here then option_map (lifted_to p) (task_at k.tasks at) else task_at k.tasks at)
none-row true k id at p test none =
    let row : task_at k.tasks at ≡ None = ap (task_at k.tasks) (sym (same-number id at test)) ∙ none in
    row ∙ sym (ap (option_map (lifted_to p)) row)
none-row false k id at p test none = refl

given-if : (same : Bool) (k : KernelState) (id p : ℕ) (task : Task) → (task.priority == p) ≡ same → task_at k.tasks id ≡ Some task →
    IsGiven k (if same then k else lifted_in k id p (waiting_of task.status)) id p
given-if true k id p task test there =
    record { row = λ at. same-row (id == at) k id at p task refl there (same-number task.priority p test); roots = same-self k }
given-if false k id p task test there = given-lifted k id p task there

given-by : (k : KernelState) (id p : ℕ) (found : Option Task) → task_at k.tasks id ≡ found → IsGiven k (prioritized_by k id p found) id p
given-by k id p None there = record { row = λ at. none-row (id == at) k id at p refl there; roots = same-self k }
given-by k id p (Some task) there = given-if (task.priority == p) k id p task refl there

-- The tasks with IDs below a number.

record AreGiven (k new : KernelState) (priorities : List ℕ) (n : ℕ) : Type 0 where
  low : (at : ℕ) → at < n → task_at new.tasks at ≡ option_map (lifted_to (priority_at priorities at)) (task_at k.tasks at)
  high : (at : ℕ) → n ≤ at → task_at new.tasks at ≡ task_at k.tasks at
  roots : SameRoots k new

low-by : (here : Bool) (k before new : KernelState) (priorities : List ℕ) (n at : ℕ) → (n == at) ≡ here → at < suc n →
    AreGiven k before priorities n →
    task_at new.tasks at ≡ (if here then option_map (lifted_to (priority_at priorities n)) (task_at before.tasks at) else task_at before.tasks at) →
    task_at new.tasks at ≡ option_map (lifted_to (priority_at priorities at)) (task_at k.tasks at)
low-by true k before new priorities n at test small was row =
    let same : n ≡ at = same-number n at test in
    row ∙ ap (λ m. option_map (lifted_to (priority_at priorities m)) (task_at before.tasks at)) same
    ∙ ap (option_map (lifted_to (priority_at priorities at))) (was.high at (omega (arith, same)))
low-by false k before new priorities n at test small was row =
    let other : at < n = grind (arith, nat_tests, test, small) in
    row ∙ was.low at other

high-by : (k before new : KernelState) (priorities : List ℕ) (n at : ℕ) → suc n ≤ at → AreGiven k before priorities n →
    task_at new.tasks at ≡ (if n == at then option_map (lifted_to (priority_at priorities n)) (task_at before.tasks at) else task_at before.tasks at) →
    task_at new.tasks at ≡ task_at k.tasks at
high-by k before new priorities n at past was row =
    let other : (n == at) ≡ false = grind (arith, nat_tests, past) in
    row
    ∙ ap (λ t. if t then option_map (lifted_to (priority_at priorities n)) (task_at before.tasks at) else task_at before.tasks at) other
    ∙ was.high at (omega (arith, past))

all-given : (k : KernelState) (priorities : List ℕ) (n : ℕ) → AreGiven k (prioritized_below k priorities n) priorities n
unfolding prioritized_below
all-given k priorities zero =
    record { low = λ at small. absurd (omega (arith, small)); high = λ at past. refl; roots = same-self k }
all-given k priorities (suc n) =
    let before : KernelState = prioritized_below k priorities n in
    let was : AreGiven k before priorities n = all-given k priorities n in
    let new : KernelState = prioritized_by before n (priority_at priorities n) (task_at before.tasks n) in
    let given : IsGiven before new n (priority_at priorities n) = given-by before n (priority_at priorities n) (task_at before.tasks n) refl in
    record {
      low = λ at small. low-by (n == at) k before new priorities n at refl small was (given.row at);
      high = λ at past. high-by k before new priorities n at past was (given.row at);
      roots = roots-then was.roots given.roots;
    }

-- so each has its own

lifted-has : (p : ℕ) (row : Option Task) (task : Task) → option_map (lifted_to p) row ≡ Some task → task.priority ≡ p
lifted-has p None task is = let wrong : ⊥ = cc in absurd wrong
lifted-has p (Some old) task is = ap (λ (t : Task). t.priority) (some-task task (lifted_to p old) (sym is))
  where
    some-task : (one other : Task) → ◌≡◌ {A = Option Task} (Some one) (Some other) → one ≡ other
    some-task one other same = cc

prioritized-by : (standard : Bool) (k : KernelState) →
    standard ≡ true → HaveTheirPriorities (if standard then prioritized_below k (priorities_of k) 256 else k)
prioritized-by true k has = λ id task small there.
    let all = all-given k (priorities_of k) 256 in
    lifted-has (priority_at (priorities_of k) id) (task_at k.tasks id) task (sym (all.low id small) ∙ there)
    ∙ ap (λ ps. priority_at ps id) (sym (same-priorities k (prioritized_below k (priorities_of k) 256) all.roots))
prioritized-by false k has = absurd (false≢true has)

pub prioritized-has : (k : KernelState) → IsPrioritized (prioritized k)
prioritized-has k has = prioritized-by k.standard k (sym (same-prioritized k).standard ∙ has)

-- Service calls: one that is done gives priorities, and one that isn't, or is to be made again, changes nothing.

reply-has : (k : KernelState) (reply : Reply) → asks_again reply ≡ false → IsPrioritized (prioritized_after k reply)
reply-has k (Answer code second) again = prioritized-has k
reply-has k Silent again = prioritized-has k
reply-has k Again again = absurd (true≢false again)

says-has : (k : KernelState) (says : Result Served Ercd) → asks_again (or_refused k (with_priorities says)).reply ≡ false →
    IsPrioritized k → IsPrioritized (or_refused k (with_priorities says)).kernel
says-has k (Ok done) again was = reply-has done.kernel done.reply again
says-has k (Err code) again was = was

abbrev locked_by : KernelState → ℕ → ℕ → Bool → Option Spin → Served
locked_by k cpu id bad found = or_refused k (with_priorities (refused bad Id (served_object (loc_spn k cpu id) found)))

again-still : (k : KernelState) (cpu id : ℕ) (bad : Bool) (found : Option Spin) → asks_again (locked_by k cpu id bad found).reply ≡ true →
    (locked_by k cpu id bad found).kernel ≡ k
again-still k cpu id true found again = absurd (false≢true again)
again-still k cpu id false None again = absurd (false≢true again)
again-still k cpu id false (Some spin.Free) again = absurd (false≢true again)
again-still k cpu id false (Some (spin.Held by)) again = refl

locked-has : (again : Bool) (k : KernelState) (cpu id : ℕ) → asks_again (serve_of k cpu (call.LocSpn id)).reply ≡ again → IsPrioritized k →
    IsPrioritized (serve_of k cpu (call.LocSpn id)).kernel
locked-has true k cpu id again was = subst IsPrioritized (sym (again-still k cpu id (is_no_id id) (spin_of k id) again)) was
locked-has false k cpu id again was = says-has k (serve_by k cpu (caller_on k cpu) (call.LocSpn id)) again was

pub serve-has : (k : KernelState) (cpu : ℕ) (c : Call) → IsPrioritized k → IsPrioritized (serve_of k cpu c).kernel
serve-has k cpu (call.LocSpn id) was = locked-has (asks_again (serve_of k cpu (call.LocSpn id)).reply) k cpu id refl was
serve-has k cpu c was = says-has k (serve_by k cpu (caller_on k cpu) c) (serve-again k cpu c) was

-- What changes no task and no mutex keeps it.
pub parts-have : (k new : KernelState) → new.standard ≡ k.standard → new.tasks.rows ≡ k.tasks.rows → new.mutexes ≡ k.mutexes → IsPrioritized k →
    IsPrioritized new
parts-have k new standard rows mutexes was has = λ id task small there.
    was (sym standard ∙ has) id task small (ap (λ r. slice_index_or r id None) (sym rows) ∙ there)
    ∙ ap (λ ps. priority_at ps id) (sym (same-priorities k new (record {
      base = λ at. ap (λ r. base_in (slice_index_or r at None)) rows;
      reason = λ at. ap (λ r. reason_in (slice_index_or r at None)) rows;
      ceiling = λ at priorities. ap (λ table. ceiling_in (object_at table at) priorities) mutexes;
      inheritor = λ at. ap (λ table. inheritor_in (object_at table at)) mutexes;
    })))

rings-have : Outlasts IsPrioritized
rings-have k timers lines was = parts-have k (record k { timers = timers; lines = lines }) refl refl refl was

pub ticked-has : (k : KernelState) → IsPrioritized (ticked_on k (advanced k.time))
ticked-has k =
    let ended : KernelState = all_timed_out (record k { time = advanced k.time }) (due_from (advanced k.time) 0) in
    rung-keeps IsPrioritized (prioritized ended) rings-have (prioritized-has ended)

pub tick-has : (k : KernelState) → IsPrioritized k → IsPrioritized (ticked k)
tick-has k was = either IsPrioritized (nat_lt k.time.count last_count) (ticked_on k (advanced k.time)) k (ticked-has k) was

pub fault-has : (k : KernelState) (cpu : ℕ) → IsPrioritized (ended_by_fault k cpu)
fault-has k cpu = prioritized-has (faulted_in k cpu (processor_at k cpu))

-- The rule.
pub rule-is : (k : KernelState) → AreLifted (ceilings_below k 256) (inheritors_below k 256) (priorities_of k)
rule-is k = lifted-are (ceilings_below k 256) (inheritors_below k 256)
