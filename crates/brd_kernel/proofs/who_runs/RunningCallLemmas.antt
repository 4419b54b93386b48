-- Every service call, tick and exception leaves the running task of each held processor ready there.
use Rattle.std.proofs.Common.{◌≡◌, ℕ, ◌%◌, ◌^◌, List, [], ◌∷◌, ◌++◌, refl, sym, ap, subst, ◌∙◌, arith}
use Rattle.std.specs.Prelude.{Bool, true, false, not, ◌==◌, ◌&&◌, ◌||◌, if◌then◌else◌, Option, None, Some, is_some, unwrap_or, slice_index_or}
use Rattle.std.proofs.lemmas.Bool.{false≢true}
use Rattle.std.proofs.lemmas.Bool.Decides.{nat_tests}
use Rattle.brd_tasks.specs.declared.status.WaitReason.{WaitReason}
use Rattle.brd_tasks.specs.declared.status.WaitReason.TheVariants as reason
use Rattle.brd_tasks.specs.declared.task.Task.{Task}
use Rattle.brd_tasks.specs.declared.task.Request.{Request}
use Rattle.brd_tasks.specs.declared.task.Request.TheVariants.{Assigned, On}
use Rattle.brd_tasks.specs.Ready.{IsProcessor, IsRequest}
use Rattle.brd_tasks.specs.Status.{waiting_of, is_ready, blocked, suspended, resumed}
use Rattle.brd_tasks.specs.Tasks.{TaskTable, task_at, activated, through, changed, on_processor, noted, with_wakeup, without_activation, turned, released_with}
use Rattle.brd_time.specs.Time.{Time, with_due, advanced, due_from}
use Rattle.brd_objects.specs.declared.semaphore.Semaphore.{Semaphore}
use Rattle.brd_objects.specs.declared.flag.Flag.{Flag}
use Rattle.brd_objects.specs.declared.sent.Sent.{Sent}
use Rattle.brd_objects.specs.declared.sent.Sent.TheVariants.{Handed, Stored, Full}
use Rattle.brd_objects.specs.declared.sent.Received.{Received}
use Rattle.brd_objects.specs.Table.{object_at, object_changed}
use Rattle.brd_objects.specs.Semaphores.{returned, first_waiter, taken}
use Rattle.brd_objects.specs.Flags.{joined, masked, taken_for, all_released, with_all_released}
use Rattle.brd_objects.specs.DataQueues.{DataQueueState, sent, outcome, forced, forced_outcome, received}
use Rattle.brd_kernel.specs.declared.processor.Processor.{Processor}
use Rattle.brd_kernel.specs.declared.call.Call.{Call}
use Rattle.brd_kernel.specs.Answer.{e_ok}
use Rattle.brd_kernel.specs.Kernel.{KernelState, with_tasks, with_processor, processor_at, is_held, running_in, running_on, executor_in, unmarked, letting_go, with_pending, handles, accepted_line}
use Rattle.brd_kernel.specs.Row.{is_absent}
use Rattle.brd_kernel.specs.Waits.{can_wait, with_wait, released_in, reason_of, unlisted, broken_off, ended_in, reordered_in, answer_by, timed_out, all_timed_out, ticked_on, faulted_task, faulted_in, ended_by_fault, with_released, given_in, all_given_in, quits_in, prioritized}
use Rattle.brd_kernel.specs.Dispatch.{is_same_task}
use Rattle.brd_kernel.specs.Services.{runs_held, is_held_elsewhere, is_no_processor, with_all_released_in, with_satisfied_of, with_satisfied_released, handed_over, released_with_second, message_of, unmarked_on, handler_ended, serve_of, caller_on}
use Rattle.brd_kernel.specs.Running.{is_ready_on, IsRunning, IsOrderly}
use Rattle.brd_kernel.proofs.who_waits.ListLemmas.{same-number}
use Rattle.brd_kernel.proofs.WaitLemmas.{unlisted-only, reordered-only}
use Rattle.brd_kernel.proofs.WalkLemmas.{IsOfBoard, Fact, Unheld, OfTask, MayTake, HoldsNone, May, Law, lacked, awaiting, serve-leaves}
use Rattle.brd_kernel.proofs.SameLemmas.{same-entered, same-all_given}
use Rattle.brd_kernel.proofs.who_runs.ReadyLemmas.{KeepsReady, activated-keeps, ended-others, wakeup-keeps, cleared-keeps, blocked-active, suspended-active, through-others, resumed-keeps, released-keeps, priority-keeps, migrated-others, turned-keeps}
use Rattle.brd_kernel.proofs.RingLemmas.{Outlasts, rung-keeps}
use Rattle.brd_kernel.proofs.who_runs.RunningLemmas.{ready-hold, held_in, HoldsReady, IsntHeld, runs-hold, tasks-run, parts-run, marked-runs, others-hold, free-isnt_held, exit-holds, number-there}
use Rattle.brd_objects.specs.Mutexes.{owned, given, next_owner_in}
use Rattle.brd_objects.specs.Pools.{PoolState, handed_out, given_back, next_holder}
use Rattle.brd_objects.specs.Mailboxes.{MailboxState, message_sent, message_outcome, message_received}
use Rattle.brd_kernel.proofs.PricedLemmas.{priced, priced_in}
use Rattle.brd_kernel.proofs.SettledLemmas.{Settles, all-given, all-prioritized}

-- Waits that end, priorities and ticks: whoever runs goes on.

pub released-runs : (k : KernelState) (id answer : ℕ) (second : Option ℕ) → IsRunning k → IsRunning (released_in k id answer second)
released-runs k id answer second was =
    tasks-run k (released_in k id answer second) refl (released-keeps k.tasks id answer second was.tasks) was

unlisted-runs : (k : KernelState) (id : ℕ) → IsRunning k → IsRunning (unlisted k id)
unlisted-runs k id was =
    let only = unlisted-only k id (reason_of k id) in
    parts-run k (unlisted k id) only.processors only.tasks was

pub broken-runs : (k : KernelState) (id answer : ℕ) → IsRunning k → IsRunning (broken_off k id answer)
broken-runs k id answer was = released-runs (unlisted k id) id answer None (unlisted-runs k id was)

all-timed-run : (k : KernelState) (ids : List ℕ) → IsRunning k → IsRunning (all_timed_out k ids)
all-timed-run k [] was = was
all-timed-run k (id ∷ ids) was = all-timed-run (timed_out k id) ids (broken-runs k id (answer_by (reason_of k id)) was)

reordered-runs : (k : KernelState) (id priority : ℕ) (why : Option WaitReason) → IsRunning k → IsRunning (reordered_in k id priority why)
reordered-runs k id priority why was =
    let only = reordered-only k id priority why in
    parts-run k (reordered_in k id priority why) only.processors only.tasks was

priced-runs : (k : KernelState) (base : Task → ℕ) (id priority : ℕ) (why : Option WaitReason) → IsRunning k →
    IsRunning (priced_in k base id priority why)
priced-runs k base id priority why was =
    let new : KernelState = with_tasks k (changed (priced base priority) k.tasks id) in
    reordered-runs new id priority why (tasks-run k new refl (priority-keeps k.tasks base id priority was.tasks) was)

released-if-runs : (k : KernelState) (first : Option ℕ) → IsRunning k → IsRunning (with_released k first)
released-if-runs k None was = was
released-if-runs k (Some id) was = released-runs k id e_ok None was

all-released-run : (k : KernelState) (ids : List ℕ) (second : ℕ) → IsRunning k → IsRunning (with_all_released_in k ids second)
all-released-run k [] second was = was
all-released-run k (id ∷ ids) second was =
    all-released-run (released_in k id e_ok (Some second)) ids second (released-runs k id e_ok (Some second) was)

satisfied-run : (k : KernelState) (id : ℕ) (found : Option Flag) → IsRunning k → IsRunning (with_satisfied_of k id found)
satisfied-run k id None was = was
satisfied-run k id (Some f) was =
    let new : KernelState = record k { flags = object_changed with_all_released k.flags id } in
    all-released-run new (all_released f) f.pattern (parts-run k new refl refl was)

handed-runs : (k : KernelState) (datum : ℕ) (what : Sent) → IsRunning k → IsRunning (handed_over k datum what)
handed-runs k datum (Handed id) was = released-runs k id e_ok (Some datum) was
handed-runs k datum Stored was = was
handed-runs k datum Full was = was

second-runs : (k : KernelState) (second : ℕ) (id : Option ℕ) → IsRunning k → IsRunning (released_with_second k second id)
second-runs k second None was = was
second-runs k second (Some id) was = released-runs k id e_ok (Some second) was

-- Mutexes are given back, and priorities given: whoever runs goes on.

given-runs : (k : KernelState) (at : ℕ) → IsRunning k → IsRunning (given_in k at)
given-runs k at was =
    let new : KernelState = record k { mutexes = object_changed given k.mutexes at } in
    released-if-runs new (next_owner_in (object_at k.mutexes at)) (parts-run k new refl refl was)

running-settles : Settles IsRunning
running-settles = record {
  gives = λ k at m there was. given-runs k at was;
  prices = λ k base id priority (task : Task) there was. priced-runs k base id priority (waiting_of task.status) was;
}

-- the same where the running task of each held processor is ready

keeps-hold : (k new : KernelState) → new.processors ≡ k.processors → KeepsReady k.tasks new.tasks → HoldsReady k → HoldsReady new
keeps-hold k new same keeps was = ready-hold k new same keeps.orderly keeps.ready was

released-holds : (k new : KernelState) (first : Option ℕ) → new.processors ≡ k.processors → new.tasks ≡ k.tasks → HoldsReady k →
    HoldsReady (with_released new first)
released-holds k new None same tasks was = ready-hold k new same (subst IsOrderly (sym tasks) was.tasks)
    (λ id cpu ready. ap (λ t. is_ready_on (task_at t id) cpu) tasks ∙ ready) was
released-holds k new (Some id) same tasks was =
    keeps-hold k (released_in new id e_ok None) same
    (subst (λ t. KeepsReady k.tasks (released_with t id e_ok None)) (sym tasks) (released-keeps k.tasks id e_ok None was.tasks)) was

priced-holds : (k : KernelState) (base : Task → ℕ) (id priority : ℕ) (why : Option WaitReason) → HoldsReady k →
    HoldsReady (priced_in k base id priority why)
priced-holds k base id priority why was =
    let new : KernelState = with_tasks k (changed (priced base priority) k.tasks id) in
    let only = reordered-only new id priority why in
    keeps-hold k (priced_in k base id priority why) only.processors
    (subst (KeepsReady k.tasks) (sym only.tasks) (priority-keeps k.tasks base id priority was.tasks)) was

holding-settles : Settles HoldsReady
holding-settles = record {
  gives = λ k at m there was.
      released-holds k (record k { mutexes = object_changed given k.mutexes at }) (next_owner_in (object_at k.mutexes at)) refl refl was;
  prices = λ k base id priority (task : Task) there was. priced-holds k base id priority (waiting_of task.status) was;
}

prioritized-holds : (k : KernelState) → HoldsReady k → HoldsReady (prioritized k)
prioritized-holds k was = all-prioritized HoldsReady k holding-settles was

rings-run : Outlasts IsRunning
rings-run k timers lines was = parts-run k (record k { timers = timers; lines = lines }) refl refl was

pub ticked-runs : (k : KernelState) → IsRunning k → IsRunning (ticked_on k (advanced k.time))
ticked-runs k was =
    let time : Time = advanced k.time in
    let ended : KernelState = all_timed_out (record k { time = time }) (due_from time 0) in
    rung-keeps IsRunning (prioritized ended) rings-run
    (all-prioritized IsRunning ended running-settles
    (all-timed-run (record k { time = time }) (due_from time 0) (parts-run k (record k { time = time }) refl refl was)))

-- Interrupts.

pub pending-runs : (k : KernelState) (line : ℕ) → IsRunning k → IsRunning (with_pending k line)
pending-runs k line was = parts-run k (with_pending k line) refl refl was

handles-run : (k : KernelState) (cpu line : ℕ) (found : Option Processor) → processor_at k cpu ≡ found → IsRunning k →
    IsRunning (handles k cpu line found)
handles-run k cpu line None there was = was
handles-run k cpu line (Some p) there was =
    let marked : KernelState = with_processor k cpu (record p { handling = Some line }) in
    parts-run marked (handles k cpu line (Some p)) refl refl (marked-runs k cpu p (record p { handling = Some line }) there refl was)

pub accepted-runs : (k : KernelState) (cpu line : ℕ) → IsRunning k → IsRunning (accepted_line k cpu line)
accepted-runs k cpu line was = handles-run k cpu line (processor_at k cpu) refl was

-- Exceptions.

ended-processors : (k : KernelState) (id : ℕ) → (ended_in k id).processors ≡ k.processors
ended-processors k id = (unlisted-only k id (reason_of k id)).processors

pub none-held : (handling locked disabled stopped : Bool) → handling ≡ false → locked ≡ false → disabled ≡ false → stopped ≡ false →
    (handling || locked || disabled || stopped) ≡ false
none-held handling locked disabled stopped one two three four = grind (arith, one, two, three, four)

-- a task that ends gives its mutexes back before

given-run : (k : KernelState) (id : ℕ) → IsRunning k → IsRunning (all_given_in k id)
given-run k id was = all-given IsRunning k id running-settles was

quit-holds : (k : KernelState) (cpu id : ℕ) (p : Processor) → processor_at k cpu ≡ Some p → p.running ≡ Some id →
    is_held (unmarked p) ≡ false → IsRunning k → HoldsReady (with_processor (quits_in k id) cpu (unmarked p))
quit-holds k cpu id p there runs free was =
    let given_k : KernelState = all_given_in k id in
    let on : IsRunning given_k = given-run k id was in
    exit-holds given_k (ended_in given_k id) cpu id p (ap (λ ps. slice_index_or ps cpu None) (same-all_given k id).processors ∙ there) runs free
    (ended-processors given_k id) (ended-others given_k.tasks id on.tasks) on

faulted-task-holds : (k : KernelState) (cpu : ℕ) (p : Processor) (running : Option ℕ) → processor_at k cpu ≡ Some p → p.running ≡ running →
    is_some p.handling ≡ false → p.stopped ≡ false → IsRunning k → HoldsReady (faulted_task k cpu p running)
faulted-task-holds k cpu p None there runs handling stopped was = runs-hold k was
faulted-task-holds k cpu p (Some id) there runs handling stopped was =
    let on : KernelState = with_tasks k (noted without_activation k.tasks id) in
    let on_runs : IsRunning on = tasks-run k on refl (cleared-keeps k.tasks id was.tasks) was in
    quit-holds on cpu id p there runs (none-held (is_some p.handling) false false p.stopped handling refl refl stopped) on_runs

faulted-by : (handling : Bool) (k : KernelState) (cpu : ℕ) (p : Processor) → is_some p.handling ≡ handling → processor_at k cpu ≡ Some p →
    p.stopped ≡ false → IsRunning k →
    HoldsReady (if handling then with_processor k cpu (record (letting_go p) { stopped = true }) else faulted_task k cpu p p.running)
faulted-by true k cpu p test there stopped was =
    runs-hold (with_processor k cpu (record (letting_go p) { stopped = true }))
    (marked-runs k cpu p (record (letting_go p) { stopped = true }) there refl was)
faulted-by false k cpu p test there stopped was = faulted-task-holds k cpu p p.running there refl test stopped was

pub fault-holds : (k : KernelState) (cpu : ℕ) (p : Processor) → processor_at k cpu ≡ Some p → p.stopped ≡ false → IsRunning k →
    HoldsReady (ended_by_fault k cpu)
fault-holds k cpu p there stopped was =
    prioritized-holds (faulted_in k cpu (processor_at k cpu))
    (subst (λ found. HoldsReady (faulted_in k cpu found)) (sym there) (faulted-by (is_some p.handling) k cpu p refl there stopped was))

-- What the gate has shown of a call that it lets through.

-- the caller is a task, on a processor that isn't held
pub record IsFree (p : Processor) (caller : ℕ) : Type 0 where
  pub running : p.running ≡ Some caller
  pub free : is_held p ≡ false

-- the caller is a task, and its processor is neither in a handler nor stopped
pub record IsTaskOf (p : Processor) (caller : ℕ) : Type 0 where
  pub running : p.running ≡ Some caller
  pub unmarked_free : is_held (unmarked p) ≡ false

-- its processor may take a spin lock: somebody executes there, without the profile its task
pub record IsTaker (standard : Bool) (p : Processor) : Type 0 where
  pub executes : is_some (executor_in (Some p)) ≡ true
  pub plain : standard ≡ false → p.handling ≡ None

-- in a kernel that has the profile, or not
abbrev pub known_of : Bool → Processor → ℕ → Fact → Type 0
known_of standard p caller Unheld = IsFree p caller
known_of standard p caller OfTask = IsTaskOf p caller
known_of standard p caller MayTake = IsTaker standard p
known_of standard p caller HoldsNone = p.spin ≡ None

abbrev pub MayServe : Bool → Processor → ℕ → Call → Type 0
MayServe standard p caller c = May (known_of standard p caller) caller c

-- The caller waits.

begun-by : (can : Bool) (k : KernelState) (id : ℕ) (why : WaitReason) (due : Option ℕ) (entered : KernelState) →
    entered.processors ≡ k.processors → IsntHeld k id → IsRunning k →
    HoldsReady (if can then record entered { tasks = through (blocked why) k.tasks id; time = with_due k.time id due } else k)
begun-by true k id why due entered same free was =
    others-hold k (record entered { tasks = through (blocked why) k.tasks id; time = with_due k.time id due }) id same
    (through-others (blocked why) k.tasks id was.tasks (blocked-active why)) free was
begun-by false k id why due entered same free was = runs-hold k was

wait-holds : (k : KernelState) (cpu id : ℕ) (why : WaitReason) (due : Option ℕ) (entered : KernelState) (p : Processor) →
    entered.processors ≡ k.processors → processor_at k cpu ≡ Some p → IsFree p id → IsRunning k → HoldsReady (with_wait k id why due entered)
wait-holds k cpu id why due entered p same there free was =
    begun-by (can_wait (task_at k.tasks id)) k id why due entered same (free-isnt_held k cpu id p there free.running free.free was) was

-- A task that a test has shown not to be the running one of a held processor, or only of the caller's.

ready-at : (ready : Bool) (task : Task) (cpu : ℕ) → (ready && task.cpu == cpu) ≡ true → task.cpu ≡ cpu
ready-at true task cpu is = same-number task.cpu cpu is
ready-at false task cpu is = absurd (false≢true is)

ready-processor : (row : Option Task) (cpu : ℕ) (task : Task) → row ≡ Some task → is_ready_on row cpu ≡ true → task.cpu ≡ cpu
ready-processor row cpu task there ready = ready-at (is_ready task.status) task cpu (ap (λ r. is_ready_on r cpu) (sym there) ∙ ready)

elsewhere-by : (own held : Bool) (k : KernelState) (cpu at id : ℕ) (task : Task) (p : Processor) → (at == cpu) ≡ own → task.cpu ≡ at →
    processor_at k at ≡ Some p → p.running ≡ Some id → is_held p ≡ held → is_held_elsewhere k cpu id task ≡ false → held ≡ true → at ≡ cpu
unfolding is_held_elsewhere
elsewhere-by true held k cpu at id task p test on there runs hold tested is = same-number at cpu test
elsewhere-by false held k cpu at id task p test on there runs hold tested is =
    let test_on : (not (at == cpu) && runs_held (processor_at k at) id) ≡ false =
    ap (λ n. not (n == cpu) && runs_held (processor_at k n) id) (sym on) ∙ tested in
    let found : (not (at == cpu) && runs_held (Some p) id) ≡ false = ap (λ f. not (at == cpu) && runs_held f id) (sym there) ∙ test_on in
    let shown : (not (at == cpu) && (is_held p && is_same_task (Some id) (Some id))) ≡ false =
    ap (λ r. not (at == cpu) && (is_held p && is_same_task r (Some id))) (sym runs) ∙ found in
    let no : ⊥ = grind (arith, nat_tests, test, hold, is, shown) in
    absurd no

held-at : (found : Option Processor) (k : KernelState) (cpu at id : ℕ) (task : Task) → processor_at k at ≡ found → task.cpu ≡ at →
    is_held_elsewhere k cpu id task ≡ false → held_in found ≡ true → running_in found ≡ Some id → at ≡ cpu
held-at None k cpu at id task there on tested held runs = absurd (false≢true held)
held-at (Some p) k cpu at id task there on tested held runs =
    elsewhere-by (at == cpu) (is_held p) k cpu at id task p refl on there runs refl tested held

-- where it runs held, that is on the caller's processor
only-own : (k : KernelState) (cpu id at : ℕ) (task : Task) → task_at k.tasks id ≡ Some task → is_held_elsewhere k cpu id task ≡ false →
    IsRunning k → held_in (processor_at k at) ≡ true → running_on k at ≡ Some id → at ≡ cpu
only-own k cpu id at task there tested was held runs =
    held-at (processor_at k at) k cpu at id task refl (ready-processor (task_at k.tasks id) at task there (was.ready at id runs)) tested held runs

-- the caller, then
own-caller : (k : KernelState) (cpu id : ℕ) → running_on k cpu ≡ Some id → (id == caller_on k cpu) ≡ true
own-caller k cpu id runs = let same : caller_on k cpu ≡ id = ap (λ r. unwrap_or r 0) runs in grind (arith, nat_tests, same)

other-isnt_held : (k : KernelState) (cpu id : ℕ) (task : Task) → task_at k.tasks id ≡ Some task → is_held_elsewhere k cpu id task ≡ false →
    (id == caller_on k cpu) ≡ false → IsRunning k → IsntHeld k id
other-isnt_held k cpu id task there tested other was at held runs =
    let own : at ≡ cpu = only-own k cpu id at task there tested was held runs in
    false≢true (sym other ∙ own-caller k cpu id (ap (running_on k) (sym own) ∙ runs))

named-isnt_held : (k : KernelState) (cpu id : ℕ) (task : Task) (p : Processor) → task_at k.tasks id ≡ Some task →
    is_held_elsewhere k cpu id task ≡ false → processor_at k cpu ≡ Some p → ((id == caller_on k cpu) ≡ true → IsFree p (caller_on k cpu)) →
    IsRunning k → IsntHeld k id
named-isnt_held k cpu id task p there tested found may was at held runs =
    let own : at ≡ cpu = only-own k cpu id at task there tested was held runs in
    let free : IsFree p (caller_on k cpu) = may (own-caller k cpu id (ap (running_on k) (sym own) ∙ runs)) in
    false≢true (sym (ap held_in found ∙ free.free) ∙ ap (λ n. held_in (processor_at k n)) (sym own) ∙ held)

number-by-absent : (found : Option Processor) (k : KernelState) (to : ℕ) → processor_at k to ≡ found → is_absent found ≡ false → IsRunning k →
    IsProcessor to
number-by-absent None k to there test was = absurd (false≢true (sym test))
number-by-absent (Some p) k to there test was = number-there k to p was there

number-named : (k : KernelState) (to : ℕ) → is_no_processor k to ≡ false → IsRunning k → IsProcessor to
unfolding is_no_processor
number-named k to test was = number-by-absent (processor_at k to) k to refl test was

-- What each effect makes of it.

request-there : (k : KernelState) (request : Request) → IsOfBoard k request → IsRunning k → IsRequest request
request-there k Assigned of was = tt
request-there k (On to) of was = number-named k to of was

tasks-hold : (k : KernelState) (t : TaskTable) → KeepsReady k.tasks t → IsRunning k → HoldsReady (with_tasks k t)
tasks-hold k t keeps was = runs-hold (with_tasks k t) (tasks-run k (with_tasks k t) refl keeps was)

parts-hold : (k new : KernelState) → new.processors ≡ k.processors → new.tasks ≡ k.tasks → IsRunning k → HoldsReady new
parts-hold k new same tasks was = runs-hold new (parts-run k new same tasks was)

ended-handler-holds : (k : KernelState) (cpu : ℕ) (p : Processor) → processor_at k cpu ≡ Some p → IsRunning k → HoldsReady (handler_ended k cpu p)
ended-handler-holds k cpu p there was =
    let marked : KernelState = with_processor k cpu (record (letting_go p) { handling = None }) in
    parts-hold marked (handler_ended k cpu p) refl refl
    (marked-runs k cpu p (record (letting_go p) { handling = None }) there refl was)

ext-holds : (k : KernelState) (cpu caller : ℕ) (p : Processor) → processor_at k cpu ≡ Some p → IsTaskOf p caller → IsRunning k →
    HoldsReady (unmarked_on (quits_in k caller) cpu (processor_at k cpu))
ext-holds k cpu caller p there may was =
    subst (λ found. HoldsReady (unmarked_on (quits_in k caller) cpu found)) (sym there)
    (quit-holds k cpu caller p there may.running may.unmarked_free was)

ter-holds : (k : KernelState) (id : ℕ) → IsntHeld k id → IsRunning k → HoldsReady (quits_in k id)
ter-holds k id free was =
    let given_k : KernelState = all_given_in k id in
    let same : given_k.processors ≡ k.processors = (same-all_given k id).processors in
    let on : IsRunning given_k = given-run k id was in
    others-hold given_k (ended_in given_k id) id (ended-processors given_k id) (ended-others given_k.tasks id on.tasks)
    (λ cpu held runs. free cpu (ap (λ ps. held_in (slice_index_or ps cpu None)) (sym same) ∙ held)
    (ap (λ ps. running_in (slice_index_or ps cpu None)) (sym same) ∙ runs)) on

holds-law : (k : KernelState) (cpu : ℕ) (p : Processor) → processor_at k cpu ≡ Some p → IsRunning k →
    Law (known_of k.standard p (caller_on k cpu)) HoldsReady k cpu (caller_on k cpu)
holds-law k cpu p found was =
    let caller : ℕ = caller_on k cpu in
    record {
      stays = runs-hold k was;
      activates = λ id request of.
          tasks-hold k (activated k.tasks id request) (activated-keeps k.tasks id request was.tasks (request-there k request of was)) was;
      cancels = λ id. tasks-hold k (noted without_activation k.tasks id) (cleared-keeps k.tasks id was.tasks) was;
      wakes = λ id task there awake. tasks-hold k (noted (with_wakeup true) k.tasks id) (wakeup-keeps true k.tasks id was.tasks) was;
      unwakes = λ id. tasks-hold k (noted (with_wakeup false) k.tasks id) (wakeup-keeps false k.tasks id was.tasks) was;
      exits = λ may. ext-holds k cpu caller p found may was;
      ends = λ id task there held other. ter-holds k id (other-isnt_held k cpu id task there held other was) was;
      prioritizes = λ base id priority (task : Task) there. runs-hold (priced_in k base id priority (waiting_of task.status))
          (priced-runs k base id priority (waiting_of task.status) was);
      migrates = λ id to task there held absent may. others-hold k (with_tasks k (changed (on_processor to) k.tasks id)) id refl
          (migrated-others k.tasks id to was.tasks (number-named k to absent was)) (named-isnt_held k cpu id task p there held found may was) was;
      suspends = λ id task there held may. others-hold k (with_tasks k (through suspended k.tasks id)) id refl
          (through-others suspended k.tasks id was.tasks suspended-active) (named-isnt_held k cpu id task p there held found may was) was;
      resumes = λ id. tasks-hold k (through resumed k.tasks id) (resumed-keeps k.tasks id was.tasks) was;
      rouses = λ id task there asleep. runs-hold (released_in k id e_ok None) (released-runs k id e_ok None was);
      breaks = λ id answer. runs-hold (broken_off k id answer) (broken-runs k id answer was);
      sleeps = λ due task there none may. wait-holds k cpu caller reason.Sleep due k p refl found may was;
      delays = λ due may. wait-holds k cpu caller reason.Delay (Some due) k p refl found may was;
      rotates = λ on priority q there. tasks-hold k (turned k.tasks on priority)
          (turned-keeps k.tasks on priority was.tasks (omega (arith, (number-there k on q was there).1))) was;
      marks = λ q new there same how. runs-hold (with_processor k cpu new) (marked-runs k cpu q new there same was);
      returns = λ q there. ended-handler-holds k cpu q there was;
      signals = λ id (s : Semaphore) there. let new : KernelState = record k { semaphores = object_changed returned k.semaphores id } in
          runs-hold (with_released new (first_waiter s)) (released-if-runs new (first_waiter s) (parts-run k new refl refl was));
      takes = λ id s there. parts-hold k (record k { semaphores = object_changed taken k.semaphores id }) refl refl was;
      sets = λ id bits f there. let set : KernelState = record k { flags = object_changed (joined bits) k.flags id } in
          runs-hold (with_satisfied_released set id) (satisfied-run set id (object_at set.flags id) (parts-run k set refl refl was));
      clears = λ id bits f there. parts-hold k (record k { flags = object_changed (masked bits) k.flags id }) refl refl was;
      gets = λ id want f there. parts-hold k (record k { flags = object_changed (taken_for want) k.flags id }) refl refl was;
      sends = λ id datum (q : DataQueueState) there. let new : KernelState = record k { queues = object_changed (sent datum) k.queues id } in
          runs-hold (handed_over new datum (outcome q)) (handed-runs new datum (outcome q) (parts-run k new refl refl was));
      forces = λ id datum (q : DataQueueState) there. let new : KernelState = record k { queues = object_changed (forced datum) k.queues id } in
          runs-hold (handed_over new datum (forced_outcome q)) (handed-runs new datum (forced_outcome q) (parts-run k new refl refl was));
      receives = λ id q (it : Received) there is. let new : KernelState = record k { queues = object_changed received k.queues id } in
          runs-hold (with_released new it.sender) (released-if-runs new it.sender (parts-run k new refl refl was));
      locks = λ id m there. parts-hold k (record k { mutexes = object_changed (owned caller) k.mutexes id }) refl refl was;
      gives = λ id m there. runs-hold (given_in k id) (given-runs k id was);
      hands-out = λ id p block there is. parts-hold k (record k { pools = object_changed handed_out k.pools id }) refl refl was;
      gives-back = λ id block (p : PoolState) there. let new : KernelState = record k { pools = object_changed (given_back block) k.pools id } in
          runs-hold (released_with_second new block (next_holder block p)) (second-runs new block (next_holder block p) (parts-run k new refl refl was));
      posts = λ id address priority (m : MailboxState) there.
          let new : KernelState = record k { mailboxes = object_changed (message_sent (message_of address priority)) k.mailboxes id } in
          runs-hold (handed_over new address (message_outcome m)) (handed-runs new address (message_outcome m) (parts-run k new refl refl was));
      fetches = λ id m address there is. parts-hold k (record k { mailboxes = object_changed message_received k.mailboxes id }) refl refl was;
      awaits = λ id due lacks may. wait-holds k cpu caller (reason.On (lacked lacks) id) due (awaiting k caller id lacks) p
          (same-entered k caller id lacks).processors found may was;
      writes = λ word. parts-hold k (record k { console = k.console ++ word % 2 ^ 8 ∷ [] }) refl refl was;
      ends_all = parts-hold k (record k { off = true }) refl refl was;
      sets_clock = λ clock. parts-hold k (record k { clock = clock }) refl refl was;
      sets_timers = λ timers. parts-hold k (record k { timers = timers }) refl refl was;
    }

-- a call that the gate lets through
pub serve-holds : (k : KernelState) (cpu : ℕ) (p : Processor) (c : Call) → processor_at k cpu ≡ Some p →
    MayServe k.standard p (caller_on k cpu) c → IsRunning k → HoldsReady (serve_of k cpu c).kernel
serve-holds k cpu p c there may was = serve-leaves HoldsReady k cpu (holds-law k cpu p there was) prioritized-holds c may
