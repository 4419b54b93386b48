-- Every service call, tick and exception keeps what holds of waits.
use Rattle.std.proofs.Common.{◌≡◌, ℕ, ◌%◌, ◌^◌, List, [], ◌∷◌, ◌++◌, refl, sym, ap, subst, ◌∙◌}
use Rattle.std.specs.Prelude.{true, false, ◌==◌, nat_lt, Option, None, Some, is_some}
use Rattle.std.proofs.lemmas.Bool.{false≢true}
use Rattle.brd_exec.specs.State.{State}
use Rattle.brd_tasks.specs.declared.status.WaitReason.{WaitReason}
use Rattle.brd_tasks.specs.declared.status.WaitReason.TheVariants as reason
use Rattle.brd_tasks.specs.declared.task.Task.{Task}
use Rattle.brd_tasks.specs.Status.{waiting_of, suspended, resumed}
use Rattle.brd_tasks.specs.Tasks.{task_at, activated, through, changed, on_processor, with_context, noted, with_wakeup, without_activation, turned}
use Rattle.brd_time.specs.Time.{Time, last_count, advanced, due_from}
use Rattle.brd_objects.specs.declared.semaphore.Semaphore.{Semaphore}
use Rattle.brd_objects.specs.Table.{object_at, object_changed}
use Rattle.brd_objects.specs.Semaphores.{taken}
use Rattle.brd_objects.specs.Flags.{joined, masked}
use Rattle.brd_objects.specs.DataQueues.{DataQueueState}
use Rattle.brd_kernel.specs.declared.processor.Processor.{Processor}
use Rattle.brd_kernel.specs.declared.call.Call.{Call}
use Rattle.brd_kernel.specs.Answer.{e_ok}
use Rattle.brd_kernel.specs.declared.processor.Executor.{Executor}
use Rattle.brd_kernel.specs.declared.processor.Executor.TheVariants as executor
use Rattle.brd_kernel.specs.Dispatch.{dispatched}
use Rattle.brd_kernel.specs.Kernel.{KernelState, with_tasks, processor_at, unmarked, letting_go, with_context_of, with_pending, handles, accepted_line}
use Rattle.brd_kernel.specs.Waits.{reason_of, answer_by, timed_out, all_timed_out, prioritized, ticked_on, ticked, faulted_task, faulted_in, ended_by_fault, all_given_in, quits_in}
use Rattle.brd_kernel.specs.Services as table
use Rattle.brd_kernel.specs.Services.{unmarked_on, handler_ended, serve_of, caller_on, callers_priority}
use Rattle.brd_kernel.specs.Waiting.{standing_for, WaitsAreKept}
use Rattle.brd_kernel.proofs.who_waits.ListLemmas.{either}
use Rattle.brd_kernel.proofs.RingLemmas.{Outlasts, rung-keeps}
use Rattle.brd_kernel.proofs.WalkLemmas.{Anything, Law, lacked, awaiting, serve-always}
use Rattle.brd_kernel.proofs.nobody_waits.SleeperLemmas.{AreKept}
use Rattle.brd_kernel.proofs.nobody_waits.EachLemmas.{others-kept, tasks-kept, ticked-kept, fault-kept}
use Rattle.brd_kernel.proofs.nobody_waits.EachCallLemmas.{serve-kept}
use Rattle.brd_kernel.proofs.who_waits.StandingLemmas.{waits_by, waits, StandsIn, stands, kept}
use Rattle.brd_kernel.proofs.who_waits.KeepingLemmas.{by-lists, by-count}
use Rattle.brd_kernel.proofs.who_waits.RowLemmas.{noted-before, activated-before, migrated-before, turned-before, suspended-keeps, resumed-keeps, through-before}
use Rattle.brd_kernel.proofs.who_waits.WaitingLemmas.{lists-by, parts-keep, processor-keeps, tasks-keep, released-keep, broken-keeps, ended-keeps, asleep-out, wait-keeps, enters-none, enters-object, priority-keeps}
use Rattle.brd_kernel.proofs.who_waits.CallLemmas.{sleep-none, delay-none, taken-by, semaphore-stays, returned-keeps, flag-stays, taken-keeps, satisfied-keep, sent-keeps, forced-keeps, received-keeps, mutex-stays, given-keeps, handed-out-keeps, back-keeps, posted-keeps, fetched-keeps}
use Rattle.brd_objects.specs.Mutexes.{owned}
use Rattle.brd_kernel.proofs.SettledLemmas.{Settles, all-given, all-prioritized}

-- Service calls.

exit-keeps : (k : KernelState) (cpu : ℕ) (found : Option Processor) → StandsIn [] k → StandsIn [] (unmarked_on k cpu found)
exit-keeps k cpu None was = was
exit-keeps k cpu (Some p) was = processor-keeps k cpu (unmarked p) was

asleep-by : (k : KernelState) (id : ℕ) (task : Task) (waiting : Option WaitReason) → task_at k.tasks id ≡ Some task →
    waiting_of task.status ≡ waiting → table.is_sleep waiting ≡ true → StandsIn [] k →
    StandsIn (id ∷ []) k
asleep-by k id task (Some reason.Sleep) there waiting asleep was =
    asleep-out k id task.priority (ap waits there ∙ ap (λ w. waits_by w task.priority) waiting) was
asleep-by k id task _ there waiting asleep was = absurd (false≢true asleep)

-- each step of giving mutexes back and of giving priorities
pub stands-settles : Settles (StandsIn [])
stands-settles = record {
  gives = λ k at m there was. given-keeps k at m there was;
  prices = λ k base id priority (task : Task) there was. priority-keeps k base id priority task (waiting_of task.status) there refl was;
}

quits-keeps : (k : KernelState) (id : ℕ) → StandsIn [] k → StandsIn [] (quits_in k id)
quits-keeps k id was = ended-keeps (all_given_in k id) id (all-given (StandsIn []) k id stands-settles was)

-- what each effect makes of it
stands-law : (k : KernelState) (cpu caller : ℕ) → StandsIn [] k → Law Anything (StandsIn []) k cpu caller
stands-law k cpu caller was = record {
  stays = was;
  activates = λ id request of. tasks-keep k (activated k.tasks id request) (activated-before k.tasks id request) was;
  cancels = λ id. tasks-keep k (noted without_activation k.tasks id) (noted-before without_activation k.tasks id (λ x. refl)) was;
  wakes = λ id task there awake. tasks-keep k (noted (with_wakeup true) k.tasks id) (noted-before (with_wakeup true) k.tasks id (λ x. refl)) was;
  unwakes = λ id. tasks-keep k (noted (with_wakeup false) k.tasks id) (noted-before (with_wakeup false) k.tasks id (λ x. refl)) was;
  exits = λ may. exit-keeps (quits_in k caller) cpu (processor_at k cpu) (quits-keeps k caller was);
  ends = λ id task there held other. quits-keeps k id was;
  prioritizes = λ base id priority (task : Task) there. priority-keeps k base id priority task (waiting_of task.status) there refl was;
  migrates = λ id to task there held absent may. tasks-keep k (changed (on_processor to) k.tasks id) (migrated-before k.tasks id to) was;
  suspends = λ id task there held may. tasks-keep k (through suspended k.tasks id) (through-before suspended k.tasks id suspended-keeps) was;
  resumes = λ id. tasks-keep k (through resumed k.tasks id) (through-before resumed k.tasks id resumed-keeps) was;
  rouses = λ id (task : Task) there asleep. released-keep k id e_ok None [] (asleep-by k id task (waiting_of task.status) there refl asleep was);
  breaks = λ id answer. broken-keeps k id answer was;
  sleeps = λ due task there none may. wait-keeps k caller reason.Sleep due k tt
      (λ small. enters-none caller (callers_priority k caller) reason.Sleep (standing_for k) sleep-none was.apart) was;
  delays = λ due may. wait-keeps k caller reason.Delay (Some due) k refl
      (λ small. enters-none caller (callers_priority k caller) reason.Delay (standing_for k) delay-none was.apart) was;
  rotates = λ on priority p there. tasks-keep k (turned k.tasks on priority) (turned-before k.tasks on priority) was;
  marks = λ p q there same how. processor-keeps k cpu q was;
  returns = λ p there. parts-keep k (handler_ended k cpu p) refl refl refl refl refl refl refl refl was;
  signals = λ id (s : Semaphore) there. returned-keeps k id s s.waiters there refl was;
  takes = λ id (s : Semaphore) there. semaphore-stays taken k id s there (taken-by (s.count == 0) s _) was;
  sets = λ id bits f there. let set : KernelState = record k { flags = object_changed (joined bits) k.flags id } in
      satisfied-keep set id (object_at set.flags id) refl (flag-stays (joined bits) k id f there refl was);
  clears = λ id bits f there. flag-stays (masked bits) k id f there refl was;
  gets = λ id want f there. taken-keeps k id want f there was;
  sends = λ id datum q there. sent-keeps k id datum q there was;
  forces = λ id datum q there. forced-keeps k id datum q there was;
  receives = λ id (q : DataQueueState) it there is. received-keeps k id q it there is was;
  locks = λ id m there. mutex-stays (owned caller) k id m there refl was;
  gives = λ id m there. given-keeps k id m there was;
  hands-out = λ id p block there is. handed-out-keeps k id p there was;
  gives-back = λ id block p there. back-keeps k id block p there was;
  posts = λ id address priority m there. posted-keeps k id address priority m there was;
  fetches = λ id m address there is. fetched-keeps k id m there was;
  awaits = λ id due lacks may. wait-keeps k caller (reason.On (lacked lacks) id) due (awaiting k caller id lacks) tt
      (enters-object k caller id lacks was) was;
  writes = λ word. parts-keep k (record k { console = k.console ++ word % 2 ^ 8 ∷ [] }) refl refl refl refl refl refl refl refl was;
  ends_all = parts-keep k (record k { off = true }) refl refl refl refl refl refl refl refl was;
  sets_clock = λ clock. parts-keep k (record k { clock = clock }) refl refl refl refl refl refl refl refl was;
  sets_timers = λ timers. parts-keep k (record k { timers = timers }) refl refl refl refl refl refl refl refl was;
}

pub serve-keeps : (k : KernelState) (cpu : ℕ) (c : Call) → WaitsAreKept k → WaitsAreKept (serve_of k cpu c).kernel
serve-keeps k cpu c was =
    kept (serve_of k cpu c).kernel (serve-always (StandsIn []) k cpu (stands-law k cpu (caller_on k cpu) (stands k was))
    (λ new stood. all-prioritized (StandsIn []) new stands-settles stood) c)
    (serve-kept k cpu c was.each)

-- Ticks.

all-timed-keep : (k : KernelState) (ids : List ℕ) → StandsIn [] k → StandsIn [] (all_timed_out k ids)
all-timed-keep k [] was = was
all-timed-keep k (id ∷ ids) was = all-timed-keep (timed_out k id) ids (broken-keeps k id (answer_by (reason_of k id)) was)

count-keeps : (k : KernelState) (time : Time) → time.dues ≡ k.time.dues → StandsIn [] k → StandsIn [] (record k { time = time })
count-keeps k time same was =
    let new : KernelState = record k { time = time } in
    by-lists [] k.tasks time (standing_for k) (standing_for new) (lists-by k new refl refl refl refl refl refl)
    (by-count [] k.tasks k.time time (standing_for k) same was)

rings-keep : Outlasts (StandsIn [])
rings-keep k timers lines was = parts-keep k (record k { timers = timers; lines = lines }) refl refl refl refl refl refl refl refl was

pub ticked-keeps : (k : KernelState) → WaitsAreKept k → WaitsAreKept (ticked_on k (advanced k.time))
ticked-keeps k was =
    let time : Time = advanced k.time in
    let ended : KernelState = all_timed_out (record k { time = time }) (due_from time 0) in
    kept (ticked_on k time)
    (rung-keeps (StandsIn []) (prioritized ended) rings-keep
    (all-prioritized (StandsIn []) ended stands-settles
    (all-timed-keep (record k { time = time }) (due_from time 0)
    (count-keeps k time (either (λ (t : Time). t.dues ≡ k.time.dues) (nat_lt k.time.count last_count) _ k.time refl refl) (stands k was)))))
    (ticked-kept k was.each)

pub tick-keeps : (k : KernelState) → WaitsAreKept k → WaitsAreKept (ticked k)
tick-keeps k was = either (λ x. WaitsAreKept x) (nat_lt k.time.count last_count) (ticked_on k (advanced k.time)) k (ticked-keeps k was) was

-- Exceptions.

faulted-task-keeps : (k : KernelState) (cpu : ℕ) (p : Processor) (running : Option ℕ) → StandsIn [] k → StandsIn [] (faulted_task k cpu p running)
faulted-task-keeps k cpu p None was = was
faulted-task-keeps k cpu p (Some id) was =
    let on : KernelState = with_tasks k (noted without_activation k.tasks id) in
    let out : KernelState = quits_in on id in
    processor-keeps out cpu (unmarked p)
    (quits-keeps on id (tasks-keep k (noted without_activation k.tasks id) (noted-before without_activation k.tasks id (λ x. refl)) was))

faulted-keeps : (k : KernelState) (cpu : ℕ) (found : Option Processor) → StandsIn [] k → StandsIn [] (faulted_in k cpu found)
faulted-keeps k cpu None was = was
faulted-keeps k cpu (Some p) was =
    either (StandsIn []) (is_some p.handling) _ _ (processor-keeps k cpu (record (letting_go p) { stopped = true }) was)
    (faulted-task-keeps k cpu p p.running was)

pub fault-keeps : (k : KernelState) (cpu : ℕ) → WaitsAreKept k → WaitsAreKept (ended_by_fault k cpu)
fault-keeps k cpu was =
    kept (ended_by_fault k cpu)
    (all-prioritized (StandsIn []) (faulted_in k cpu (processor_at k cpu)) stands-settles (faulted-keeps k cpu (processor_at k cpu) (stands k was)))
    (fault-kept k cpu was.each)

-- What changes no wait, no list and no due tick.
pub others-keep : (k new : KernelState) → new.tasks ≡ k.tasks → new.time ≡ k.time → new.semaphores ≡ k.semaphores → new.flags ≡ k.flags →
    new.queues ≡ k.queues → new.mutexes ≡ k.mutexes → new.pools ≡ k.pools → new.mailboxes ≡ k.mailboxes → WaitsAreKept k → WaitsAreKept new
others-keep k new tasks time semaphores flags queues mutexes pools mailboxes was =
    kept new (parts-keep k new tasks time semaphores flags queues mutexes pools mailboxes (stands k was))
    (others-kept k new semaphores flags queues mutexes pools mailboxes (subst (λ t. AreKept t) (sym tasks) was.each.sleepers) was.each)

pub context-keeps : (k : KernelState) (cpu : ℕ) (who : Executor) (s : State) → WaitsAreKept k → WaitsAreKept (with_context_of k cpu who s)
context-keeps k cpu executor.Handler s was = others-keep k (with_context_of k cpu executor.Handler s) refl refl refl refl refl refl refl refl was
context-keeps k cpu (executor.Task id) s was =
    kept (with_context_of k cpu (executor.Task id) s)
    (tasks-keep k (with_context k.tasks id s) (record { long = refl; same = λ at. refl }) (stands k was))
    (tasks-kept k (with_context k.tasks id s) was.each.sleepers was.each)

pub dispatched-keeps : (k : KernelState) → WaitsAreKept k → WaitsAreKept (dispatched k)
dispatched-keeps k was = others-keep k (dispatched k) refl refl refl refl refl refl refl refl was

pub pending-keeps : (k : KernelState) (line : ℕ) → WaitsAreKept k → WaitsAreKept (with_pending k line)
pending-keeps k line was = others-keep k (with_pending k line) refl refl refl refl refl refl refl refl was

handles-keep : (k : KernelState) (cpu line : ℕ) (found : Option Processor) → WaitsAreKept k → WaitsAreKept (handles k cpu line found)
handles-keep k cpu line None was = was
handles-keep k cpu line (Some p) was = others-keep k (handles k cpu line (Some p)) refl refl refl refl refl refl refl refl was

pub accepted-keeps : (k : KernelState) (cpu line : ℕ) → WaitsAreKept k → WaitsAreKept (accepted_line k cpu line)
accepted-keeps k cpu line was = handles-keep k cpu line (processor_at k cpu) was
