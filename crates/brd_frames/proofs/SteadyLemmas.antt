-- An agent that an event is apart from stays steady.
use Rattle.std.proofs.Common.{◌≡◌, ℕ, ◌+◌, Bool, true, false, not, List, [], ◌∷◌, refl, sym, ap, subst, ◌∙◌, inl, inr}
use Rattle.std.specs.Prelude.{zero, suc, ◌||◌, if◌then◌else◌, nat_lt, slice_index_or, slice_set, Option, None, Some, is_some}
use Rattle.std.specs.Option.{option_map}
use Rattle.std.proofs.lemmas.Bool.{false≢true, true≢false, cases_eq, not-true}
use Rattle.std.proofs.lemmas.List.{get_or-set_other}
use Rattle.brd_exec.specs.State.{State}
use Rattle.brd_exec.specs.Step.{Ran, ran}
use Rattle.brd_exec.specs.declared.outcome.Outcome.{Outcome}
use Rattle.brd_exec.specs.declared.outcome.Outcome.TheVariants.{Done, Syscall, Exception}
use Rattle.brd_queue.specs.Queue.{Plain}
use Rattle.brd_tasks.specs.declared.status.Status.{Status}
use Rattle.brd_tasks.specs.declared.status.Status.TheVariants as status
use Rattle.brd_tasks.specs.declared.status.WaitReason.{WaitReason}
use Rattle.brd_tasks.specs.declared.status.WaitReason.TheVariants as reason
use Rattle.brd_tasks.specs.declared.task.Task.{Task}
use Rattle.brd_tasks.specs.declared.task.Request.{Request}
use Rattle.brd_tasks.specs.Status.{waiting_of, is_dormant, is_waiting, released, blocked, suspended, resumed}
use Rattle.brd_tasks.specs.Tasks.{TaskTable, task_at, ready_on, first_id, started, processor_of, where_there, starts, activated, ended_by, ended, put_into, through, released_to, released_with, changed, noted, on_processor, with_wakeup, without_activation}
use Rattle.brd_time.specs.Time.{last_count, advanced, due_from}
use Rattle.brd_objects.specs.declared.flag.Flag.{Flag}
use Rattle.brd_objects.specs.declared.semaphore.Semaphore.{Semaphore}
use Rattle.brd_objects.specs.declared.sent.Sent.{Sent}
use Rattle.brd_objects.specs.declared.sent.Sent.TheVariants.{Handed, Stored, Full}
use Rattle.brd_objects.specs.declared.sent.Received.{Received}
use Rattle.brd_objects.specs.Table.{object_at, object_changed}
use Rattle.brd_objects.specs.Semaphores.{returned, first_waiter}
use Rattle.brd_objects.specs.Flags.{joined, all_released, with_all_released}
use Rattle.brd_objects.specs.DataQueues.{DataQueueState, sent, outcome, forced, forced_outcome, received}
use Rattle.brd_objects.specs.Mutexes.{given, next_owner_in}
use Rattle.brd_objects.specs.Pools.{PoolState, given_back, next_holder}
use Rattle.brd_objects.specs.Mailboxes.{MailboxState, message_sent, message_outcome}
use Rattle.brd_kernel.proofs.RingLemmas.{rung-keeps}
use Rattle.brd_kernel.specs.Waits.{rung}
use Rattle.brd_kernel.specs.declared.processor.Processor.{Processor}
use Rattle.brd_kernel.specs.declared.processor.Executor.{Executor}
use Rattle.brd_kernel.specs.declared.processor.Executor.TheVariants as executor
use Rattle.brd_kernel.specs.declared.call.Call.{Call}
use Rattle.brd_kernel.specs.Answer.{e_ok}
use Rattle.brd_kernel.specs.Kernel.{KernelState, processor_at, is_held, with_tasks, unmarked, letting_go, executor_by, executor_in, executor_on, context_of, with_context_of, deliverable, pending_from, accepts, handles, accepted_line, can_be_raised}
use Rattle.brd_kernel.specs.Waits.{can_wait, with_wait, released_in, reason_of, unlisted, broken_off, answer_by, timed_out, all_timed_out, faulted_task, faulted_in, ended_by_fault, with_released, given_in, all_given_in, quits_in, prioritized}
use Rattle.brd_kernel.specs.Dispatch.{dispatched_one, dispatched_from, dispatched}
use Rattle.brd_kernel.specs.Services.{with_all_released_in, with_satisfied_of, handed_over, released_with_second, message_of, unmarked_on, caller_on}
use Rattle.brd_kernel.proofs.WaitLemmas.{unlisted-only, reordered-only}
use Rattle.brd_kernel.proofs.PricedLemmas.{priced, priced_in}
use Rattle.brd_kernel.proofs.SettledLemmas.{Settles, all-given, all-prioritized}
use Rattle.brd_kernel.proofs.WalkLemmas.{lacked, awaiting, Fact, Unheld, Law, serve-leaves}
use Rattle.brd_kernel.proofs.who_runs.RunningCallLemmas.{known_of}
use Rattle.brd_kernel.proofs.SameLemmas.{Same, same-quits, same-timed, same-prioritized, same-law}
use Rattle.brd_sysgate.specs.Gate.{called}
use Rattle.brd_board.specs.Executing.{executed_by, executed_in}
use Rattle.brd_board.specs.declared.event.Event.{Event}
use Rattle.brd_board.specs.declared.event.Event.TheVariants.{Step, Tick, Raise}
use Rattle.brd_board.specs.declared.event.Report.TheVariants as report
use Rattle.brd_board.specs.Board.{BoardState, Happened, reported, with_executed, instruction_done, executes_in, accepts_or_executes, stepped_in, happens_on, happens}
use Rattle.brd_board.proofs.CallingLemmas as calling
use Rattle.brd_frames.specs.Steady.{is_waiting_task}
use Rattle.brd_frames.specs.Agents as agents
use Rattle.brd_frames.specs.Agents.{Agent, agent_by}
use Rattle.brd_frames.specs.Apart.{is_handling, is_steady, Executes, IsApart}
use Rattle.brd_frames.proofs.EndLemmas.{set-cases}
use Rattle.brd_frames.proofs.FrameLemmas.{handling-accepts}

-- the task of an ID doesn't wait
abbrev Rests : ℕ → TaskTable → Type 0
Rests id t = is_waiting_task (task_at t id) ≡ false

-- Tables.

row-rests : (id at : ℕ) (rows : List (Option Task)) (task : Task) → is_waiting_task (slice_index_or rows id None) ≡ false →
    (at ≡ id → is_waiting task.status ≡ false) → is_waiting_task (slice_index_or (slice_set rows at (Some task)) id None) ≡ false
row-rests id at rows task was new = elim (set-cases rows at id (Some task) None) [
  | inl both ↦ ap is_waiting_task both.1 ∙ new both.0
  | inr old ↦ ap is_waiting_task old ∙ was
]

where-rests : (id : ℕ) (t : TaskTable) (row : Option Task) (change : Task → TaskTable) → Rests id t →
    ((task : Task) → row ≡ Some task → Rests id (change task)) → Rests id (where_there t row change)
where-rests id t None change was new = was
where-rests id t (Some task) change was new = new task refl

there-rests : (id at : ℕ) (t : TaskTable) (task : Task) → Rests id t → task_at t at ≡ Some task → at ≡ id → is_waiting task.status ≡ false
there-rests id at t task was there same = sym (ap is_waiting_task (sym (ap (task_at t) same) ∙ there)) ∙ was

-- a transition that lets nobody begin to wait
abbrev Rouses : (Status → Option Status) → Type 0
Rouses transition = (s to : Status) → transition s ≡ Some to → is_waiting s ≡ false → is_waiting to ≡ false

released-rouses : Rouses released
released-rouses status.Dormant to is rests = let wrong : ⊥ = cc in absurd wrong
released-rouses status.Ready to is rests = let wrong : ⊥ = cc in absurd wrong
released-rouses (status.Waiting why) to is rests = absurd (true≢false rests)
released-rouses status.Suspended to is rests = let wrong : ⊥ = cc in absurd wrong
released-rouses (status.WaitingSuspended why) to is rests = absurd (true≢false rests)

suspended-rouses : Rouses suspended
suspended-rouses status.Dormant to is rests = let wrong : ⊥ = cc in absurd wrong
suspended-rouses status.Ready to is rests = let same : status.Suspended ≡ to = cc in sym (ap is_waiting same)
suspended-rouses (status.Waiting why) to is rests = absurd (true≢false rests)
suspended-rouses status.Suspended to is rests = let wrong : ⊥ = cc in absurd wrong
suspended-rouses (status.WaitingSuspended why) to is rests = absurd (true≢false rests)

resumed-rouses : Rouses resumed
resumed-rouses status.Dormant to is rests = let wrong : ⊥ = cc in absurd wrong
resumed-rouses status.Ready to is rests = let wrong : ⊥ = cc in absurd wrong
resumed-rouses (status.Waiting why) to is rests = absurd (true≢false rests)
resumed-rouses status.Suspended to is rests = let same : status.Ready ≡ to = cc in sym (ap is_waiting same)
resumed-rouses (status.WaitingSuspended why) to is rests = absurd (true≢false rests)

put-rests : (id at : ℕ) (t : TaskTable) (task : Task) (to : Option Status) → Rests id t →
    ((s : Status) → to ≡ Some s → at ≡ id → is_waiting s ≡ false) → Rests id (put_into t at task to)
put-rests id at t task None was rests = was
put-rests id at t task (Some to) was rests = row-rests id at t.rows (record task { status = to }) was (rests to refl)

through-rests : (id at : ℕ) (transition : Status → Option Status) (t : TaskTable) → Rests id t →
    ((task : Task) (s : Status) → task_at t at ≡ Some task → transition task.status ≡ Some s → at ≡ id → is_waiting s ≡ false) →
    Rests id (through transition t at)
through-rests id at transition t was rests =
    where-rests id t (task_at t at) _ was
    (λ (task : Task) there. put-rests id at t task (transition task.status) was (λ s is. rests task s there is))

rouses-rests : (id at : ℕ) (transition : Status → Option Status) (t : TaskTable) → Rests id t → Rouses transition →
    Rests id (through transition t at)
rouses-rests id at transition t was rouses =
    through-rests id at transition t was (λ (task : Task) s there is same. rouses task.status s is (there-rests id at t task was there same))

changed-rests : (id at : ℕ) (change : Task → Task) (t : TaskTable) → Rests id t → ((task : Task) → (change task).status ≡ task.status) →
    Rests id (changed change t at)
changed-rests id at change t was keeps =
    where-rests id t (task_at t at) _ was
    (λ (task : Task) there. row-rests id at t.rows (change task) was (λ same. ap is_waiting (keeps task) ∙ there-rests id at t task was there same))

noted-rests : (id at : ℕ) (note : Task → Task) (t : TaskTable) → Rests id t → ((task : Task) → (note task).status ≡ task.status) →
    Rests id (noted note t at)
noted-rests id at note t was keeps =
    where-rests id t (task_at t at) _ was
    (λ (task : Task) there. row-rests id at t.rows (note task) was (λ same. ap is_waiting (keeps task) ∙ there-rests id at t task was there same))

starts-rests : (id at cpu : ℕ) (t : TaskTable) (task : Task) → Rests id t → Rests id (starts t at cpu task)
starts-rests id at cpu t task was = row-rests id at t.rows (started cpu task) was (λ same. refl)

if-rests : (id : ℕ) (test : Bool) (one other : TaskTable) → Rests id one → Rests id other → Rests id (if test then one else other)
if-rests id true one other first second = first
if-rests id false one other first second = second

activated-rests : (id at : ℕ) (t : TaskTable) (request : Request) → Rests id t → Rests id (activated t at request)
activated-rests id at t request was =
    where-rests id t (task_at t at) _ was
    (λ (task : Task) there. if-rests id (is_dormant task.status) _ _ (starts-rests id at (processor_of request task) t task was)
    (row-rests id at t.rows (record task { activation = Some request }) was (there-rests id at t task was there)))

ended-by-rests : (id at : ℕ) (t : TaskTable) (task : Task) (queued : Option Request) → Rests id t → Rests id (ended_by t at task queued)
ended-by-rests id at t task None was = row-rests id at t.rows (record task { status = status.Dormant; wakeup = false }) was (λ same. refl)
ended-by-rests id at t task (Some request) was = starts-rests id at (processor_of request task) t task was

ended-rests : (id at : ℕ) (t : TaskTable) → Rests id t → Rests id (ended t at)
ended-rests id at t was = where-rests id t (task_at t at) _ was (λ (task : Task) there. ended-by-rests id at t task task.activation was)

released-to-rests : (id at answer : ℕ) (t : TaskTable) (second : Option ℕ) (task : Task) (to : Option Status) → Rests id t →
    ((s : Status) → to ≡ Some s → at ≡ id → is_waiting s ≡ false) → Rests id (released_to t at answer second task to)
released-to-rests id at answer t second task None was rests = was
released-to-rests id at answer t second task (Some to) was rests = row-rests id at t.rows (record task { status = to }) was (rests to refl)

released-with-rests : (id at answer : ℕ) (t : TaskTable) (second : Option ℕ) → Rests id t → Rests id (released_with t at answer second)
released-with-rests id at answer t second was =
    where-rests id t (task_at t at) _ was
    (λ (task : Task) there. released-to-rests id at answer t second task (released task.status) was
    (λ s is same. released-rouses task.status s is (there-rests id at t task was there same)))

-- Kernels.

abbrev RestsIn : ℕ → KernelState → Type 0
RestsIn id k = Rests id k.tasks

broken-rests : (id at answer : ℕ) (k : KernelState) → RestsIn id k → RestsIn id (broken_off k at answer)
broken-rests id at answer k was =
    released-with-rests id at answer (unlisted k at).tasks None (subst (Rests id) (sym (unlisted-only k at (reason_of k at)).tasks) was)

all-timed-rests : (id : ℕ) (k : KernelState) (ids : List ℕ) → RestsIn id k → RestsIn id (all_timed_out k ids)
all-timed-rests id k [] was = was
all-timed-rests id k (at ∷ ids) was = all-timed-rests id (timed_out k at) ids (broken-rests id at (answer_by (reason_of k at)) k was)

if-rests-in : (id : ℕ) (test : Bool) (one other : KernelState) → RestsIn id one → RestsIn id other → RestsIn id (if test then one else other)
if-rests-in id true one other first second = first
if-rests-in id false one other first second = second

wait-rests : (id at : ℕ) (k : KernelState) (why : WaitReason) (due : Option ℕ) (entered : KernelState) → (at ≡ id → ⊥) → RestsIn id k →
    RestsIn id (with_wait k at why due entered)
wait-rests id at k why due entered apart was =
    if-rests-in id (can_wait (task_at k.tasks at)) _ k
    (through-rests id at (blocked why) k.tasks was (λ task s there is same. absurd (apart same))) was

released-if-rests : (id : ℕ) (k : KernelState) (first : Option ℕ) → RestsIn id k → RestsIn id (with_released k first)
released-if-rests id k None was = was
released-if-rests id k (Some at) was = released-with-rests id at e_ok k.tasks None was

all-released-rests : (id : ℕ) (k : KernelState) (ids : List ℕ) (second : ℕ) → RestsIn id k → RestsIn id (with_all_released_in k ids second)
all-released-rests id k [] second was = was
all-released-rests id k (at ∷ ids) second was =
    all-released-rests id (released_in k at e_ok (Some second)) ids second (released-with-rests id at e_ok k.tasks (Some second) was)

satisfied-rests : (id : ℕ) (k : KernelState) (at : ℕ) (found : Option Flag) → RestsIn id k → RestsIn id (with_satisfied_of k at found)
satisfied-rests id k at None was = was
satisfied-rests id k at (Some flag) was =
    all-released-rests id (record k { flags = object_changed with_all_released k.flags at }) (all_released flag) flag.pattern was

handed-rests : (id : ℕ) (k : KernelState) (datum : ℕ) (what : Sent) → RestsIn id k → RestsIn id (handed_over k datum what)
handed-rests id k datum (Handed at) was = released-with-rests id at e_ok k.tasks (Some datum) was
handed-rests id k datum Stored was = was
handed-rests id k datum Full was = was

second-rests : (id : ℕ) (k : KernelState) (second : ℕ) (first : Option ℕ) → RestsIn id k → RestsIn id (released_with_second k second first)
second-rests id k second None was = was
second-rests id k second (Some at) was = released-with-rests id at e_ok k.tasks (Some second) was

unmarked-rests : (id : ℕ) (k : KernelState) (cpu : ℕ) (found : Option Processor) → RestsIn id k → RestsIn id (unmarked_on k cpu found)
unmarked-rests id k cpu None was = was
unmarked-rests id k cpu (Some p) was = was

-- Mutexes and priorities.

given-rests : (id : ℕ) (k : KernelState) (at : ℕ) → RestsIn id k → RestsIn id (given_in k at)
given-rests id k at was =
    released-if-rests id (record k { mutexes = object_changed given k.mutexes at }) (next_owner_in (object_at k.mutexes at)) was

priced-rests : (id : ℕ) (k : KernelState) (base : Task → ℕ) (at priority : ℕ) (why : Option WaitReason) → RestsIn id k →
    RestsIn id (priced_in k base at priority why)
priced-rests id k base at priority why was =
    let new : KernelState = with_tasks k (changed (priced base priority) k.tasks at) in
    subst (Rests id) (sym (reordered-only new at priority why).tasks) (changed-rests id at (priced base priority) k.tasks was (λ it. refl))

rests-settle : (id : ℕ) → Settles (RestsIn id)
rests-settle id = record {
  gives = λ k at m there was. given-rests id k at was;
  prices = λ k base at priority (task : Task) there was. priced-rests id k base at priority (waiting_of task.status) was;
}

quits-rests : (id at : ℕ) (k : KernelState) → RestsIn id k → RestsIn id (quits_in k at)
quits-rests id at k was = ended-rests id at (all_given_in k at).tasks (all-given (RestsIn id) k at (rests-settle id) was)

prioritized-rests : (id : ℕ) (k : KernelState) → RestsIn id k → RestsIn id (prioritized k)
prioritized-rests id k was = all-prioritized (RestsIn id) k (rests-settle id) was

rests-law : (Known : Fact → Type 0) (id : ℕ) (k : KernelState) (cpu caller : ℕ) → (Known Unheld → caller ≡ id → ⊥) → RestsIn id k →
    Law Known (λ new. RestsIn id new) k cpu caller
rests-law Known id k cpu caller apart was = record {
  stays = was;
  activates = λ at request of. activated-rests id at k.tasks request was;
  cancels = λ at. noted-rests id at without_activation k.tasks was (λ task. refl);
  wakes = λ at task there awake. noted-rests id at (with_wakeup true) k.tasks was (λ task. refl);
  unwakes = λ at. noted-rests id at (with_wakeup false) k.tasks was (λ task. refl);
  exits = λ known. unmarked-rests id (quits_in k caller) cpu (processor_at k cpu) (quits-rests id caller k was);
  ends = λ at task there held other. quits-rests id at k was;
  prioritizes = λ base at priority (task : Task) there. priced-rests id k base at priority (waiting_of task.status) was;
  migrates = λ at to task there held absent may. changed-rests id at (on_processor to) k.tasks was (λ it. refl);
  suspends = λ at task there held may. rouses-rests id at suspended k.tasks was suspended-rouses;
  resumes = λ at. rouses-rests id at resumed k.tasks was resumed-rouses;
  rouses = λ at task there asleep. released-with-rests id at e_ok k.tasks None was;
  breaks = λ at answer. broken-rests id at answer k was;
  sleeps = λ due task there none known. wait-rests id caller k reason.Sleep due k (apart known) was;
  delays = λ due known. wait-rests id caller k reason.Delay (Some due) k (apart known) was;
  rotates = λ on priority p there. was;
  marks = λ p q there runs holding. was;
  returns = λ p there. was;
  signals = λ at (s : Semaphore) there.
      released-if-rests id (record k { semaphores = object_changed returned k.semaphores at }) (first_waiter s) was;
  takes = λ at s there. was;
  sets = λ at bits flag there.
      let set : KernelState = record k { flags = object_changed (joined bits) k.flags at } in
      satisfied-rests id set at (object_at set.flags at) was;
  clears = λ at bits flag there. was;
  gets = λ at want flag there. was;
  sends = λ at datum (q : DataQueueState) there.
      handed-rests id (record k { queues = object_changed (sent datum) k.queues at }) datum (outcome q) was;
  forces = λ at datum (q : DataQueueState) there.
      handed-rests id (record k { queues = object_changed (forced datum) k.queues at }) datum (forced_outcome q) was;
  receives = λ at q (it : Received) there is.
      released-if-rests id (record k { queues = object_changed received k.queues at }) it.sender was;
  locks = λ at m there. was;
  gives = λ at m there. given-rests id k at was;
  hands-out = λ at p block there is. was;
  gives-back = λ at block (p : PoolState) there.
      second-rests id (record k { pools = object_changed (given_back block) k.pools at }) block (next_holder block p) was;
  posts = λ at address priority (m : MailboxState) there.
      handed-rests id (record k { mailboxes = object_changed (message_sent (message_of address priority)) k.mailboxes at }) address (message_outcome m) was;
  fetches = λ at m address there is. was;
  awaits = λ at due lacks known. wait-rests id caller k (reason.On (lacked lacks) at) due (awaiting k caller at lacks) (apart known) was;
  writes = λ word. was;
  ends_all = was;
  sets_clock = λ clock. was;
  sets_timers = λ timers. was;
}

-- Who waits is the task that executes.

free-by : (handling : Option ℕ) (locked disabled stopped : Bool) (running : Option ℕ) (caller : ℕ) →
    (is_some handling || locked || disabled || stopped) ≡ false → running ≡ Some caller →
    (if stopped then None else executor_by running handling) ≡ Some (executor.Task caller)
free-by (Some line) locked disabled stopped running caller free runs = absurd (true≢false free)
free-by None true disabled stopped running caller free runs = absurd (true≢false free)
free-by None false true stopped running caller free runs = absurd (true≢false free)
free-by None false false true running caller free runs = absurd (true≢false free)
free-by None false false false running caller free runs = ap (λ x. executor_by x None) runs

waits-executes : (standard : Bool) (p : Processor) (caller : ℕ) → known_of standard p caller Unheld →
    executor_in (Some p) ≡ Some (executor.Task caller)
waits-executes standard p caller known = free-by p.handling p.locked p.disabled p.stopped p.running caller known.free known.running

put-rests-in : (id : ℕ) (k : KernelState) (cpu : ℕ) (who : Executor) (s : State) → RestsIn id k → RestsIn id (with_context_of k cpu who s)
put-rests-in id k cpu executor.Handler s was = was
put-rests-in id k cpu (executor.Task at) s was = was

called-rests : (id : ℕ) (k : KernelState) (cpu : ℕ) → (executor_on k cpu ≡ Some (executor.Task id) → ⊥) → RestsIn id k → RestsIn id (called k cpu)
called-rests id k cpu apart was =
    calling.called-leaves {P = λ now. RestsIn id now} {Q = λ now. RestsIn id now} k cpu
    (record {
      quiet = λ now was. was;
      goes_on = λ now who s was. put-rests-in id now cpu who s was;
      replies = λ now who s was. put-rests-in id now cpu who s was;
      serves = λ now p (c : Call) same there may was.
          serve-leaves (λ new. RestsIn id new) now cpu
          (rests-law (known_of now.standard p (caller_on now cpu)) id now cpu (caller_on now cpu)
          (λ known is. apart
          (sym (ap (λ ps. executor_in (slice_index_or ps cpu None)) same.processors)
          ∙ ap executor_in there
          ∙ waits-executes now.standard p (caller_on now cpu) known
          ∙ ap (λ x. Some (executor.Task x)) is)) was) (prioritized-rests id) c may;
    }) was

faulted-rests : (id : ℕ) (k : KernelState) (cpu : ℕ) (p : Processor) (running : Option ℕ) → RestsIn id k →
    RestsIn id (faulted_task k cpu p running)
faulted-rests id k cpu p None was = was
faulted-rests id k cpu p (Some at) was =
    quits-rests id at (with_tasks k (noted without_activation k.tasks at)) (noted-rests id at without_activation k.tasks was (λ task. refl))

faulted-in-rests : (id : ℕ) (k : KernelState) (cpu : ℕ) (found : Option Processor) → RestsIn id k → RestsIn id (faulted_in k cpu found)
faulted-in-rests id k cpu None was = was
faulted-in-rests id k cpu (Some p) was = if-rests-in id (is_some p.handling) _ _ was (faulted-rests id k cpu p p.running was)

-- Handlers stay at work.

abbrev Works : ℕ → KernelState → Type 0
Works at k = is_handling (processor_at k at) ≡ true

by-held : (held : Bool) (p : Processor) (ready : List Plain) →
    is_handling (Some (if held then p else record p { running = first_id ready })) ≡ is_some p.handling
by-held true p ready = refl
by-held false p ready = refl

one-works : (found : Option Processor) (ready : List Plain) → is_handling (dispatched_one found ready) ≡ is_handling found
one-works None ready = refl
one-works (Some p) ready = by-held (is_held p) p ready

dispatched-works : (t : TaskTable) (n at : ℕ) (ps : List (Option Processor)) →
    is_handling (slice_index_or (dispatched_from t n ps) at None) ≡ is_handling (slice_index_or ps at None)
dispatched-works t n at [] = refl
dispatched-works t n zero (p ∷ ps) = one-works p (ready_on t n)
dispatched-works t n (suc at) (p ∷ ps) = dispatched-works t (n + 1) at ps

-- a processor other than the one that steps is as it was
abbrev Elsewhere : ℕ → KernelState → KernelState → Type 0
Elsewhere at new k = processor_at new at ≡ processor_at k at

same-elsewhere : (at : ℕ) (new k : KernelState) → Same new k → Elsewhere at new k
same-elsewhere at new k same = ap (λ ps. slice_index_or ps at None) same.processors

unmarked-elsewhere : (at : ℕ) (k : KernelState) (cpu : ℕ) (found : Option Processor) → (at ≡ cpu → ⊥) → Elsewhere at (unmarked_on k cpu found) k
unmarked-elsewhere at k cpu None apart = refl
unmarked-elsewhere at k cpu (Some p) apart = get_or-set_other k.processors cpu at (Some (unmarked p)) None apart

put-elsewhere : (at : ℕ) (k : KernelState) (cpu : ℕ) (who : Executor) (s : State) → Elsewhere at (with_context_of k cpu who s) k
put-elsewhere at k cpu executor.Handler s = refl
put-elsewhere at k cpu (executor.Task id) s = refl

called-elsewhere : (at : ℕ) (k : KernelState) (cpu : ℕ) → (at ≡ cpu → ⊥) → Elsewhere at (called k cpu) k
called-elsewhere at k cpu apart =
    calling.called-leaves {P = λ now. Elsewhere at now k} {Q = λ now. Elsewhere at now k} k cpu
    (record {
      quiet = λ now was. was;
      goes_on = λ now who s was. put-elsewhere at now cpu who s ∙ was;
      replies = λ now who s was. put-elsewhere at now cpu who s ∙ was;
      serves = λ now p (c : Call) same there may was.
          serve-leaves (λ new. Elsewhere at new now) now cpu
          (same-law {Known = known_of now.standard p (caller_on now cpu)} (λ new. Elsewhere at new now) now cpu (caller_on now cpu) (record {
            same = λ new so. same-elsewhere at new now so;
            exits = λ known.
                unmarked-elsewhere at (quits_in now (caller_on now cpu)) cpu (processor_at now cpu) apart
                ∙ same-elsewhere at (quits_in now (caller_on now cpu)) now (same-quits now (caller_on now cpu));
            marks = λ p q there runs holding. get_or-set_other now.processors cpu at (Some q) None apart;
            returns = λ p there. get_or-set_other now.processors cpu at (Some (record (letting_go p) { handling = None })) None apart;
          })) (λ new so. same-elsewhere at (prioritized new) new (same-prioritized new) ∙ so) c may ∙ was;
    }) refl

faulted-task-elsewhere : (at : ℕ) (k : KernelState) (cpu : ℕ) (p : Processor) (running : Option ℕ) → (at ≡ cpu → ⊥) →
    Elsewhere at (faulted_task k cpu p running) k
faulted-task-elsewhere at k cpu p None apart = refl
faulted-task-elsewhere at k cpu p (Some id) apart =
    let quiet : KernelState = with_tasks k (noted without_activation k.tasks id) in
    get_or-set_other (quits_in quiet id).processors cpu at (Some (unmarked p)) None apart
    ∙ same-elsewhere at (quits_in quiet id) quiet (same-quits quiet id)

if-elsewhere : (at : ℕ) (k one other : KernelState) (test : Bool) → Elsewhere at one k → Elsewhere at other k →
    Elsewhere at (if test then one else other) k
if-elsewhere at k one other true first second = first
if-elsewhere at k one other false first second = second

faulted-elsewhere : (at : ℕ) (k : KernelState) (cpu : ℕ) (found : Option Processor) → (at ≡ cpu → ⊥) → Elsewhere at (faulted_in k cpu found) k
faulted-elsewhere at k cpu None apart = refl
faulted-elsewhere at k cpu (Some p) apart =
    if-elsewhere at k _ _ (is_some p.handling) (get_or-set_other k.processors cpu at (Some (record (letting_go p) { stopped = true })) None apart)
    (faulted-task-elsewhere at k cpu p p.running apart)

handles-elsewhere : (at : ℕ) (k : KernelState) (cpu line : ℕ) (found : Option Processor) → (at ≡ cpu → ⊥) → Elsewhere at (handles k cpu line found) k
handles-elsewhere at k cpu line None apart = refl
handles-elsewhere at k cpu line (Some p) apart = get_or-set_other k.processors cpu at (Some (record p { handling = Some line })) None apart

-- Instructions.

-- what stays over a step: a property of kernels that contexts and dispatch leave
record Stays (P : KernelState → Type 0) (b : BoardState) (cpu : ℕ) : Type 0 where
  was : P b.kernel
  puts : (k : KernelState) (who : Executor) (s : State) → P k → P (with_context_of k cpu who s)
  dispatches : (k : KernelState) → P k → P (dispatched k)
  calls : (who : Executor) (s : State) → executor_on b.kernel cpu ≡ Some who → deliverable b.kernel cpu ≡ None →
      P (called (with_context_of b.kernel cpu who s) cpu)
  faults : (who : Executor) (s : State) → executor_on b.kernel cpu ≡ Some who → deliverable b.kernel cpu ≡ None →
      P (ended_by_fault (with_context_of b.kernel cpu who s) cpu)
  accepts : (line : ℕ) → deliverable b.kernel cpu ≡ Some line → P (accepted_line b.kernel cpu line)

done-stays : (P : KernelState → Type 0) (b : BoardState) (cpu : ℕ) (who : Executor) (left : Ran) (pc : ℕ) (outcome : Outcome) → Stays P b cpu →
    executor_on b.kernel cpu ≡ Some who → deliverable b.kernel cpu ≡ None →
    P (instruction_done (with_executed b (executed_by b.kernel cpu who pc left)) cpu pc outcome).board.kernel
done-stays P b cpu who left pc Done stays on none = stays.puts b.kernel who left.state stays.was
done-stays P b cpu who left pc Syscall stays on none = stays.dispatches _ (stays.calls who left.state on none)
done-stays P b cpu who left pc (Exception code epc bd) stays on none = stays.dispatches _ (stays.faults who left.state on none)

executes-stays : (P : KernelState → Type 0) (b : BoardState) (cpu : ℕ) (by : Option Executor) → Stays P b cpu → executor_on b.kernel cpu ≡ by →
    deliverable b.kernel cpu ≡ None → P (executes_in b cpu (executed_in b.kernel cpu b.memory b.links by)).board.kernel
executes-stays P b cpu None stays on none = stays.was
executes-stays P b cpu (Some who) stays on none =
    let left : Ran = ran cpu (context_of b.kernel cpu who) b.memory b.links in
    done-stays P b cpu who left (context_of b.kernel cpu who).pc left.outcome stays on none

accepts-stays : (P : KernelState → Type 0) (b : BoardState) (cpu : ℕ) (line : Option ℕ) → Stays P b cpu → deliverable b.kernel cpu ≡ line →
    P (accepts_or_executes b cpu line).board.kernel
accepts-stays P b cpu None stays is = executes-stays P b cpu (executor_on b.kernel cpu) stays refl is
accepts-stays P b cpu (Some line) stays is = stays.dispatches _ (stays.accepts line is)

either-stays : (P : KernelState → Type 0) (test : Bool) (one other : Happened) → P one.board.kernel → P other.board.kernel →
    P (if test then one else other).board.kernel
either-stays P true one other first second = first
either-stays P false one other first second = second

stopped-stays : (P : KernelState → Type 0) (b : BoardState) (cpu : ℕ) (p : Processor) (stopped : Bool) → p.stopped ≡ stopped → P b.kernel →
    (p.stopped ≡ false → Stays P b cpu) →
    P (if stopped then reported b report.Stopped else accepts_or_executes b cpu (deliverable b.kernel cpu)).board.kernel
stopped-stays P b cpu p true is was stays = was
stopped-stays P b cpu p false is was stays = accepts-stays P b cpu (deliverable b.kernel cpu) (stays is) refl

stepped-stays : (P : KernelState → Type 0) (b : BoardState) (cpu : ℕ) (found : Option Processor) → processor_at b.kernel cpu ≡ found →
    P b.kernel → ((p : Processor) → found ≡ Some p → p.stopped ≡ false → Stays P b cpu) → P (stepped_in b cpu found).board.kernel
stepped-stays P b cpu None is was stays = was
stepped-stays P b cpu (Some p) is was stays = stopped-stays P b cpu p p.stopped refl was (stays p refl)

-- The two kinds of agents.

put-executor-on : (k : KernelState) (cpu : ℕ) (who : Executor) (s : State) → executor_on (with_context_of k cpu who s) cpu ≡ executor_on k cpu
put-executor-on k cpu executor.Handler s = refl
put-executor-on k cpu (executor.Task id) s = refl

handles-rests : (id : ℕ) (k : KernelState) (cpu line : ℕ) (found : Option Processor) → RestsIn id k → RestsIn id (handles k cpu line found)
handles-rests id k cpu line None was = was
handles-rests id k cpu line (Some p) was = was

handler-by : (stopped : Bool) (running handling : Option ℕ) → stopped ≡ false → is_some handling ≡ true →
    (if stopped then None else executor_by running handling) ≡ Some executor.Handler
handler-by true running handling on works = absurd (true≢false on)
handler-by false running None on works = absurd (false≢true works)
handler-by false running (Some line) on works = refl

handler-in : (p : Processor) → p.stopped ≡ false → is_some p.handling ≡ true → executor_in (Some p) ≡ Some executor.Handler
handler-in p on works = handler-by p.stopped p.running p.handling on works

none-deliverable : (test : Bool) (found : Option ℕ) → (test ≡ true → ⊥) → (if test then found else None) ≡ None
none-deliverable true found never = absurd (never refl)
none-deliverable false found never = refl

rests-so : (k : KernelState) (id : ℕ) → is_steady k (agents.Task id) ≡ true → RestsIn id k
rests-so k id is = not-true (is_waiting_task (task_at k.tasks id)) is

task-stays : (b : BoardState) (cpu id : ℕ) → b.kernel.off ≡ false → (Executes b (Step cpu) (agents.Task id) → ⊥) → RestsIn id b.kernel →
    Stays (RestsIn id) b cpu
task-stays b cpu id off apart was = record {
  was = was;
  puts = λ k who s was. put-rests-in id k cpu who s was;
  dispatches = λ k was. was;
  calls = λ who s on none. called-rests id (with_context_of b.kernel cpu who s) cpu
      (λ is. apart (record {
        cpu = cpu;
        steps = refl;
        executes = ap (option_map (agent_by cpu)) (sym (put-executor-on b.kernel cpu who s) ∙ is);
        uninterrupted = none;
      })) (put-rests-in id b.kernel cpu who s was);
  faults = λ who s on none.
      let now : KernelState = with_context_of b.kernel cpu who s in
      prioritized-rests id (faulted_in now cpu (processor_at now cpu))
      (faulted-in-rests id now cpu (processor_at now cpu) (put-rests-in id b.kernel cpu who s was));
  accepts = λ line is. handles-rests id b.kernel cpu line (processor_at b.kernel cpu) was;
}

other-stays : (b : BoardState) (cpu at : ℕ) → (at ≡ cpu → ⊥) → Works at b.kernel → Stays (Works at) b cpu
other-stays b cpu at apart was = record {
  was = was;
  puts = λ k who s was. ap is_handling (put-elsewhere at k cpu who s) ∙ was;
  dispatches = λ k was. dispatched-works k.tasks 0 at k.processors ∙ was;
  calls = λ who s on none.
      ap is_handling (called-elsewhere at (with_context_of b.kernel cpu who s) cpu apart ∙ put-elsewhere at b.kernel cpu who s) ∙ was;
  faults = λ who s on none.
      let now : KernelState = with_context_of b.kernel cpu who s in
      let over : KernelState = faulted_in now cpu (processor_at now cpu) in
      ap is_handling (same-elsewhere at (prioritized over) over (same-prioritized over)
      ∙ faulted-elsewhere at now cpu (processor_at now cpu) apart ∙ put-elsewhere at b.kernel cpu who s) ∙ was;
  accepts = λ line is. ap is_handling (handles-elsewhere at b.kernel cpu line (processor_at b.kernel cpu) apart) ∙ was;
}

handler-executes : (b : BoardState) (cpu at : ℕ) (p : Processor) → processor_at b.kernel cpu ≡ Some p → p.stopped ≡ false → at ≡ cpu →
    Works at b.kernel → (Executes b (Step cpu) (agents.Handler at) → ⊥) → ⊥
handler-executes b cpu at p there on same works apart =
    let handling : is_some p.handling ≡ true = sym (ap is_handling (ap (processor_at b.kernel) same ∙ there)) ∙ works in
    apart (record {
      cpu = cpu;
      steps = refl;
      executes = ap (option_map (agent_by cpu)) (ap executor_in there ∙ handler-in p on handling) ∙ ap (λ n. Some (agents.Handler n)) (sym same);
      uninterrupted = none-deliverable (accepts (processor_at b.kernel cpu)) (pending_from cpu 0 b.kernel.lines)
          (λ is. handling-accepts (processor_at b.kernel cpu) (ap is_handling there ∙ handling) is);
    })

handler-stays : (b : BoardState) (cpu at : ℕ) (p : Processor) → processor_at b.kernel cpu ≡ Some p → p.stopped ≡ false →
    (Executes b (Step cpu) (agents.Handler at) → ⊥) → Works at b.kernel → Stays (Works at) b cpu
handler-stays b cpu at p there on apart works = elim (cases_eq at cpu) [
  | inl same ↦ absurd (handler-executes b cpu at p there on same works apart)
  | inr other ↦ other-stays b cpu at other works
]

on-steady : (b : BoardState) (event : Event) (who : Agent) → b.kernel.off ≡ false → IsApart b event who →
    is_steady (happens_on b event).board.kernel who ≡ true
on-steady b (Step cpu) (agents.Task id) off apart =
    ap not (stepped-stays (RestsIn id) b cpu (processor_at b.kernel cpu) refl (rests-so b.kernel id apart.steady)
    (λ p there on. task-stays b cpu id off apart.elsewhere (rests-so b.kernel id apart.steady)))
on-steady b (Step cpu) (agents.Handler at) off apart =
    stepped-stays (Works at) b cpu (processor_at b.kernel cpu) refl apart.steady
    (λ p there on. handler-stays b cpu at p there on apart.elsewhere apart.steady)
on-steady b Tick (agents.Task id) off apart =
    let now : KernelState = record b.kernel { time = advanced b.kernel.time } in
    let ids : List ℕ = due_from (advanced b.kernel.time) 0 in
    ap not (either-stays (RestsIn id) (nat_lt b.kernel.time.count last_count) _ _
    (rung-keeps (RestsIn id) (prioritized (all_timed_out now ids)) (λ x timers lines rests. rests)
    (prioritized-rests id (all_timed_out now ids) (all-timed-rests id now ids (rests-so b.kernel id apart.steady))))
    (rests-so b.kernel id apart.steady))
on-steady b Tick (agents.Handler at) off apart =
    let now : KernelState = record b.kernel { time = advanced b.kernel.time } in
    let ids : List ℕ = due_from (advanced b.kernel.time) 0 in
    let over : KernelState = all_timed_out now ids in
    let settled : KernelState = prioritized over in
    let new : KernelState = rung settled in
    let same-rung : Same new settled =
    rung-keeps (λ x. Same x settled) settled
    (λ x timers lines same. record { processors = same.processors; spin_locks = same.spin_locks; standard = same.standard })
    (record { processors = refl; spin_locks = refl; standard = refl }) in
    either-stays (Works at) (nat_lt b.kernel.time.count last_count) _ _
    (dispatched-works new.tasks 0 at new.processors
    ∙ ap is_handling
    (same-elsewhere at new settled same-rung ∙ same-elsewhere at settled over (same-prioritized over) ∙ same-elsewhere at over now (same-timed now ids))
    ∙ apart.steady) apart.steady
on-steady b (Raise line) (agents.Task id) off apart =
    ap not (either-stays (RestsIn id) (can_be_raised b.kernel line) _ _ (rests-so b.kernel id apart.steady) (rests-so b.kernel id apart.steady))
on-steady b (Raise line) (agents.Handler at) off apart =
    either-stays (Works at) (can_be_raised b.kernel line) _ _ apart.steady apart.steady

off-steady : (b : BoardState) (event : Event) (who : Agent) (off : Bool) → b.kernel.off ≡ off → IsApart b event who →
    is_steady (if off then reported b report.Off else happens_on b event).board.kernel who ≡ true
off-steady b event who true is apart = apart.steady
off-steady b event who false is apart = on-steady b event who is apart

pub steady-on : (b : BoardState) (event : Event) (who : Agent) → IsApart b event who → is_steady (happens b event).board.kernel who ≡ true
unfolding happens
steady-on b event who apart = off-steady b event who b.kernel.off refl apart
