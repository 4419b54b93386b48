-- No event adds a task or takes one away.
use Rattle.std.proofs.Common.{◌≡◌, ℕ, List, [], ◌∷◌, map, refl, sym, ap, ◌∙◌}
use Rattle.std.specs.Prelude.{Bool, true, false, if◌then◌else◌, slice_index_or, slice_set, Option, None, Some, is_some, filter}
use Rattle.std.specs.Option.{option_map}
use Rattle.std.specs.List.{range_with_len}
use Rattle.brd_exec.specs.State.{State}
use Rattle.brd_tasks.specs.declared.status.Status.{Status}
use Rattle.brd_tasks.specs.declared.status.WaitReason.{WaitReason}
use Rattle.brd_tasks.specs.declared.status.WaitReason.TheVariants as reason
use Rattle.brd_tasks.specs.declared.task.Task.{Task}
use Rattle.brd_tasks.specs.declared.task.Request.{Request}
use Rattle.brd_tasks.specs.Status.{waiting_of, is_dormant, blocked, suspended, resumed, released}
use Rattle.brd_tasks.specs.Tasks.{TaskTable, task_at, are_there, shown, where_there, activated, ended_by, ended, put_into, through, released_to, released_with, changed, on_processor, noted, with_wakeup, without_activation}
use Rattle.brd_tasks.proofs.ThereLemmas.{there_set, there-is}
use Rattle.brd_time.specs.Time.{Time, due_of, with_due, advanced, due_from}
use Rattle.brd_objects.specs.declared.semaphore.Semaphore.{Semaphore}
use Rattle.brd_objects.specs.declared.flag.Flag.{Flag}
use Rattle.brd_objects.specs.declared.sent.Sent.{Sent}
use Rattle.brd_objects.specs.declared.sent.Sent.TheVariants.{Handed, Stored, Full}
use Rattle.brd_objects.specs.declared.sent.Received.{Received}
use Rattle.brd_objects.specs.Table.{object_at, object_changed}
use Rattle.brd_objects.specs.Semaphores.{returned, first_waiter}
use Rattle.brd_objects.specs.Flags.{joined, all_released, with_all_released}
use Rattle.brd_objects.specs.DataQueues.{DataQueueState, sent, outcome, forced, forced_outcome, received}
use Rattle.brd_objects.specs.Mutexes.{given, next_owner_in}
use Rattle.brd_objects.specs.Pools.{PoolState, given_back, next_holder}
use Rattle.brd_objects.specs.Mailboxes.{MailboxState, message_sent, message_outcome}
use Rattle.brd_kernel.proofs.RingLemmas.{rung-keeps}
use Rattle.brd_kernel.specs.declared.processor.Processor.{Processor}
use Rattle.brd_kernel.specs.declared.processor.Executor.{Executor}
use Rattle.brd_kernel.specs.declared.processor.Executor.TheVariants as executor
use Rattle.brd_kernel.specs.Answer.{e_ok}
use Rattle.brd_kernel.specs.Kernel.{KernelState, with_tasks, with_processor, processor_at, letting_go, with_context_of, handles}
use Rattle.brd_kernel.specs.Waits.{can_wait, with_wait, released_in, reason_of, unlisted, broken_off, ended_in, answer_by, timed_out, all_timed_out, faulted_task, faulted_in, shown_until, with_released, given_in, all_given_in, quits_in, prioritized}
use Rattle.brd_kernel.specs.Services.{with_all_released_in, with_satisfied_of, handed_over, released_with_second, message_of, unmarked_on, caller_on}
use Rattle.brd_kernel.proofs.PricedLemmas.{priced, priced_in}
use Rattle.brd_kernel.proofs.SettledLemmas.{Settles, all-given, all-prioritized}
use Rattle.brd_kernel.proofs.WaitLemmas.{unlisted-only, reordered-only}
use Rattle.brd_kernel.proofs.WalkLemmas.{Anything, Law, lacked, awaiting, serve-always}
use Rattle.brd_board.specs.declared.event.Event.{Event}
use Rattle.brd_board.specs.Board.{BoardState, happens, task_of}
use Rattle.brd_board.proofs.EventLemmas.{Kept, happens-kept}
use Rattle.brd_board.proofs.CallingLemmas.{Calls, called-leaves}
use Rattle.brd_names.specs.Standings.{tasks_of}

-- ---- what is made of a table of tasks

abbrev KeepsThem : TaskTable → TaskTable → Type 0
KeepsThem old new = are_there new ≡ are_there old

row-keeps : (t : TaskTable) (id : ℕ) (task old : Task) → task_at t id ≡ Some old →
    map is_some (slice_set t.rows id (Some task)) ≡ map is_some t.rows
row-keeps t id task old there = there_set t.rows id task (ap is_some there)

where-keeps : (t : TaskTable) (row : Option Task) (change : Task → TaskTable) →
    ((task : Task) → row ≡ Some task → KeepsThem t (change task)) → KeepsThem t (where_there t row change)
where-keeps t None change keeps = refl
where-keeps t (Some task) change keeps = keeps task refl

either-keeps : (t : TaskTable) (test : Bool) (one other : TaskTable) → KeepsThem t one → KeepsThem t other →
    KeepsThem t (if test then one else other)
either-keeps t true one other first second = first
either-keeps t false one other first second = second

activated-keeps : (t : TaskTable) (id : ℕ) (request : Request) → KeepsThem t (activated t id request)
activated-keeps t id request =
    where-keeps t (task_at t id) _
    (λ task there. either-keeps t (is_dormant task.status) _ _ (row-keeps t id _ task there) (row-keeps t id _ task there))

ended-by-keeps : (t : TaskTable) (id : ℕ) (task : Task) (request : Option Request) → task_at t id ≡ Some task →
    KeepsThem t (ended_by t id task request)
ended-by-keeps t id task None there = row-keeps t id _ task there
ended-by-keeps t id task (Some request) there = row-keeps t id _ task there

ended-keeps : (t : TaskTable) (id : ℕ) → KeepsThem t (ended t id)
ended-keeps t id = where-keeps t (task_at t id) _ (λ task there. ended-by-keeps t id task task.activation there)

put-keeps : (t : TaskTable) (id : ℕ) (task : Task) (status : Option Status) → task_at t id ≡ Some task →
    KeepsThem t (put_into t id task status)
put-keeps t id task None there = refl
put-keeps t id task (Some status) there = row-keeps t id _ task there

through-keeps : (transition : Status → Option Status) (t : TaskTable) (id : ℕ) → KeepsThem t (through transition t id)
through-keeps transition t id =
    where-keeps t (task_at t id) _ (λ task there. put-keeps t id task (transition task.status) there)

released-to-keeps : (t : TaskTable) (id answer : ℕ) (second : Option ℕ) (task : Task) (status : Option Status) →
    task_at t id ≡ Some task → KeepsThem t (released_to t id answer second task status)
released-to-keeps t id answer second task None there = refl
released-to-keeps t id answer second task (Some status) there = row-keeps t id _ task there

released-keeps : (t : TaskTable) (id answer : ℕ) (second : Option ℕ) → KeepsThem t (released_with t id answer second)
released-keeps t id answer second =
    where-keeps t (task_at t id) _
    (λ task there. released-to-keeps t id answer second task (released task.status) there)

changed-keeps : (change : Task → Task) (t : TaskTable) (id : ℕ) → KeepsThem t (changed change t id)
changed-keeps change t id = where-keeps t (task_at t id) _ (λ task there. row-keeps t id _ task there)

noted-keeps : (note : Task → Task) (t : TaskTable) (id : ℕ) → KeepsThem t (noted note t id)
noted-keeps note t id = where-keeps t (task_at t id) _ (λ task there. row-keeps t id _ task there)

-- ---- what is made of a kernel

-- the tasks of these numbers are there
abbrev Has : List Bool → KernelState → Type 0
Has them k = are_there k.tasks ≡ them

released-has : (them : List Bool) (k : KernelState) (id answer : ℕ) (second : Option ℕ) → Has them k →
    Has them (released_in k id answer second)
released-has them k id answer second has = released-keeps k.tasks id answer second ∙ has

unlisted-has : (them : List Bool) (k : KernelState) (id : ℕ) → Has them k → Has them (unlisted k id)
unlisted-has them k id has = ap are_there (unlisted-only k id (reason_of k id)).tasks ∙ has

broken-has : (them : List Bool) (k : KernelState) (id answer : ℕ) → Has them k → Has them (broken_off k id answer)
broken-has them k id answer has = released-has them (unlisted k id) id answer None (unlisted-has them k id has)

ended-has : (them : List Bool) (k : KernelState) (id : ℕ) → Has them k → Has them (ended_in k id)
ended-has them k id has = ended-keeps k.tasks id ∙ has

timed-has : (them : List Bool) (k : KernelState) (ids : List ℕ) → Has them k → Has them (all_timed_out k ids)
timed-has them k [] has = has
timed-has them k (id ∷ ids) has =
    timed-has them (timed_out k id) ids (broken-has them k id (answer_by (reason_of k id)) has)

begun-has : (them : List Bool) (can : Bool) (k entered : KernelState) (t : TaskTable) (time : Time) → KeepsThem k.tasks t → Has them k →
    Has them (if can then record entered { tasks = t; time = time } else k)
begun-has them true k entered t time keeps has = keeps ∙ has
begun-has them false k entered t time keeps has = has

wait-has : (them : List Bool) (k : KernelState) (id : ℕ) (why : WaitReason) (due : Option ℕ) (entered : KernelState) → Has them k →
    Has them (with_wait k id why due entered)
wait-has them k id why due entered has =
    begun-has them (can_wait (task_at k.tasks id)) k entered (through (blocked why) k.tasks id) (with_due k.time id due)
    (through-keeps (blocked why) k.tasks id) has

released-if-has : (them : List Bool) (k : KernelState) (first : Option ℕ) → Has them k → Has them (with_released k first)
released-if-has them k None has = has
released-if-has them k (Some id) has = released-has them k id e_ok None has

given-has : (them : List Bool) (k : KernelState) (at : ℕ) → Has them k → Has them (given_in k at)
given-has them k at has =
    released-if-has them (record k { mutexes = object_changed given k.mutexes at }) (next_owner_in (object_at k.mutexes at)) has

priced-has : (them : List Bool) (k : KernelState) (base : Task → ℕ) (id priority : ℕ) (why : Option WaitReason) → Has them k →
    Has them (priced_in k base id priority why)
priced-has them k base id priority why has =
    let new : KernelState = with_tasks k (changed (priced base priority) k.tasks id) in
    ap are_there (reordered-only new id priority why).tasks ∙ changed-keeps (priced base priority) k.tasks id ∙ has

has-settles : (them : List Bool) → Settles (Has them)
has-settles them = record {
  gives = λ k at m there has. given-has them k at has;
  prices = λ k base id priority (task : Task) there has. priced-has them k base id priority (waiting_of task.status) has;
}

quits-has : (them : List Bool) (k : KernelState) (id : ℕ) → Has them k → Has them (quits_in k id)
quits-has them k id has = ended-has them (all_given_in k id) id (all-given (Has them) k id (has-settles them) has)

prioritized-has : (them : List Bool) (k : KernelState) → Has them k → Has them (prioritized k)
prioritized-has them k has = all-prioritized (Has them) k (has-settles them) has

all-released-has : (them : List Bool) (k : KernelState) (ids : List ℕ) (second : ℕ) → Has them k →
    Has them (with_all_released_in k ids second)
all-released-has them k [] second has = has
all-released-has them k (id ∷ ids) second has =
    all-released-has them (released_in k id e_ok (Some second)) ids second (released-has them k id e_ok (Some second) has)

satisfied-has : (them : List Bool) (k : KernelState) (id : ℕ) (found : Option Flag) → Has them k →
    Has them (with_satisfied_of k id found)
satisfied-has them k id None has = has
satisfied-has them k id (Some f) has =
    all-released-has them (record k { flags = object_changed with_all_released k.flags id }) (all_released f) f.pattern has

handed-has : (them : List Bool) (k : KernelState) (datum : ℕ) (what : Sent) → Has them k → Has them (handed_over k datum what)
handed-has them k datum (Handed id) has = released-has them k id e_ok (Some datum) has
handed-has them k datum Stored has = has
handed-has them k datum Full has = has

second-has : (them : List Bool) (k : KernelState) (second : ℕ) (first : Option ℕ) → Has them k → Has them (released_with_second k second first)
second-has them k second None has = has
second-has them k second (Some id) has = released-has them k id e_ok (Some second) has

unmarked-has : (them : List Bool) (k : KernelState) (cpu : ℕ) (p : Option Processor) → Has them k → Has them (unmarked_on k cpu p)
unmarked-has them k cpu None has = has
unmarked-has them k cpu (Some p) has = has

handles-has : (them : List Bool) (k : KernelState) (cpu line : ℕ) (p : Option Processor) → Has them k → Has them (handles k cpu line p)
handles-has them k cpu line None has = has
handles-has them k cpu line (Some p) has = has

faulted-task-has : (them : List Bool) (k : KernelState) (cpu : ℕ) (p : Processor) (running : Option ℕ) → Has them k →
    Has them (faulted_task k cpu p running)
faulted-task-has them k cpu p None has = has
faulted-task-has them k cpu p (Some id) has =
    quits-has them (with_tasks k (noted without_activation k.tasks id)) id (noted-keeps without_activation k.tasks id ∙ has)

either-has : (them : List Bool) (test : Bool) (one other : KernelState) → Has them one → Has them other →
    Has them (if test then one else other)
either-has them true one other first second = first
either-has them false one other first second = second

faulted-has : (them : List Bool) (k : KernelState) (cpu : ℕ) (p : Option Processor) → Has them k → Has them (faulted_in k cpu p)
faulted-has them k cpu None has = has
faulted-has them k cpu (Some p) has =
    either-has them (is_some p.handling) (with_processor k cpu (record (letting_go p) { stopped = true })) (faulted_task k cpu p p.running) has
    (faulted-task-has them k cpu p p.running has)

context-has : (them : List Bool) (k : KernelState) (cpu : ℕ) (who : Executor) (s : State) → Has them k → Has them (with_context_of k cpu who s)
context-has them k cpu executor.Handler s has = has
context-has them k cpu (executor.Task id) s has = has

call-law : (them : List Bool) (k : KernelState) (cpu : ℕ) → Has them k → Law Anything (Has them) k cpu (caller_on k cpu)
call-law them k cpu has =
    let caller : ℕ = caller_on k cpu in
    record {
      stays = has;
      activates = λ id request of. activated-keeps k.tasks id request ∙ has;
      cancels = λ id. noted-keeps without_activation k.tasks id ∙ has;
      wakes = λ id task there awake. noted-keeps (with_wakeup true) k.tasks id ∙ has;
      unwakes = λ id. noted-keeps (with_wakeup false) k.tasks id ∙ has;
      exits = λ may. unmarked-has them (quits_in k caller) cpu (processor_at k cpu) (quits-has them k caller has);
      ends = λ id task there held other. quits-has them k id has;
      prioritizes = λ base id priority (task : Task) there. priced-has them k base id priority (waiting_of task.status) has;
      migrates = λ id to task there held absent may. changed-keeps (on_processor to) k.tasks id ∙ has;
      suspends = λ id task there held may. through-keeps suspended k.tasks id ∙ has;
      resumes = λ id. through-keeps resumed k.tasks id ∙ has;
      rouses = λ id task there asleep. released-has them k id e_ok None has;
      breaks = λ id answer. broken-has them k id answer has;
      sleeps = λ due task there none may. wait-has them k caller reason.Sleep due k has;
      delays = λ due may. wait-has them k caller reason.Delay (Some due) k has;
      rotates = λ on priority q there. has;
      marks = λ q new there same how. has;
      returns = λ q there. has;
      signals = λ id (s : Semaphore) there.
          released-if-has them (record k { semaphores = object_changed returned k.semaphores id }) (first_waiter s) has;
      takes = λ id s there. has;
      sets = λ id bits f there. let set : KernelState = record k { flags = object_changed (joined bits) k.flags id } in
          satisfied-has them set id (object_at set.flags id) has;
      clears = λ id bits f there. has;
      gets = λ id want f there. has;
      sends = λ id datum (q : DataQueueState) there.
          handed-has them (record k { queues = object_changed (sent datum) k.queues id }) datum (outcome q) has;
      forces = λ id datum (q : DataQueueState) there.
          handed-has them (record k { queues = object_changed (forced datum) k.queues id }) datum (forced_outcome q) has;
      receives = λ id q (it : Received) there is.
          released-if-has them (record k { queues = object_changed received k.queues id }) it.sender has;
      locks = λ id m there. has;
      gives = λ id m there. given-has them k id has;
      hands-out = λ id p block there is. has;
      gives-back = λ id block (p : PoolState) there.
          second-has them (record k { pools = object_changed (given_back block) k.pools id }) block (next_holder block p) has;
      posts = λ id address priority (m : MailboxState) there.
          handed-has them (record k { mailboxes = object_changed (message_sent (message_of address priority)) k.mailboxes id }) address
          (message_outcome m) has;
      fetches = λ id m address there is. has;
      awaits = λ id due lacks may. wait-has them k caller (reason.On (lacked lacks) id) due (awaiting k caller id lacks) has;
      writes = λ word. has;
      ends_all = has;
      sets_clock = λ clock. has;
      sets_timers = λ timers. has;
    }

calls-keep : (them : List Bool) (k : KernelState) (cpu : ℕ) → Calls (Has them) (Has them) k cpu
calls-keep them k cpu = record {
  quiet = λ now has. has;
  goes_on = λ now who s has. context-has them now cpu who s has;
  replies = λ now who s has. context-has them now cpu who s has;
  serves = λ now p c same there may has. serve-always (Has them) now cpu (call-law them now cpu has) (prioritized-has them) c;
}

them-kept : (them : List Bool) → Kept (Has them) (Has them)
them-kept them = record {
  context = context-has them;
  call = λ k cpu has. called-leaves k cpu (calls-keep them k cpu) has;
  fault = λ k cpu p there on has. prioritized-has them (faulted_in k cpu (processor_at k cpu)) (faulted-has them k cpu (processor_at k cpu) has);
  accept = λ k cpu line has. handles-has them k cpu line (processor_at k cpu) has;
  tick = λ k has.
      let now : KernelState = record k { time = advanced k.time } in
      let ids : List ℕ = due_from (advanced k.time) 0 in
      rung-keeps (Has them) (prioritized (all_timed_out now ids)) (λ x timers lines was. was)
      (prioritized-has them (all_timed_out now ids) (timed-has them now ids has));
  raise = λ k line has. has;
  dispatch = λ k has. has;
}

-- ---- events

seen-there : (due : Option ℕ) (s : State) (row : Option Task) →
    is_some (option_map (shown_until due) (option_map (shown s) row)) ≡ is_some row
seen-there due s None = refl
seen-there due s (Some task) = refl

task-there : (b : BoardState) (id : ℕ) → is_some (task_of b id) ≡ slice_index_or (are_there b.kernel.tasks) id false
task-there b id =
    seen-there (due_of b.kernel.time id) _ (task_at b.kernel.tasks id) ∙ sym (there-is b.kernel.tasks id)

pub still-there : (b : BoardState) (event : Event) (id : ℕ) → is_some (task_of (happens b event).board id) ≡ is_some (task_of b id)
still-there b event id =
    task-there (happens b event).board id
    ∙ ap (λ them. slice_index_or them id false) (happens-kept (them-kept (are_there b.kernel.tasks)) b event refl)
    ∙ sym (task-there b id)

chosen : (p q : ℕ → Bool) (x : ℕ) (one other : List ℕ) → p x ≡ q x → one ≡ other →
    (if p x then x ∷ one else one) ≡ (if q x then x ∷ other else other)
chosen p q x one other same rest =
    ap (λ test. if test then x ∷ one else one) same ∙ ap (λ xs. if q x then x ∷ xs else xs) rest

pub same-filter : (p q : ℕ → Bool) (xs : List ℕ) → ((x : ℕ) → p x ≡ q x) → filter p xs ≡ filter q xs
same-filter p q [] same = refl
same-filter p q (x ∷ xs) same = chosen p q x (filter p xs) (filter q xs) (same x) (same-filter p q xs same)

pub same-tasks : (b new : BoardState) → ((id : ℕ) → is_some (task_of new id) ≡ is_some (task_of b id)) → tasks_of new ≡ tasks_of b
unfolding tasks_of
same-tasks b new same = same-filter (λ id. is_some (task_of new id)) (λ id. is_some (task_of b id)) (range_with_len 1 255) same
