-- No event changes how many contexts there are.
use Rattle.std.proofs.Common.{◌≡◌, ℕ, Bool, true, false, List, [], ◌∷◌, length, length-set, refl, ap, ◌∙◌}
use Rattle.std.specs.Prelude.{if◌then◌else◌, nat_lt, Option, None, Some, is_some}
use Rattle.brd_exec.specs.State.{State}
use Rattle.brd_exec.specs.Step.{Ran, ran}
use Rattle.brd_exec.specs.declared.outcome.Outcome.{Outcome}
use Rattle.brd_exec.specs.declared.outcome.Outcome.TheVariants.{Done, Syscall, Exception}
use Rattle.brd_tasks.specs.declared.status.Status.{Status}
use Rattle.brd_tasks.specs.declared.status.WaitReason.{WaitReason}
use Rattle.brd_tasks.specs.declared.status.WaitReason.TheVariants as reason
use Rattle.brd_tasks.specs.declared.status.WaitKind.{WaitKind}
use Rattle.brd_tasks.specs.declared.status.WaitKind.TheVariants as kind
use Rattle.brd_tasks.specs.declared.task.Task.{Task}
use Rattle.brd_tasks.specs.declared.task.Request.{Request}
use Rattle.brd_tasks.specs.Status.{waiting_of, is_dormant, released, blocked, suspended, resumed}
use Rattle.brd_tasks.specs.Tasks.{TaskTable, task_at, opening_of, processor_of, where_there, starts, activated, ended_by, ended, put_into, through, answered, context_at, released_to, released_with, changed, noted, on_processor, with_wakeup, without_activation}
use Rattle.brd_time.specs.Time.{Time, last_count, advanced, due_from}
use Rattle.brd_objects.specs.declared.flag.Flag.{Flag}
use Rattle.brd_objects.specs.declared.semaphore.Semaphore.{Semaphore}
use Rattle.brd_objects.specs.declared.sent.Sent.{Sent}
use Rattle.brd_objects.specs.declared.sent.Sent.TheVariants.{Handed, Stored, Full}
use Rattle.brd_objects.specs.declared.sent.Received.{Received}
use Rattle.brd_objects.specs.Table.{object_at, object_changed}
use Rattle.brd_objects.specs.Semaphores.{returned, first_waiter}
use Rattle.brd_objects.specs.Flags.{joined, all_released, with_all_released}
use Rattle.brd_objects.specs.DataQueues.{DataQueueState, sent, outcome, forced, forced_outcome, received}
use Rattle.brd_objects.specs.Mutexes.{given, next_owner_in}
use Rattle.brd_objects.specs.Pools.{PoolState, given_back, next_holder}
use Rattle.brd_objects.specs.Mailboxes.{MailboxState, message_sent, message_outcome}
use Rattle.brd_kernel.proofs.RingLemmas.{rung-keeps}
use Rattle.brd_kernel.specs.declared.processor.Processor.{Processor}
use Rattle.brd_kernel.specs.declared.processor.Executor.{Executor}
use Rattle.brd_kernel.specs.declared.processor.Executor.TheVariants as executor
use Rattle.brd_kernel.specs.declared.call.Call.{Call}
use Rattle.brd_kernel.specs.Answer.{e_ok}
use Rattle.brd_kernel.specs.Kernel.{KernelState, processor_at, with_tasks, executor_on, context_of, with_context_of, deliverable, handles, entry_of, line_at, can_be_raised}
use Rattle.brd_kernel.specs.Waits.{can_wait, with_wait, released_in, reason_of, unlisted, broken_off, ended_in, answer_by, timed_out, all_timed_out, ticked_on, faulted_task, faulted_in, Change, changed_of, changed_for, leaving, moving, with_released, given_in, all_given_in, quits_in, prioritized}
use Rattle.brd_kernel.specs.Services.{unmarked_on, with_all_released_in, with_satisfied_of, handed_over, released_with_second, message_of, caller_on}
use Rattle.brd_kernel.proofs.PricedLemmas.{priced, priced_in}
use Rattle.brd_kernel.proofs.SettledLemmas.{Settles, all-given, all-prioritized}
use Rattle.brd_kernel.proofs.WalkLemmas.{Lacks, No-one, lacked, awaiting, Fact, Law, serve-leaves}
use Rattle.brd_kernel.proofs.who_runs.RunningCallLemmas.{known_of}
use Rattle.brd_sysgate.specs.Gate.{called}
use Rattle.brd_board.specs.Executing.{executed_by, executed_in}
use Rattle.brd_board.specs.declared.event.Event.{Event}
use Rattle.brd_board.specs.declared.event.Event.TheVariants.{Step, Tick, Raise}
use Rattle.brd_board.specs.Board.{BoardState, Happened, with_executed, instruction_done, executes_in, accepts_or_executes, stepped_in, happens_on, happens}
use Rattle.brd_board.proofs.CallingLemmas as calling

-- as many contexts of tasks as before
abbrev Room : TaskTable → TaskTable → Type 0
Room new old = length new.contexts ≡ length old.contexts

-- and of handlers
pub record Rooms (new old : KernelState) : Type 0 where
  pub tasks : length new.tasks.contexts ≡ length old.tasks.contexts
  pub handlers : length new.handler_contexts ≡ length old.handler_contexts

pub rooms-same : (k : KernelState) → Rooms k k
rooms-same k = record { tasks = refl; handlers = refl }

pub rooms-then : {a b c : KernelState} → Rooms a b → Rooms b c → Rooms a c
rooms-then first second = record { tasks = first.tasks ∙ second.tasks; handlers = first.handlers ∙ second.handlers }

-- Tables.

where-room : (t : TaskTable) (row : Option Task) (change : Task → TaskTable) → ((task : Task) → Room (change task) t) →
    Room (where_there t row change) t
where-room t None change same = refl
where-room t (Some task) change same = same task

put-room : (t : TaskTable) (id : ℕ) (task : Task) (to : Option Status) → Room (put_into t id task to) t
put-room t id task None = refl
put-room t id task (Some to) = refl

through-room : (transition : Status → Option Status) (t : TaskTable) (id : ℕ) → Room (through transition t id) t
through-room transition t id = where-room t (task_at t id) _ (λ (task : Task). put-room t id task (transition task.status))

changed-room : (change : Task → Task) (t : TaskTable) (id : ℕ) → Room (changed change t id) t
changed-room change t id = where-room t (task_at t id) _ (λ task. refl)

noted-room : (note : Task → Task) (t : TaskTable) (id : ℕ) → Room (noted note t id) t
noted-room note t id = where-room t (task_at t id) _ (λ task. refl)

starts-room : (t : TaskTable) (id cpu : ℕ) (task : Task) → Room (starts t id cpu task) t
starts-room t id cpu task = length-set t.contexts id (opening_of task.setup)

if-room : (t one other : TaskTable) (test : Bool) → Room one t → Room other t → Room (if test then one else other) t
if-room t one other true first second = first
if-room t one other false first second = second

activated-room : (t : TaskTable) (id : ℕ) (request : Request) → Room (activated t id request) t
activated-room t id request =
    where-room t (task_at t id) _
    (λ (task : Task). if-room t _ _ (is_dormant task.status) (starts-room t id (processor_of request task) task) refl)

ended-by-room : (t : TaskTable) (id : ℕ) (task : Task) (queued : Option Request) → Room (ended_by t id task queued) t
ended-by-room t id task None = refl
ended-by-room t id task (Some request) = starts-room t id (processor_of request task) task

ended-room : (t : TaskTable) (id : ℕ) → Room (ended t id) t
ended-room t id = where-room t (task_at t id) _ (λ (task : Task). ended-by-room t id task task.activation)

released-to-room : (t : TaskTable) (id answer : ℕ) (second : Option ℕ) (task : Task) (to : Option Status) →
    Room (released_to t id answer second task to) t
released-to-room t id answer second task None = refl
released-to-room t id answer second task (Some to) = length-set t.contexts id (answered (context_at t id) answer second)

released-room : (t : TaskTable) (id answer : ℕ) (second : Option ℕ) → Room (released_with t id answer second) t
released-room t id answer second =
    where-room t (task_at t id) _ (λ (task : Task). released-to-room t id answer second task (released task.status))

-- Kernels.

in-tasks : (k : KernelState) (t : TaskTable) → Room t k.tasks → Rooms (with_tasks k t) k
in-tasks k t same = record { tasks = same; handlers = refl }

kind-rooms : (change : Change) (k : KernelState) (what : WaitKind) → Rooms (changed_of change k what) k
kind-rooms change k kind.Semaphore = record { tasks = refl; handlers = refl }
kind-rooms change k _ = record { tasks = refl; handlers = refl }

of-rooms : (change : Change) (k : KernelState) (why : Option WaitReason) → Rooms (changed_for change k why) k
of-rooms change k None = rooms-same k
of-rooms change k (Some reason.Sleep) = rooms-same k
of-rooms change k (Some reason.Delay) = rooms-same k
of-rooms change k (Some (reason.On what object)) = kind-rooms change k what

released-rooms : (k : KernelState) (id answer : ℕ) (second : Option ℕ) → Rooms (released_in k id answer second) k
released-rooms k id answer second = record { tasks = released-room k.tasks id answer second; handlers = refl }

broken-rooms : (k : KernelState) (id answer : ℕ) → Rooms (broken_off k id answer) k
broken-rooms k id answer = rooms-then (released-rooms (unlisted k id) id answer None) (of-rooms (leaving id) k (reason_of k id))

ended-rooms : (k : KernelState) (id : ℕ) → Rooms (ended_in k id) k
ended-rooms k id = record { tasks = ended-room k.tasks id; handlers = (of-rooms (leaving id) k (reason_of k id)).handlers }

all-timed-rooms : (k : KernelState) (ids : List ℕ) → Rooms (all_timed_out k ids) k
all-timed-rooms k [] = rooms-same k
all-timed-rooms k (id ∷ ids) = rooms-then (all-timed-rooms (timed_out k id) ids) (broken-rooms k id (answer_by (reason_of k id)))

unmarked-rooms : (k : KernelState) (cpu : ℕ) (found : Option Processor) → Rooms (unmarked_on k cpu found) k
unmarked-rooms k cpu None = rooms-same k
unmarked-rooms k cpu (Some p) = record { tasks = refl; handlers = refl }

if-rooms : (k one other : KernelState) (test : Bool) → Rooms one k → Rooms other k → Rooms (if test then one else other) k
if-rooms k one other true first second = first
if-rooms k one other false first second = second

-- Mutexes and priorities.

released-if-rooms : (k : KernelState) (id : Option ℕ) → Rooms (with_released k id) k
released-if-rooms k None = rooms-same k
released-if-rooms k (Some id) = released-rooms k id e_ok None

given-rooms : (k : KernelState) (at : ℕ) → Rooms (given_in k at) k
given-rooms k at =
    let it = released-if-rooms (record k { mutexes = object_changed given k.mutexes at }) (next_owner_in (object_at k.mutexes at)) in
    record { tasks = it.tasks; handlers = it.handlers }

priced-rooms : (k : KernelState) (base : Task → ℕ) (id priority : ℕ) (why : Option WaitReason) → Rooms (priced_in k base id priority why) k
priced-rooms k base id priority why =
    rooms-then (of-rooms (moving id priority) (with_tasks k (changed (priced base priority) k.tasks id)) why)
    (in-tasks k _ (changed-room (priced base priority) k.tasks id))

rooms-settle : (k : KernelState) → Settles (λ new. Rooms new k)
rooms-settle k = record {
  gives = λ now at m there was. rooms-then (given-rooms now at) was;
  prices = λ now base id priority (task : Task) there was. rooms-then (priced-rooms now base id priority (waiting_of task.status)) was;
}

quits-rooms : (k : KernelState) (id : ℕ) → Rooms (quits_in k id) k
quits-rooms k id =
    rooms-then (ended-rooms (all_given_in k id) id) (all-given (λ new. Rooms new k) k id (rooms-settle k) (rooms-same k))

prioritized-rooms : (k now : KernelState) → Rooms now k → Rooms (prioritized now) k
prioritized-rooms k now was = all-prioritized (λ new. Rooms new k) now (rooms-settle k) was

faulted-task-rooms : (k : KernelState) (cpu : ℕ) (p : Processor) (running : Option ℕ) → Rooms (faulted_task k cpu p running) k
faulted-task-rooms k cpu p None = rooms-same k
faulted-task-rooms k cpu p (Some id) =
    let quiet : KernelState = with_tasks k (noted without_activation k.tasks id) in
    let over : Rooms (quits_in quiet id) k =
    rooms-then (quits-rooms quiet id) (in-tasks k (noted without_activation k.tasks id) (noted-room without_activation k.tasks id)) in
    record { tasks = over.tasks; handlers = over.handlers }

faulted-rooms : (k : KernelState) (cpu : ℕ) (found : Option Processor) → Rooms (faulted_in k cpu found) k
faulted-rooms k cpu None = rooms-same k
faulted-rooms k cpu (Some p) =
    if-rooms k _ _ (is_some p.handling) (record { tasks = refl; handlers = refl }) (faulted-task-rooms k cpu p p.running)

wait-rooms : (k : KernelState) (id : ℕ) (why : WaitReason) (due : Option ℕ) (entered : KernelState) → Rooms entered k →
    Rooms (with_wait k id why due entered) k
wait-rooms k id why due entered same =
    if-rooms k _ k (can_wait (task_at k.tasks id))
    (record { tasks = through-room (blocked why) k.tasks id; handlers = same.handlers }) (rooms-same k)

all-released-rooms : (k : KernelState) (ids : List ℕ) (second : ℕ) → Rooms (with_all_released_in k ids second) k
all-released-rooms k [] second = rooms-same k
all-released-rooms k (id ∷ ids) second =
    rooms-then (all-released-rooms (released_in k id e_ok (Some second)) ids second) (released-rooms k id e_ok (Some second))

satisfied-rooms : (k : KernelState) (id : ℕ) (found : Option Flag) → Rooms (with_satisfied_of k id found) k
satisfied-rooms k id None = rooms-same k
satisfied-rooms k id (Some flag) =
    let it = all-released-rooms (record k { flags = object_changed with_all_released k.flags id }) (all_released flag) flag.pattern in
    record { tasks = it.tasks; handlers = it.handlers }

handed-rooms : (k : KernelState) (datum : ℕ) (what : Sent) → Rooms (handed_over k datum what) k
handed-rooms k datum (Handed id) = released-rooms k id e_ok (Some datum)
handed-rooms k datum Stored = rooms-same k
handed-rooms k datum Full = rooms-same k

second-rooms : (k : KernelState) (second : ℕ) (first : Option ℕ) → Rooms (released_with_second k second first) k
second-rooms k second None = rooms-same k
second-rooms k second (Some id) = released-rooms k id e_ok (Some second)

awaiting-rooms : (k : KernelState) (caller id : ℕ) (lacks : Lacks k id) → Rooms (awaiting k caller id lacks) k
awaiting-rooms k caller id (No-one s there none) = record { tasks = refl; handlers = refl }
awaiting-rooms k caller id _ = record { tasks = refl; handlers = refl }

-- the same for a kernel of which only tasks, or lists, are others
via : {k middle new : KernelState} → Rooms new middle → middle.tasks ≡ k.tasks → middle.handler_contexts ≡ k.handler_contexts → Rooms new k
via same tasks handlers = record {
  tasks = same.tasks ∙ ap (λ (t : TaskTable). length t.contexts) tasks;
  handlers = same.handlers ∙ ap length handlers;
}

rooms-law : (Known : Fact → Type 0) (k : KernelState) (cpu caller : ℕ) → Law Known (λ new. Rooms new k) k cpu caller
rooms-law Known k cpu caller = record {
  stays = rooms-same k;
  activates = λ id request of. in-tasks k _ (activated-room k.tasks id request);
  cancels = λ id. in-tasks k _ (noted-room without_activation k.tasks id);
  wakes = λ id task there awake. in-tasks k _ (noted-room (with_wakeup true) k.tasks id);
  unwakes = λ id. in-tasks k _ (noted-room (with_wakeup false) k.tasks id);
  exits = λ known. rooms-then (unmarked-rooms (quits_in k caller) cpu (processor_at k cpu)) (quits-rooms k caller);
  ends = λ id task there held other. quits-rooms k id;
  prioritizes = λ base id priority (task : Task) there. priced-rooms k base id priority (waiting_of task.status);
  migrates = λ id to task there held absent may. in-tasks k _ (changed-room (on_processor to) k.tasks id);
  suspends = λ id task there held may. in-tasks k _ (through-room suspended k.tasks id);
  resumes = λ id. in-tasks k _ (through-room resumed k.tasks id);
  rouses = λ id task there asleep. released-rooms k id e_ok None;
  breaks = λ id answer. broken-rooms k id answer;
  sleeps = λ due task there none may. wait-rooms k caller reason.Sleep due k (rooms-same k);
  delays = λ due may. wait-rooms k caller reason.Delay (Some due) k (rooms-same k);
  rotates = λ on priority p there. in-tasks k _ refl;
  marks = λ p q there runs holding. record { tasks = refl; handlers = refl };
  returns = λ p there. record { tasks = refl; handlers = length-set k.handler_contexts cpu _ };
  signals = λ id (s : Semaphore) there.
      via (released-if-rooms (record k { semaphores = object_changed returned k.semaphores id }) (first_waiter s)) refl refl;
  takes = λ id s there. record { tasks = refl; handlers = refl };
  sets = λ id bits flag there.
      let set : KernelState = record k { flags = object_changed (joined bits) k.flags id } in
      via (satisfied-rooms set id (object_at set.flags id)) refl refl;
  clears = λ id bits flag there. record { tasks = refl; handlers = refl };
  gets = λ id want flag there. record { tasks = refl; handlers = refl };
  sends = λ id datum (q : DataQueueState) there.
      via (handed-rooms (record k { queues = object_changed (sent datum) k.queues id }) datum (outcome q)) refl refl;
  forces = λ id datum (q : DataQueueState) there.
      via (handed-rooms (record k { queues = object_changed (forced datum) k.queues id }) datum (forced_outcome q)) refl refl;
  receives = λ id q (it : Received) there is.
      via (released-if-rooms (record k { queues = object_changed received k.queues id }) it.sender) refl refl;
  locks = λ id m there. record { tasks = refl; handlers = refl };
  gives = λ id m there. given-rooms k id;
  hands-out = λ id p block there is. record { tasks = refl; handlers = refl };
  gives-back = λ id block (p : PoolState) there.
      via (second-rooms (record k { pools = object_changed (given_back block) k.pools id }) block (next_holder block p)) refl refl;
  posts = λ id address priority (m : MailboxState) there.
      via (handed-rooms (record k { mailboxes = object_changed (message_sent (message_of address priority)) k.mailboxes id }) address (message_outcome m))
      refl refl;
  fetches = λ id m address there is. record { tasks = refl; handlers = refl };
  awaits = λ id due lacks may.
      wait-rooms k caller (reason.On (lacked lacks) id) due (awaiting k caller id lacks) (awaiting-rooms k caller id lacks);
  writes = λ word. record { tasks = refl; handlers = refl };
  ends_all = record { tasks = refl; handlers = refl };
  sets_clock = λ clock. record { tasks = refl; handlers = refl };
  sets_timers = λ timers. record { tasks = refl; handlers = refl };
}

-- Events.

put-rooms : (k : KernelState) (cpu : ℕ) (who : Executor) (s : State) → Rooms (with_context_of k cpu who s) k
put-rooms k cpu executor.Handler s = record { tasks = refl; handlers = length-set k.handler_contexts cpu s }
put-rooms k cpu (executor.Task id) s = record { tasks = length-set k.tasks.contexts id s; handlers = refl }

called-rooms : (k : KernelState) (cpu : ℕ) → Rooms (called k cpu) k
called-rooms k cpu =
    calling.called-leaves {P = λ now. Rooms now k} {Q = λ now. Rooms now k} k cpu
    (record {
      quiet = λ now was. was;
      goes_on = λ now who s was. rooms-then (put-rooms now cpu who s) was;
      replies = λ now who s was. rooms-then (put-rooms now cpu who s) was;
      serves = λ now p (c : Call) same there may was.
          rooms-then
          (serve-leaves (λ new. Rooms new now) now cpu (rooms-law (known_of now.standard p (caller_on now cpu)) now cpu (caller_on now cpu))
          (prioritized-rooms now) c may) was;
    }) (rooms-same k)

done-rooms : (b : BoardState) (cpu address : ℕ) (outcome : Outcome) → Rooms (instruction_done b cpu address outcome).board.kernel b.kernel
done-rooms b cpu address Done = rooms-same b.kernel
done-rooms b cpu address Syscall = let it = called-rooms b.kernel cpu in record { tasks = it.tasks; handlers = it.handlers }
done-rooms b cpu address (Exception code epc bd) =
    let it = prioritized-rooms b.kernel _ (faulted-rooms b.kernel cpu (processor_at b.kernel cpu)) in record { tasks = it.tasks; handlers = it.handlers }

executes-rooms : (b : BoardState) (cpu : ℕ) (by : Option Executor) →
    Rooms (executes_in b cpu (executed_in b.kernel cpu b.memory b.links by)).board.kernel b.kernel
executes-rooms b cpu None = rooms-same b.kernel
executes-rooms b cpu (Some who) =
    let s : State = context_of b.kernel cpu who in
    let left : Ran = ran cpu s b.memory b.links in
    rooms-then (done-rooms (with_executed b (executed_by b.kernel cpu who s.pc left)) cpu s.pc left.outcome)
    (put-rooms b.kernel cpu who left.state)

handles-rooms : (k : KernelState) (cpu line : ℕ) (found : Option Processor) → Rooms (handles k cpu line found) k
handles-rooms k cpu line None = rooms-same k
handles-rooms k cpu line (Some p) =
    record { tasks = refl; handlers = length-set k.handler_contexts cpu (entry_of line (line_at k line).handler) }

accepts-rooms : (b : BoardState) (cpu : ℕ) (line : Option ℕ) → Rooms (accepts_or_executes b cpu line).board.kernel b.kernel
accepts-rooms b cpu None = executes-rooms b cpu (executor_on b.kernel cpu)
accepts-rooms b cpu (Some line) =
    let it = handles-rooms b.kernel cpu line (processor_at b.kernel cpu) in record { tasks = it.tasks; handlers = it.handlers }

either-rooms : (k : KernelState) (test : Bool) (one other : Happened) → Rooms one.board.kernel k → Rooms other.board.kernel k →
    Rooms (if test then one else other).board.kernel k
either-rooms k true one other first second = first
either-rooms k false one other first second = second

stepped-rooms : (b : BoardState) (cpu : ℕ) (found : Option Processor) → Rooms (stepped_in b cpu found).board.kernel b.kernel
stepped-rooms b cpu None = rooms-same b.kernel
stepped-rooms b cpu (Some p) =
    either-rooms b.kernel p.stopped _ _ (rooms-same b.kernel) (accepts-rooms b cpu (deliverable b.kernel cpu))

ticked-rooms : (k : KernelState) → Rooms (ticked_on k (advanced k.time)) k
ticked-rooms k =
    let time : Time = advanced k.time in
    let ended : KernelState = all_timed_out (record k { time = time }) (due_from time 0) in
    rung-keeps (λ new. Rooms new k) (prioritized ended) (λ x timers lines same. record { tasks = same.tasks; handlers = same.handlers })
    (prioritized-rooms k ended (via (all-timed-rooms (record k { time = time }) (due_from time 0)) refl refl))

on-rooms : (b : BoardState) (event : Event) → Rooms (happens_on b event).board.kernel b.kernel
on-rooms b (Step cpu) = stepped-rooms b cpu (processor_at b.kernel cpu)
on-rooms b Tick =
    either-rooms b.kernel (nat_lt b.kernel.time.count last_count) _ _
    (let it = ticked-rooms b.kernel in record { tasks = it.tasks; handlers = it.handlers }) (rooms-same b.kernel)
on-rooms b (Raise line) =
    either-rooms b.kernel (can_be_raised b.kernel line) _ _ (record { tasks = refl; handlers = refl }) (rooms-same b.kernel)

pub happens-rooms : (b : BoardState) (event : Event) → Rooms (happens b event).board.kernel b.kernel
unfolding happens
happens-rooms b event = either-rooms b.kernel b.kernel.off _ _ (rooms-same b.kernel) (on-rooms b event)
