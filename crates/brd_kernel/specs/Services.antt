-- The service table: a row a call, in the order of their numbers (uITRON 4.0 specification; mact_tsk, imact_tsk,
-- mig_tsk, get_pid and the calls of spin locks: TOPPERS/FMP; put_chr, ext_ker and ret_int, how spin locks behave, the
-- refusals and their order: own choice). Those above 63 are there in the profile PROFILE(STANDARD) alone: the gate has
-- no other number without it. A row begins with the object that the call names and refuses nothing but an
-- ID that is none (E_ID, E_NOEXS); what it fills in is what its line of the table says. T is a task's ID, T0 may be 0
-- for the caller, L is a spin lock's.
use Rattle.std.specs.Prelude.{ℕ, zero, suc, ◌+◌, ◌%◌, ◌^◌, ◌-◌, ◌==◌, nat_lt}
use Rattle.std.specs.Prelude.{nat_le, Bool, true, false, not, ◌&&◌, ◌||◌, if◌then◌else◌}
use Rattle.std.specs.Prelude.{List, [], ◌∷◌, ◌++◌, length, slice_index, slice_set}
use Rattle.std.specs.Prelude.{Option, None, Some, is_some, unwrap_or, Result}
use Rattle.std.specs.Prelude.{Ok, Err}
use Rattle.brd_tasks.specs.declared.status.Status.{Status}
use Rattle.brd_tasks.specs.declared.status.Status.TheVariants as status
use Rattle.brd_tasks.specs.declared.status.WaitReason.{WaitReason}
use Rattle.brd_tasks.specs.declared.status.WaitReason.TheVariants as reason
use Rattle.brd_tasks.specs.declared.status.WaitKind.{WaitKind}
use Rattle.brd_tasks.specs.declared.status.WaitKind.TheVariants as kind
use Rattle.brd_tasks.specs.declared.task.Task.{Task}
use Rattle.brd_tasks.specs.declared.task.Request.TheVariants.{Assigned, On}
use Rattle.brd_tasks.specs.Status.{waiting_of, is_dormant, is_waiting, is_suspended, suspended, resumed}
use Rattle.brd_tasks.specs.Tasks.{task_at, activated, through, changed, with_priority, on_processor, noted, with_wakeup}
use Rattle.brd_tasks.specs.Tasks.{without_activation, turned, activations_of, wakeups_of, no_context}
use Rattle.brd_objects.specs.declared.semaphore.Semaphore.{Semaphore}
use Rattle.brd_config.specs.declared.objects.Protocol.{Protocol}
use Rattle.brd_config.specs.declared.objects.Protocol.TheVariants as protocol
use Rattle.brd_objects.specs.declared.flag.Flag.{Flag}
use Rattle.brd_objects.specs.declared.mutex.Mutex.{Mutex}
use Rattle.brd_objects.specs.declared.want.Mode.{Mode}
use Rattle.brd_objects.specs.declared.want.Mode.TheVariants.{All, Any}
use Rattle.brd_objects.specs.declared.want.Want.{Want}
use Rattle.brd_objects.specs.declared.sent.Sent.{Sent}
use Rattle.brd_objects.specs.declared.sent.Sent.TheVariants.{Handed, Stored, Full}
use Rattle.brd_objects.specs.declared.sent.Received.{Received}
use Rattle.brd_objects.specs.Table.{object_at, object_changed}
use Rattle.brd_objects.specs.Semaphores.{returned, first_waiter, is_full, has_one, taken, semaphore_awaited}
use Rattle.brd_objects.specs.Flags.{joined, masked, pattern_for, taken_for, is_occupied, flag_awaited, all_released}
use Rattle.brd_objects.specs.Flags.{with_all_released}
use Rattle.brd_objects.specs.Waiters.{first_in}
use Rattle.brd_objects.specs.DataQueues.{DataQueueState, sent, outcome, forced, forced_outcome, received, receipt}
use Rattle.brd_objects.specs.DataQueues.{awaited_by_sender, awaited_by_receiver}
use Rattle.brd_objects.specs.Mutexes.{is_owned_by, owned, next_owner, mutex_awaited}
use Rattle.brd_queue.specs.declared.entry.QueueOrder.{QueueOrder}
use Rattle.brd_queue.specs.declared.entry.QueueOrder.TheVariants as order
use Rattle.brd_objects.specs.Pools.{PoolState, free_among, is_out, block_for, handed_out, given_back, next_holder}
use Rattle.brd_objects.specs.Pools.{pool_awaited}
use Rattle.brd_objects.specs.declared.message.Message.{Message}
use Rattle.brd_objects.specs.Mailboxes.{MailboxState, has_no_place, message_sent, message_outcome, message_received}
use Rattle.brd_objects.specs.Mailboxes.{next_message, mailbox_awaited}
use Rattle.brd_time.specs.Time.{due_of}
use Rattle.brd_timers.specs.declared.timer.Timer.{Timer}
use Rattle.brd_timers.specs.Timers.{timer_at, changed_at, started, asked_for, stopped}
use Rattle.brd_kernel.specs.Waits.{forever, is_bad_timeout, due_after, due_by, priority_of}
use Rattle.brd_kernel.specs.Waits.{with_wait, released_in, broken_off}
use Rattle.brd_kernel.specs.Waits.{reordered_in, with_released, has_mutex_in, given_in, quits_in, base_in, prioritized}
use Rattle.brd_kernel.specs.declared.processor.Processor.{Processor}
use Rattle.brd_kernel.specs.declared.processor.Spin.{Spin}
use Rattle.brd_kernel.specs.declared.processor.Spin.TheVariants.{Free, Held}
use Rattle.brd_kernel.specs.declared.call.Call.{Call}
use Rattle.brd_kernel.specs.declared.call.Call.TheVariants as call
use Rattle.brd_kernel.specs.declared.call.Sensed.{Sensed}
use Rattle.brd_kernel.specs.declared.call.Sensed.TheVariants as sense
use Rattle.brd_kernel.specs.declared.call.Ercd.{Ercd}
use Rattle.brd_kernel.specs.declared.call.Ercd.TheVariants.{Rlwai, Tmout}
use Rattle.brd_kernel.specs.declared.call.Reply.{Reply}
use Rattle.brd_kernel.specs.declared.call.Reply.TheVariants.{Answer, Silent, Again}
use Rattle.brd_kernel.specs.Answer.{e_ok, code_of}
use Rattle.brd_kernel.specs.Kernel.{KernelState, processor_at, is_held, running_on, with_tasks, with_processor}
use Rattle.brd_kernel.specs.Kernel.{unmarked, holding, letting_go, holds, spin_of, cyclic_place, alarm_place}
use Rattle.brd_kernel.specs.Dispatch.{is_same_task}
use Rattle.brd_kernel.specs.Row.{Row, Served, served, never, ok, ok_with, ok_count, silent, again, or_refused}
use Rattle.brd_kernel.specs.Row.{is_absent}

-- an ID outside 1 to 255
unfoldable pub is_no_id : ℕ → Bool
is_no_id id = id == 0 || nat_lt 255 id

-- 0 names the caller, in the calls of which the table says so
unfoldable pub named : ℕ → ℕ → ℕ
named caller id = if id == 0 then caller else id

-- The rows that fill in nothing.

-- an object that no ID names
abbrev pub on_something : {X : Type 0} → KernelState → Option X → Row X
on_something k object = record {
  bad_id = false;
  bad_par = false;
  object = object;
  iluse = never;
  obj = never;
  qovr = never;
  does = λ x. ok k;
}

-- an object named by its ID, where there is one
abbrev pub on_object : {X : Type 0} → KernelState → ℕ → Option X → Row X
on_object k id object = record (on_something k object) { bad_id = is_no_id id }

abbrev pub on_task : KernelState → ℕ → Row Task
on_task k id = on_object k id (task_at k.tasks id)

abbrev pub on_semaphore : KernelState → ℕ → Row Semaphore
on_semaphore k id = on_object k id (object_at k.semaphores id)

abbrev pub on_flag : KernelState → ℕ → Row Flag
on_flag k id = on_object k id (object_at k.flags id)

abbrev pub on_queue : KernelState → ℕ → Row DataQueueState
on_queue k id = on_object k id (object_at k.queues id)

abbrev pub on_mutex : KernelState → ℕ → Row Mutex
on_mutex k id = on_object k id (object_at k.mutexes id)

abbrev pub on_pool : KernelState → ℕ → Row PoolState
on_pool k id = on_object k id (object_at k.pools id)

abbrev pub on_mailbox : KernelState → ℕ → Row MailboxState
on_mailbox k id = on_object k id (object_at k.mailboxes id)

abbrev pub on_spin_lock : KernelState → ℕ → Row Spin
on_spin_lock k id = on_object k id (spin_of k id)

-- a cyclic handler, and an alarm handler

abbrev pub on_cyclic : KernelState → ℕ → Row Timer
on_cyclic k id = on_object k id (timer_at k.timers (cyclic_place id))

abbrev pub on_alarm : KernelState → ℕ → Row Timer
on_alarm k id = on_object k id (timer_at k.timers (alarm_place id))

-- the caller
abbrev pub on_caller : KernelState → ℕ → Row Task
on_caller k caller = on_something k (task_at k.tasks caller)

-- the processor from which the call comes
abbrev pub on_own_processor : KernelState → ℕ → Row Processor
on_own_processor k cpu = on_something k (processor_at k cpu)

-- no object
abbrev pub on_nothing : KernelState → Row (Unit {0})
on_nothing k = on_something k (Some tt)

-- Tests.

abbrev pub runs_held : Option Processor → ℕ → Bool
runs_held None id = false
runs_held (Some p) id = is_held p && is_same_task p.running (Some id)

-- a task is the running one of a processor other than the caller's, which is held: of the one that it is assigned to,
-- as a running task is
unfoldable pub is_held_elsewhere : KernelState → ℕ → ℕ → Task → Bool
is_held_elsewhere k cpu id task = not (task.cpu == cpu) && runs_held (processor_at k task.cpu) id

-- a number that is none of the board's processors
unfoldable pub is_no_processor : KernelState → ℕ → Bool
is_no_processor k cpu = is_absent (processor_at k cpu)

-- a request to start a task that isn't dormant is queued
abbrev pub has_request : Task → Bool
has_request task = not (is_dormant task.status) && is_some task.activation

abbrev pub is_sleep : Option WaitReason → Bool
is_sleep None = false
is_sleep (Some reason.Sleep) = true
is_sleep (Some reason.Delay) = false
is_sleep (Some (reason.On what object)) = false

-- waits for a wake-up, suspended or not
abbrev pub is_asleep : Status → Bool
is_asleep status = is_sleep (waiting_of status)

-- 0 means the priority with which the task starts
unfoldable pub priority_or_initial : ℕ → Task → ℕ
priority_or_initial priority task = if priority == 0 then task.setup.priority else priority

-- 0 means the base priority of the caller
unfoldable pub priority_or_callers : ℕ → ℕ → ℕ
priority_or_callers priority callers = if priority == 0 then callers else priority

-- how many bytes the console holds
abbrev pub console_size : ℕ
console_size = 2 ^ 16

-- the mode of a wait for bits: 0 is TWF_ANDW, 1 TWF_ORW
abbrev pub mode_of : ℕ → Mode
mode_of word = if word == 0 then All else Any

abbrev pub want_of : ℕ → ℕ → Want
want_of bits mode = record { bits = bits; mode = mode_of mode }

-- bits or a mode that no wait for an event flag may have
unfoldable pub is_bad_want : ℕ → ℕ → Bool
is_bad_want bits mode = bits == 0 || nat_lt 1 mode

-- how long dly_tsk may wait at most
abbrev pub longest_delay : ℕ
longest_delay = 2 ^ 31 - 1

-- What the calls of the profile tell.

-- true is 1, false 0
abbrev pub bit_word : Bool → ℕ
bit_word true = 1
bit_word false = 0

-- what sns_ctx, sns_loc, sns_dsp and sns_dpn tell of the processor that they come from
abbrev pub sensed : Processor → Sensed → Bool
sensed p sense.Context = is_some p.handling
sensed p sense.Locked = p.locked
sensed p sense.Disabled = p.disabled
sensed p sense.Pending = is_held p

-- the system time, in ticks of a millisecond
abbrev pub system_time : KernelState → ℕ
system_time k = (k.clock + k.time.count) % 2 ^ 32

-- what it was before the first tick, where it is this now
abbrev pub clock_for : KernelState → ℕ → ℕ
clock_for k time = (time + (2 ^ 32 - k.time.count % 2 ^ 32)) % 2 ^ 32

-- TTS_RDY, TTS_WAI, TTS_SUS, TTS_WAS, TTS_DMT; TTS_RUN of a running task

abbrev pub status_word : Status → ℕ
status_word status.Dormant = 16
status_word status.Ready = 2
status_word (status.Waiting why) = 4
status_word status.Suspended = 8
status_word (status.WaitingSuspended why) = 12

abbrev pub state_word : Bool → Status → ℕ
state_word true status = 1
state_word false status = status_word status

-- TTW_SEM, TTW_FLG, TTW_SDTQ, TTW_RDTQ, TTW_MTX, TTW_MPF, TTW_MBX
abbrev pub kind_word : WaitKind → ℕ
kind_word kind.Semaphore = 4
kind_word kind.Flag = 8
kind_word kind.Room = 16
kind_word kind.Datum = 32
kind_word kind.Mutex = 128
kind_word kind.Block = 2 ^ 13
kind_word kind.Message = 64

-- TTW_SLP, TTW_DLY, and those; 0 where it doesn't wait
abbrev pub wait_word : Option WaitReason → ℕ
wait_word None = 0
wait_word (Some reason.Sleep) = 1
wait_word (Some reason.Delay) = 2
wait_word (Some (reason.On what object)) = kind_word what

-- the ID of the object that it waits for, or 0
abbrev pub object_word : Option WaitReason → ℕ
object_word None = 0
object_word (Some reason.Sleep) = 0
object_word (Some reason.Delay) = 0
object_word (Some (reason.On what object)) = object

-- How many ticks are left of a wait, without the one that ends it: 0 where the next tick does. TMO_FEVR where none
-- does; 0 where it doesn't wait.

abbrev pub ticks_left : ℕ → Option ℕ → ℕ
ticks_left count None = forever
ticks_left count (Some due) = (due - count - 1) % 2 ^ 32

abbrev pub left_word : ℕ → Option ℕ → Bool → ℕ
left_word count due false = 0
left_word count due true = ticks_left count due

-- T_RTSK: tskstat, tskpri, tskbpri, tskwait, wobjid, lefttmo, actcnt, wupcnt, suscnt
abbrev pub task_words : KernelState → ℕ → Task → List ℕ
task_words k id task =
    state_word (is_same_task (running_on k task.cpu) (Some id)) task.status ∷ task.priority ∷ task.base
    ∷ wait_word (waiting_of task.status) ∷ object_word (waiting_of task.status)
    ∷ left_word k.time.count (due_of k.time id) (is_waiting task.status) ∷ activations_of task.activation
    ∷ wakeups_of task.wakeup ∷ bit_word (is_suspended task.status) ∷ []

-- a task's ID, or TSK_NONE
abbrev pub id_or_none : Option ℕ → ℕ
id_or_none id = unwrap_or id 0

-- T_RSEM: wtskid, semcnt
abbrev pub semaphore_words : Semaphore → List ℕ
semaphore_words s = id_or_none (first_waiter s) ∷ s.count ∷ []

-- T_RFLG: wtskid, flgptn
abbrev pub flag_words : Flag → List ℕ
flag_words f = id_or_none (first_in f.waiters) ∷ f.pattern ∷ []

-- T_RDTQ: stskid, rtskid, sdtqcnt
abbrev pub queue_words : DataQueueState → List ℕ
queue_words q = id_or_none (first_in q.senders) ∷ id_or_none (first_in q.receivers) ∷ length q.stored ∷ []

-- T_RMTX: htskid, wtskid
abbrev pub mutex_words : Mutex → List ℕ
mutex_words m = id_or_none m.owner ∷ id_or_none (next_owner m) ∷ []

-- T_RMPF: wtskid, fblkcnt
abbrev pub pool_words : PoolState → List ℕ
pool_words p = id_or_none (first_in p.waiters) ∷ free_among p.blocks ∷ []

-- T_RMBX: wtskid, and the address of the message that is received next, NULL where none is there
abbrev pub mailbox_words : MailboxState → List ℕ
mailbox_words m = id_or_none (first_in m.waiters) ∷ unwrap_or (next_message m) 0 ∷ []

-- T_RCYC: cycstat, lefttim, and T_RALM: almstat, lefttim. TCYC_STP or TALM_STP 0, TCYC_STA or TALM_STA 1, and how many
-- ticks pass before the one at which it is due; 0 where it is stopped.
abbrev pub timer_words : ℕ → Timer → List ℕ
timer_words count timer = bit_word (is_some timer.due) ∷ left_word count timer.due (is_some timer.due) ∷ []

-- Effects that several calls share.

-- the caller waits, or where it polls is answered E_TMOUT; `entered` is the kernel in which it stands in the list of
-- what it waits for
abbrev pub or_waits : KernelState → ℕ → WaitReason → ℕ → KernelState → Result Served Ercd
or_waits k caller why timeout entered =
    if timeout == 0 then Err Tmout else silent (with_wait k caller why (due_by k timeout) entered)

-- the priority of the caller
abbrev pub callers_priority : KernelState → ℕ → ℕ
callers_priority k caller = priority_of (task_at k.tasks caller)

-- tasks are released with E_OK and a second result, one after the other
abbrev pub with_all_released_in : KernelState → List ℕ → ℕ → KernelState
with_all_released_in k [] second = k
with_all_released_in k (id ∷ ids) second = with_all_released_in (released_in k id e_ok (Some second)) ids second

-- those who wait for an event flag and are satisfied by its pattern are released with it

abbrev pub with_satisfied_of : KernelState → ℕ → Option Flag → KernelState
with_satisfied_of k id None = k
with_satisfied_of k id (Some f) =
    with_all_released_in (record k { flags = object_changed with_all_released k.flags id }) (all_released f) f.pattern

abbrev pub with_satisfied_released : KernelState → ℕ → KernelState
with_satisfied_released k id = with_satisfied_of k id (object_at k.flags id)

-- what became of a datum that was sent: the receiver is released with it
abbrev pub handed_over : KernelState → ℕ → Sent → KernelState
handed_over k datum (Handed id) = released_in k id e_ok (Some datum)
handed_over k datum Stored = k
handed_over k datum Full = k

-- The table.

-- 1 act_tsk T0, 48 iact_tsk T. Refuses: QOVR a request is queued. Starts the task, or queues the request.
abbrev pub act_tsk : KernelState → ℕ → Row Task
act_tsk k id = record (on_task k id) {
  qovr = has_request;
  does = λ task. ok (with_tasks k (activated k.tasks id Assigned));
}

-- 2 can_act T0. Answers how many requests are queued, and takes them back.
abbrev pub can_act : KernelState → ℕ → Row Task
can_act k id = record (on_task k id) {
  does = λ task. ok_count (with_tasks k (noted without_activation k.tasks id)) (activations_of task.activation);
}

-- a processor with neither mark, which holds no spin lock
abbrev pub unmarked_on : KernelState → ℕ → Option Processor → KernelState
unmarked_on k cpu None = k
unmarked_on k cpu (Some p) = with_processor k cpu (unmarked p)

-- 3 ext_tsk. Ends the caller, which gives its mutexes back and leaves its processor neither CPU-locked nor with
-- dispatching disabled, and any spin lock free that it holds.
abbrev pub ext_tsk : KernelState → ℕ → ℕ → Row Task
ext_tsk k cpu caller = record (on_caller k caller) {
  does = λ task. silent (unmarked_on (quits_in k caller) cpu (processor_at k cpu));
}

-- 4 ter_tsk T. Refuses: ILUSE oneself; OBJ dormant or held elsewhere. Ends the task, which gives its mutexes back.
abbrev pub ter_tsk : KernelState → ℕ → ℕ → ℕ → Row Task
ter_tsk k cpu caller id = record (on_task k id) {
  iluse = λ task. id == caller;
  obj = λ task. is_dormant task.status || is_held_elsewhere k cpu id task;
  does = λ task. ok (quits_in k id);
}

-- a task is given a priority, and its place by it where it is ready or waits
abbrev pub with_priority_in : KernelState → ℕ → ℕ → Option WaitReason → KernelState
with_priority_in k id priority why =
    reordered_in (with_tasks k (changed (with_priority priority) k.tasks id)) id priority why

-- a priority is higher than the ceiling of a mutex, if that has an effect
abbrev pub is_over : Protocol → ℕ → ℕ → Bool
is_over protocol.Ceiling ceiling priority = nat_lt priority ceiling
is_over protocol.Arrival ceiling priority = false
is_over protocol.Priority ceiling priority = false
is_over protocol.Inherit ceiling priority = false

abbrev pub is_over_mutex : ℕ → Option Mutex → Bool
is_over_mutex priority None = false
is_over_mutex priority (Some m) = is_over m.protocol m.ceiling priority

-- one that a task has, of those with IDs below a number
unfoldable pub is_over_below : KernelState → ℕ → ℕ → ℕ → Bool
is_over_below k id priority zero = false
is_over_below k id priority (suc at) =
    is_over_below k id priority at
    || (has_mutex_in id (object_at k.mutexes at) && is_over_mutex priority (object_at k.mutexes at))

-- one that a task waits for

abbrev pub is_over_of : KernelState → ℕ → WaitKind → ℕ → Bool
is_over_of k priority kind.Mutex object = is_over_mutex priority (object_at k.mutexes object)
is_over_of k priority kind.Semaphore object = false
is_over_of k priority kind.Flag object = false
is_over_of k priority kind.Room object = false
is_over_of k priority kind.Datum object = false
is_over_of k priority kind.Block object = false
is_over_of k priority kind.Message object = false

abbrev pub is_over_for : KernelState → ℕ → Option WaitReason → Bool
is_over_for k priority None = false
is_over_for k priority (Some reason.Sleep) = false
is_over_for k priority (Some reason.Delay) = false
is_over_for k priority (Some (reason.On what object)) = is_over_of k priority what object

-- a priority that a task can't have for its ceilings
unfoldable pub is_over_ceiling : KernelState → ℕ → ℕ → Option WaitReason → Bool
is_over_ceiling k id priority why =
    k.standard && (is_over_for k priority why || is_over_below k id priority 256)

-- 5 chg_pri T0, priority. Refuses: PAR not 0 to 16; ILUSE it has, or waits for, a mutex with TA_CEILING of which the
-- ceiling is lower; OBJ dormant. The base priority is this from then on.
abbrev pub chg_pri : KernelState → ℕ → ℕ → Row Task
chg_pri k id priority = record (on_task k id) {
  bad_par = nat_lt 16 priority;
  iluse = λ task. is_over_ceiling k id (priority_or_initial priority task) (waiting_of task.status);
  obj = λ task. is_dormant task.status;
  does = λ task. ok (with_priority_in k id (priority_or_initial priority task) (waiting_of task.status));
}

-- 6 get_pri T0. Refuses: OBJ dormant. Second result: priority.
abbrev pub get_pri : KernelState → ℕ → Row Task
get_pri k id = record (on_task k id) { obj = λ task. is_dormant task.status; does = λ task. ok_with k task.priority }

-- 7 mact_tsk T0, processor, 57 imact_tsk T, processor. Refuses: PAR no such processor; QOVR a request is queued. As
-- act_tsk, on that processor.
abbrev pub mact_tsk : KernelState → ℕ → ℕ → Row Task
mact_tsk k id to = record (on_task k id) {
  bad_par = is_no_processor k to;
  qovr = has_request;
  does = λ task. ok (with_tasks k (activated k.tasks id (On to)));
}

-- 8 mig_tsk T0, processor. Refuses: PAR no such processor; OBJ dormant, assigned to it already, or held elsewhere (and,
-- in the gate, CTX). Assigns the task to another processor.
abbrev pub mig_tsk : KernelState → ℕ → ℕ → ℕ → Row Task
mig_tsk k cpu id to = record (on_task k id) {
  bad_par = is_no_processor k to;
  obj = λ task. is_dormant task.status || task.cpu == to || is_held_elsewhere k cpu id task;
  does = λ task. ok (with_tasks k (changed (on_processor to) k.tasks id));
}

-- 9 get_pid, 112 iget_pid. Second result: the processor that the call comes from.
abbrev pub get_pid : KernelState → ℕ → Row (Unit {0})
get_pid k cpu = record (on_nothing k) { does = λ x. ok_with k cpu }

-- 10 rot_rdq priority. Refuses: PAR not 0 to 16. On the caller's processor, the first ready task of that priority,
-- where 0 means the base priority of the caller, goes after its equals.
abbrev pub rot_rdq : KernelState → ℕ → ℕ → ℕ → Row Processor
rot_rdq k cpu caller priority = record (on_own_processor k cpu) {
  bad_par = nat_lt 16 priority;
  does = λ p. ok (with_tasks k (turned k.tasks cpu (priority_or_callers priority (base_in (task_at k.tasks caller)))));
}

-- 11 get_tid, 56 iget_tid. Second result: the running task (for get_tid that is the caller), 0 where none runs.
abbrev pub get_tid : KernelState → ℕ → Row (Unit {0})
get_tid k caller = record (on_nothing k) { does = λ x. ok_with k caller }

-- 12 dis_dsp, 13 ena_dsp. From then on the caller's processor has dispatching disabled, or not; it may have been so
-- before.
abbrev pub mark_dsp : KernelState → ℕ → Bool → Row Processor
mark_dsp k cpu disabled =
    record (on_own_processor k cpu) { does = λ p. ok (with_processor k cpu (record p { disabled = disabled })) }

-- 14 loc_cpu, 15 unl_cpu, 101 iloc_cpu, 102 iunl_cpu. From then on the caller's processor is CPU-locked, or not; it may
-- have been so before. (While the processor holds a spin lock, the gate refuses unl_cpu and iunl_cpu: CTX.)
abbrev pub mark_cpu : KernelState → ℕ → Bool → Row Processor
mark_cpu k cpu locked =
    record (on_own_processor k cpu) { does = λ p. ok (with_processor k cpu (record p { locked = locked })) }

-- 16 slp_tsk, 17 tslp_tsk timeout. Refuses: PAR. Takes a queued wake-up, or waits.
abbrev pub tslp_tsk : KernelState → ℕ → ℕ → Row Task
tslp_tsk k caller timeout = record (on_caller k caller) {
  bad_par = is_bad_timeout timeout;
  does = λ task. if task.wakeup then ok (with_tasks k (noted (with_wakeup false) k.tasks caller))
      else or_waits k caller reason.Sleep timeout k;
}

-- 18 wup_tsk T0, 49 iwup_tsk T. Refuses: OBJ dormant; QOVR not asleep, and a wake-up is queued. Releases a sleeper, or
-- queues a wake-up.
abbrev pub wup_tsk : KernelState → ℕ → Row Task
wup_tsk k id = record (on_task k id) {
  obj = λ task. is_dormant task.status;
  qovr = λ task. not (is_asleep task.status) && task.wakeup;
  does = λ task.
      if is_asleep task.status then ok (released_in k id e_ok None)
      else ok (with_tasks k (noted (with_wakeup true) k.tasks id));
}

-- 19 can_wup T0. Refuses: OBJ dormant. Answers how many wake-ups are queued, and takes them back.
abbrev pub can_wup : KernelState → ℕ → Row Task
can_wup k id = record (on_task k id) {
  obj = λ task. is_dormant task.status;
  does = λ task. ok_count (with_tasks k (noted (with_wakeup false) k.tasks id)) (wakeups_of task.wakeup);
}

-- 20 rel_wai T, 50 irel_wai T. Refuses: OBJ not waiting. Ends its wait.
abbrev pub rel_wai : KernelState → ℕ → Row Task
rel_wai k id = record (on_task k id) {
  obj = λ task. not (is_waiting task.status);
  does = λ task. ok (broken_off k id (code_of Rlwai));
}

-- 21 sus_tsk T0. Refuses: OBJ dormant or held elsewhere; QOVR suspended (and, in the gate, CTX).
abbrev pub sus_tsk : KernelState → ℕ → ℕ → Row Task
sus_tsk k cpu id = record (on_task k id) {
  obj = λ task. is_dormant task.status || is_held_elsewhere k cpu id task;
  qovr = λ task. is_suspended task.status;
  does = λ task. ok (with_tasks k (through suspended k.tasks id));
}

-- 22 rsm_tsk T, 70 frsm_tsk T. Refuses: OBJ not suspended.
abbrev pub rsm_tsk : KernelState → ℕ → Row Task
rsm_tsk k id = record (on_task k id) {
  obj = λ task. not (is_suspended task.status);
  does = λ task. ok (with_tasks k (through resumed k.tasks id));
}

-- 23 dly_tsk time. Refuses: PAR above 0x7FFFFFFF. Waits for n ticks.
abbrev pub dly_tsk : KernelState → ℕ → ℕ → Row Task
dly_tsk k caller time = record (on_caller k caller) {
  bad_par = nat_lt longest_delay time;
  does = λ task. silent (with_wait k caller reason.Delay (Some (due_after k time)) k);
}

-- 24 sig_sem S, 51 isig_sem S. Refuses: QOVR the count is the maximum, and nobody waits. Returns one.
abbrev pub sig_sem : KernelState → ℕ → Row Semaphore
sig_sem k id = record (on_semaphore k id) {
  qovr = is_full;
  does = λ s. ok (with_released (record k { semaphores = object_changed returned k.semaphores id }) (first_waiter s));
}

-- 25 wai_sem S, 26 pol_sem S, 27 twai_sem S, timeout. Refuses: PAR. Takes one, or waits.
abbrev pub twai_sem : KernelState → ℕ → ℕ → ℕ → Row Semaphore
twai_sem k caller id timeout = record (on_semaphore k id) {
  bad_par = is_bad_timeout timeout;
  does = λ s.
      if has_one s then ok (record k { semaphores = object_changed taken k.semaphores id })
      else or_waits k caller (reason.On kind.Semaphore id) timeout
      (record k { semaphores = object_changed (semaphore_awaited caller (callers_priority k caller)) k.semaphores id });
}

-- 28 set_flg F, bits, 52 iset_flg F, bits. Sets bits, and releases whom they satisfy.
abbrev pub set_flg : KernelState → ℕ → ℕ → Row Flag
set_flg k id bits = record (on_flag k id) {
  does = λ f. ok (with_satisfied_released (record k { flags = object_changed (joined bits) k.flags id }) id);
}

-- 29 clr_flg F, bits. Clears all bits but these.
abbrev pub clr_flg : KernelState → ℕ → ℕ → Row Flag
clr_flg k id bits =
    record (on_flag k id) { does = λ f. ok (record k { flags = object_changed (masked bits) k.flags id }) }

-- a wait for bits that is satisfied at once, or not
abbrev pub flag_got : KernelState → ℕ → ℕ → Want → ℕ → Option ℕ → Result Served Ercd
flag_got k caller id want timeout (Some pattern) =
    ok_with (record k { flags = object_changed (taken_for want) k.flags id }) pattern
flag_got k caller id want timeout None =
    or_waits k caller (reason.On kind.Flag id) timeout
    (record k { flags = object_changed (flag_awaited caller (callers_priority k caller) want) k.flags id })

-- 30 wai_flg F, bits, mode, 31 pol_flg F, bits, mode, 32 twai_flg F, bits, mode, timeout. Refuses: PAR; ILUSE under
-- TA_WSGL another task waits. Second result: the pattern. Waits for the bits.
abbrev pub twai_flg : KernelState → ℕ → ℕ → ℕ → ℕ → ℕ → Row Flag
twai_flg k caller id bits mode timeout = record (on_flag k id) {
  bad_par = is_bad_want bits mode || is_bad_timeout timeout;
  iluse = is_occupied;
  does = λ f. flag_got k caller id (want_of bits mode) timeout (pattern_for (want_of bits mode) f);
}

-- a datum that is handed over or stored, or its sender waits
abbrev pub queue_sent : KernelState → ℕ → ℕ → ℕ → ℕ → Sent → Result Served Ercd
queue_sent k caller id datum timeout (Handed task) =
    ok (released_in (record k { queues = object_changed (sent datum) k.queues id }) task e_ok (Some datum))
queue_sent k caller id datum timeout Stored = ok (record k { queues = object_changed (sent datum) k.queues id })
queue_sent k caller id datum timeout Full =
    or_waits k caller (reason.On kind.Room id) timeout
    (record k { queues = object_changed (awaited_by_sender caller (callers_priority k caller) datum) k.queues id })

-- 33 snd_dtq Q, datum, 34 psnd_dtq Q, datum, 35 tsnd_dtq Q, datum, timeout, 53 ipsnd_dtq Q, datum. Refuses: PAR. Sends
-- a datum, or waits.
abbrev pub tsnd_dtq : KernelState → ℕ → ℕ → ℕ → ℕ → Row DataQueueState
tsnd_dtq k caller id datum timeout = record (on_queue k id) {
  bad_par = is_bad_timeout timeout;
  does = λ q. queue_sent k caller id datum timeout (outcome q);
}

-- 36 fsnd_dtq Q, datum, 54 ifsnd_dtq Q, datum. Refuses: ILUSE its capacity is 0. Sends a datum, for which a full queue
-- gives its oldest one up.
abbrev pub fsnd_dtq : KernelState → ℕ → ℕ → Row DataQueueState
fsnd_dtq k id datum = record (on_queue k id) {
  iluse = λ q. q.capacity == 0;
  does = λ q.
      ok (handed_over (record k { queues = object_changed (forced datum) k.queues id }) datum (forced_outcome q));
}

-- a datum that is received, or its receiver waits
abbrev pub queue_received : KernelState → ℕ → ℕ → ℕ → Option Received → Result Served Ercd
queue_received k caller id timeout (Some it) =
    ok_with (with_released (record k { queues = object_changed received k.queues id }) it.sender) it.datum
queue_received k caller id timeout None =
    or_waits k caller (reason.On kind.Datum id) timeout
    (record k { queues = object_changed (awaited_by_receiver caller (callers_priority k caller)) k.queues id })

-- 37 rcv_dtq Q, 38 prcv_dtq Q, 39 trcv_dtq Q, timeout. Refuses: PAR. Second result: a datum. Receives it, or waits.
abbrev pub trcv_dtq : KernelState → ℕ → ℕ → ℕ → Row DataQueueState
trcv_dtq k caller id timeout = record (on_queue k id) {
  bad_par = is_bad_timeout timeout;
  does = λ q. queue_received k caller id timeout (receipt q);
}

-- 40 put_chr byte. Refuses: QOVR the console is full. Appends the low byte to the console.
abbrev pub put_chr : KernelState → ℕ → Row (Unit {0})
put_chr k word = record (on_nothing k) {
  qovr = λ x. nat_le console_size (length k.console);
  does = λ x. ok (record k { console = k.console ++ word % 2 ^ 8 ∷ [] });
}

-- 41 ext_ker. Turns the board off.
abbrev pub ext_ker : KernelState → Row (Unit {0})
ext_ker k = record (on_nothing k) { does = λ x. silent (record k { off = true }) }

-- 55 irot_rdq priority. Refuses: PAR not 1 to 16. As rot_rdq, on the handler's processor.
abbrev pub irot_rdq : KernelState → ℕ → ℕ → Row Processor
irot_rdq k cpu priority = record (on_own_processor k cpu) {
  bad_par = priority == 0 || nat_lt 16 priority;
  does = λ p. ok (with_tasks k (turned k.tasks cpu priority));
}

-- the handler of a processor has ended, and nothing is left of it: no CPU lock, no spin lock that it holds
abbrev pub handler_ended : KernelState → ℕ → Processor → KernelState
handler_ended k cpu p = record (with_processor k cpu (record (letting_go p) { handling = None })) {
  handler_contexts = slice_set k.handler_contexts cpu no_context;
}

-- 58 ret_int. Ends the handler, and with it CPU lock and spin lock that it leaves.
abbrev pub ret_int : KernelState → ℕ → Row Processor
ret_int k cpu = record (on_own_processor k cpu) { does = λ p. silent (handler_ended k cpu p) }

-- a spin lock is held
abbrev pub is_taken : Spin → Bool
is_taken Free = false
is_taken (Held cpu) = true

-- the caller's processor takes a spin lock, which locks the processor too

abbrev pub lock_taken_by : KernelState → ℕ → ℕ → Option Processor → KernelState
lock_taken_by k cpu id None = k
lock_taken_by k cpu id (Some p) = with_processor k cpu (holding id p)

abbrev pub lock_taken : KernelState → ℕ → ℕ → KernelState
lock_taken k cpu id = lock_taken_by k cpu id (processor_at k cpu)

-- the caller's processor gives its spin lock back, and is no longer CPU-locked

abbrev pub lock_given_by : KernelState → ℕ → Option Processor → KernelState
lock_given_by k cpu None = k
lock_given_by k cpu (Some p) = with_processor k cpu (letting_go p)

abbrev pub lock_given : KernelState → ℕ → KernelState
lock_given k cpu = lock_given_by k cpu (processor_at k cpu)

-- 60 loc_spn L, 103 iloc_spn L. Takes the lock where it is free; where it is held, the call is made again.
abbrev pub loc_spn : KernelState → ℕ → ℕ → Row Spin
loc_spn k cpu id = record (on_spin_lock k id) {
  does = λ lock. if is_taken lock then again k else ok (lock_taken k cpu id);
}

-- 61 try_spn L, 104 itry_spn L. Refuses: OBJ held. Takes the lock.
abbrev pub try_spn : KernelState → ℕ → ℕ → Row Spin
try_spn k cpu id = record (on_spin_lock k id) { obj = is_taken; does = λ lock. ok (lock_taken k cpu id) }

-- 62 unl_spn L, 105 iunl_spn L. Refuses: ILUSE the caller's processor doesn't hold it. Gives the lock back.
abbrev pub unl_spn : KernelState → ℕ → ℕ → Row Spin
unl_spn k cpu id = record (on_spin_lock k id) {
  iluse = λ lock. not (holds id (processor_at k cpu));
  does = λ lock. ok (lock_given k cpu);
}

-- 64 get_tim. Second result: the system time.
abbrev pub get_tim : KernelState → Row (Unit {0})
get_tim k = record (on_nothing k) { does = λ x. ok_with k (system_time k) }

-- 65 set_tim time. The system time is this from then on, and goes on with the ticks.
abbrev pub set_tim : KernelState → ℕ → Row (Unit {0})
set_tim k time = record (on_nothing k) { does = λ x. ok (record k { clock = clock_for k time }) }

-- 66 sns_ctx, 67 sns_loc, 68 sns_dsp, 69 sns_dpn. Answers 1 in a handler; while the processor is CPU-locked; while it
-- has dispatching disabled; while it is held. Else 0.
abbrev pub sns : KernelState → ℕ → Sensed → Row Processor
sns k cpu what = record (on_own_processor k cpu) { does = λ p. ok_count k (bit_word (sensed p what)) }

-- 71 mget_tid processor. Refuses: PAR no such processor. Second result: its running task, 0 where none runs.
abbrev pub mget_tid : KernelState → ℕ → Row Processor
mget_tid k on = record (on_own_processor k on) {
  bad_par = is_no_processor k on;
  does = λ p. ok_with k (id_or_none p.running);
}

-- 72 mrot_rdq priority, processor. Refuses: PAR not 0 to 16, or no such processor. As rot_rdq, on that processor.
abbrev pub mrot_rdq : KernelState → ℕ → ℕ → ℕ → Row Processor
mrot_rdq k caller priority on = record (on_own_processor k on) {
  bad_par = nat_lt 16 priority || is_no_processor k on;
  does = λ p. ok (with_tasks k (turned k.tasks on (priority_or_callers priority (base_in (task_at k.tasks caller)))));
}

-- 73 ref_tsk T0, word. Refuses: PAR above 8. Second result: that word of T_RTSK.
abbrev pub ref_tsk : KernelState → ℕ → ℕ → Row Task
ref_tsk k id word = record (on_task k id) {
  bad_par = nat_lt 8 word;
  does = λ task. ok_with k (slice_index (task_words k id task) word);
}

-- 74 ref_sem S, word. Refuses: PAR above 1. Second result: that word of T_RSEM.
abbrev pub ref_sem : KernelState → ℕ → ℕ → Row Semaphore
ref_sem k id word = record (on_semaphore k id) {
  bad_par = nat_lt 1 word;
  does = λ s. ok_with k (slice_index (semaphore_words s) word);
}

-- 75 ref_flg F, word. Refuses: PAR above 1. Second result: that word of T_RFLG.
abbrev pub ref_flg : KernelState → ℕ → ℕ → Row Flag
ref_flg k id word = record (on_flag k id) {
  bad_par = nat_lt 1 word;
  does = λ f. ok_with k (slice_index (flag_words f) word);
}

-- 76 ref_dtq Q, word. Refuses: PAR above 2. Second result: that word of T_RDTQ.
abbrev pub ref_dtq : KernelState → ℕ → ℕ → Row DataQueueState
ref_dtq k id word = record (on_queue k id) {
  bad_par = nat_lt 2 word;
  does = λ q. ok_with k (slice_index (queue_words q) word);
}

-- a mutex that a task can't have: it has it already, or its base priority is higher than the ceiling
unfoldable pub may_not_have : KernelState → ℕ → Mutex → Bool
may_not_have k id m = is_owned_by id m || is_over m.protocol m.ceiling (base_in (task_at k.tasks id))

-- 77 loc_mtx M, 78 ploc_mtx M, 79 tloc_mtx M, timeout. Refuses: PAR; ILUSE the caller has it, or has a base priority
-- that is higher than its ceiling. Takes it, or waits.
abbrev pub tloc_mtx : KernelState → ℕ → ℕ → ℕ → Row Mutex
tloc_mtx k caller id timeout = record (on_mutex k id) {
  bad_par = is_bad_timeout timeout;
  iluse = may_not_have k caller;
  does = λ m.
      if is_some m.owner
      then or_waits k caller (reason.On kind.Mutex id) timeout
      (record k { mutexes = object_changed (mutex_awaited caller (callers_priority k caller)) k.mutexes id })
      else ok (record k { mutexes = object_changed (owned caller) k.mutexes id });
}

-- 80 unl_mtx M. Refuses: ILUSE the caller hasn't it. Gives it back.
abbrev pub unl_mtx : KernelState → ℕ → ℕ → Row Mutex
unl_mtx k caller id =
    record (on_mutex k id) { iluse = λ m. not (is_owned_by caller m); does = λ m. ok (given_in k id) }

-- 81 ref_mtx M, word. Refuses: PAR above 1. Second result: that word of T_RMTX.
abbrev pub ref_mtx : KernelState → ℕ → ℕ → Row Mutex
ref_mtx k id word = record (on_mutex k id) {
  bad_par = nat_lt 1 word;
  does = λ m. ok_with k (slice_index (mutex_words m) word);
}

-- a block that is handed out, or who asked for it waits
abbrev pub block_got : KernelState → ℕ → ℕ → ℕ → Option ℕ → Result Served Ercd
block_got k caller id timeout (Some address) =
    ok_with (record k { pools = object_changed handed_out k.pools id }) address
block_got k caller id timeout None =
    or_waits k caller (reason.On kind.Block id) timeout
    (record k { pools = object_changed (pool_awaited caller (callers_priority k caller)) k.pools id })

-- 82 get_mpf P, 83 pget_mpf P, 84 tget_mpf P, timeout. Refuses: PAR. Second result: a block's address. Takes the block
-- with the lowest one, or waits.
abbrev pub tget_mpf : KernelState → ℕ → ℕ → ℕ → Row PoolState
tget_mpf k caller id timeout = record (on_pool k id) {
  bad_par = is_bad_timeout timeout;
  does = λ p. block_got k caller id timeout (block_for p);
}

-- no block of a pool that is out begins there
abbrev pub is_no_block : ℕ → Option PoolState → Bool
is_no_block address None = false
is_no_block address (Some p) = not (is_out address p)

-- a task, if it is one, is released with E_OK and a second result
abbrev pub released_with_second : KernelState → ℕ → Option ℕ → KernelState
released_with_second k second None = k
released_with_second k second (Some id) = released_in k id e_ok (Some second)

-- 85 rel_mpf P, block. Refuses: PAR no block of the pool begins there, or it isn't out. Gives it back: the first waiter
-- has it then.
abbrev pub rel_mpf : KernelState → ℕ → ℕ → Row PoolState
rel_mpf k id address = record (on_pool k id) {
  bad_par = is_no_block address (object_at k.pools id);
  does = λ p. ok
      (released_with_second (record k { pools = object_changed (given_back address) k.pools id }) address
      (next_holder address p));
}

-- a priority that no message of a mailbox has, where its messages have one

abbrev pub is_no_priority : QueueOrder → ℕ → ℕ → Bool
is_no_priority order.Arrival most priority = false
is_no_priority order.Priority most priority = priority == 0 || nat_lt most priority

abbrev pub is_bad_message : ℕ → Option MailboxState → Bool
is_bad_message priority None = false
is_bad_message priority (Some m) = is_no_priority m.message_order m.priorities priority

-- a message at an address; what its priority is has an effect with TA_MPRI alone, where it is one of 16
abbrev pub message_of : ℕ → ℕ → Message
message_of address priority = record { address = address; priority = priority % 2 ^ 8 }

-- 86 snd_mbx B, message, priority, 87 isnd_mbx B, message, priority. Refuses: PAR with TA_MPRI, the priority is none of
-- the mailbox's; QOVR 256 messages are there, and nobody waits. Sends the message.
abbrev pub snd_mbx : KernelState → ℕ → ℕ → ℕ → Row MailboxState
snd_mbx k id address priority = record (on_mailbox k id) {
  bad_par = is_bad_message priority (object_at k.mailboxes id);
  qovr = has_no_place;
  does = λ m. ok
      (handed_over
      (record k { mailboxes = object_changed (message_sent (message_of address priority)) k.mailboxes id }) address
      (message_outcome m));
}

-- a message that is received, or its receiver waits
abbrev pub message_got : KernelState → ℕ → ℕ → ℕ → Option ℕ → Result Served Ercd
message_got k caller id timeout (Some address) =
    ok_with (record k { mailboxes = object_changed message_received k.mailboxes id }) address
message_got k caller id timeout None =
    or_waits k caller (reason.On kind.Message id) timeout
    (record k { mailboxes = object_changed (mailbox_awaited caller (callers_priority k caller)) k.mailboxes id })

-- 88 rcv_mbx B, 89 prcv_mbx B, 90 trcv_mbx B, timeout. Refuses: PAR. Second result: the address of a message. Receives
-- it, or waits.
abbrev pub trcv_mbx : KernelState → ℕ → ℕ → ℕ → Row MailboxState
trcv_mbx k caller id timeout = record (on_mailbox k id) {
  bad_par = is_bad_timeout timeout;
  does = λ m. message_got k caller id timeout (next_message m);
}

-- 91 ref_mpf P, word. Refuses: PAR above 1. Second result: that word of T_RMPF.
abbrev pub ref_mpf : KernelState → ℕ → ℕ → Row PoolState
ref_mpf k id word = record (on_pool k id) {
  bad_par = nat_lt 1 word;
  does = λ p. ok_with k (slice_index (pool_words p) word);
}

-- 92 ref_mbx B, word. Refuses: PAR above 1. Second result: that word of T_RMBX.
abbrev pub ref_mbx : KernelState → ℕ → ℕ → Row MailboxState
ref_mbx k id word = record (on_mailbox k id) {
  bad_par = nat_lt 1 word;
  does = λ m. ok_with k (slice_index (mailbox_words m) word);
}

-- 93 sta_cyc C. Starts the cyclic handler, also where it works already.
abbrev pub sta_cyc : KernelState → ℕ → Row Timer
sta_cyc k id = record (on_cyclic k id) {
  does = λ timer. ok (record k { timers = changed_at (started k.time.count) k.timers (cyclic_place id) });
}

-- 94 stp_cyc C. Stops the cyclic handler, if it works.
abbrev pub stp_cyc : KernelState → ℕ → Row Timer
stp_cyc k id = record (on_cyclic k id) {
  does = λ timer. ok (record k { timers = changed_at stopped k.timers (cyclic_place id) });
}

-- 95 sta_alm A, time, 96 ista_alm A, time. Refuses: PAR above 0x7FFFFFFF. Starts the alarm handler: it is due after n
-- ticks, and no more at a time that was asked for before.
abbrev pub sta_alm : KernelState → ℕ → ℕ → Row Timer
sta_alm k id time = record (on_alarm k id) {
  bad_par = nat_lt longest_delay time;
  does = λ timer. ok (record k { timers = changed_at (asked_for k.time.count time) k.timers (alarm_place id) });
}

-- 97 stp_alm A, 98 istp_alm A. Stops the alarm handler, if it is to come.
abbrev pub stp_alm : KernelState → ℕ → Row Timer
stp_alm k id = record (on_alarm k id) {
  does = λ timer. ok (record k { timers = changed_at stopped k.timers (alarm_place id) });
}

-- 99 ref_cyc C, word. Refuses: PAR above 1. Second result: that word of T_RCYC.
abbrev pub ref_cyc : KernelState → ℕ → ℕ → Row Timer
ref_cyc k id word = record (on_cyclic k id) {
  bad_par = nat_lt 1 word;
  does = λ timer. ok_with k (slice_index (timer_words k.time.count timer) word);
}

-- 100 ref_alm A, word. Refuses: PAR above 1. Second result: that word of T_RALM.
abbrev pub ref_alm : KernelState → ℕ → ℕ → Row Timer
ref_alm k id word = record (on_alarm k id) {
  bad_par = nat_lt 1 word;
  does = λ timer. ok_with k (slice_index (timer_words k.time.count timer) word);
}

-- The rows by calls.

abbrev pub serve_by : KernelState → ℕ → ℕ → Call → Result Served Ercd
serve_by k cpu caller (call.ActTsk t) = served (act_tsk k (named caller t))
serve_by k cpu caller (call.IactTsk t) = served (act_tsk k t)
serve_by k cpu caller (call.CanAct t) = served (can_act k (named caller t))
serve_by k cpu caller call.ExtTsk = served (ext_tsk k cpu caller)
serve_by k cpu caller (call.TerTsk t) = served (ter_tsk k cpu caller t)
serve_by k cpu caller (call.ChgPri t priority) = served (chg_pri k (named caller t) priority)
serve_by k cpu caller (call.GetPri t) = served (get_pri k (named caller t))
serve_by k cpu caller (call.MactTsk t to) = served (mact_tsk k (named caller t) to)
serve_by k cpu caller (call.ImactTsk t to) = served (mact_tsk k t to)
serve_by k cpu caller (call.MigTsk t to) = served (mig_tsk k cpu (named caller t) to)
serve_by k cpu caller call.GetPid = served (get_pid k cpu)
serve_by k cpu caller (call.RotRdq priority) = served (rot_rdq k cpu caller priority)
serve_by k cpu caller (call.IrotRdq priority) = served (irot_rdq k cpu priority)
serve_by k cpu caller call.GetTid = served (get_tid k caller)
serve_by k cpu caller call.DisDsp = served (mark_dsp k cpu true)
serve_by k cpu caller call.EnaDsp = served (mark_dsp k cpu false)
serve_by k cpu caller call.LocCpu = served (mark_cpu k cpu true)
serve_by k cpu caller call.UnlCpu = served (mark_cpu k cpu false)
serve_by k cpu caller (call.TslpTsk timeout) = served (tslp_tsk k caller timeout)
serve_by k cpu caller (call.WupTsk t) = served (wup_tsk k (named caller t))
serve_by k cpu caller (call.IwupTsk t) = served (wup_tsk k t)
serve_by k cpu caller (call.CanWup t) = served (can_wup k (named caller t))
serve_by k cpu caller (call.RelWai t) = served (rel_wai k t)
serve_by k cpu caller (call.SusTsk t) = served (sus_tsk k cpu (named caller t))
serve_by k cpu caller (call.RsmTsk t) = served (rsm_tsk k t)
serve_by k cpu caller (call.DlyTsk time) = served (dly_tsk k caller time)
serve_by k cpu caller (call.SigSem s) = served (sig_sem k s)
serve_by k cpu caller (call.TwaiSem s timeout) = served (twai_sem k caller s timeout)
serve_by k cpu caller (call.SetFlg f bits) = served (set_flg k f bits)
serve_by k cpu caller (call.ClrFlg f bits) = served (clr_flg k f bits)
serve_by k cpu caller (call.TwaiFlg f bits mode timeout) = served (twai_flg k caller f bits mode timeout)
serve_by k cpu caller (call.TsndDtq q datum timeout) = served (tsnd_dtq k caller q datum timeout)
serve_by k cpu caller (call.FsndDtq q datum) = served (fsnd_dtq k q datum)
serve_by k cpu caller (call.TrcvDtq q timeout) = served (trcv_dtq k caller q timeout)
serve_by k cpu caller (call.PutChr word) = served (put_chr k word)
serve_by k cpu caller call.ExtKer = served (ext_ker k)
serve_by k cpu caller call.RetInt = served (ret_int k cpu)
serve_by k cpu caller (call.LocSpn l) = served (loc_spn k cpu l)
serve_by k cpu caller (call.TrySpn l) = served (try_spn k cpu l)
serve_by k cpu caller (call.UnlSpn l) = served (unl_spn k cpu l)
serve_by k cpu caller call.GetTim = served (get_tim k)
serve_by k cpu caller (call.SetTim time) = served (set_tim k time)
serve_by k cpu caller (call.Sns what) = served (sns k cpu what)
serve_by k cpu caller (call.MgetTid on) = served (mget_tid k on)
serve_by k cpu caller (call.MrotRdq priority on) = served (mrot_rdq k caller priority on)
serve_by k cpu caller (call.RefTsk t word) = served (ref_tsk k (named caller t) word)
serve_by k cpu caller (call.RefSem s word) = served (ref_sem k s word)
serve_by k cpu caller (call.RefFlg f word) = served (ref_flg k f word)
serve_by k cpu caller (call.RefDtq q word) = served (ref_dtq k q word)
serve_by k cpu caller (call.TlocMtx m timeout) = served (tloc_mtx k caller m timeout)
serve_by k cpu caller (call.UnlMtx m) = served (unl_mtx k caller m)
serve_by k cpu caller (call.RefMtx m word) = served (ref_mtx k m word)
serve_by k cpu caller (call.TgetMpf p timeout) = served (tget_mpf k caller p timeout)
serve_by k cpu caller (call.RelMpf p block) = served (rel_mpf k p block)
serve_by k cpu caller (call.SndMbx b message priority) = served (snd_mbx k b message priority)
serve_by k cpu caller (call.TrcvMbx b timeout) = served (trcv_mbx k caller b timeout)
serve_by k cpu caller (call.RefMpf p word) = served (ref_mpf k p word)
serve_by k cpu caller (call.RefMbx b word) = served (ref_mbx k b word)
serve_by k cpu caller (call.StaCyc c) = served (sta_cyc k c)
serve_by k cpu caller (call.StpCyc c) = served (stp_cyc k c)
serve_by k cpu caller (call.StaAlm a time) = served (sta_alm k a time)
serve_by k cpu caller (call.StpAlm a) = served (stp_alm k a)
serve_by k cpu caller (call.RefCyc c word) = served (ref_cyc k c word)
serve_by k cpu caller (call.RefAlm a word) = served (ref_alm k a word)

-- the number of the running task of a processor; 0 where none runs
abbrev pub caller_on : KernelState → ℕ → ℕ
caller_on k cpu = unwrap_or (running_on k cpu) 0

-- After a call that is done each task has the current priority that it is to have.

abbrev pub prioritized_after : KernelState → Reply → KernelState
prioritized_after k (Answer code second) = prioritized k
prioritized_after k Silent = prioritized k
prioritized_after k Again = k

abbrev pub with_priorities : Result Served Ercd → Result Served Ercd
with_priorities (Ok done) = Ok (record { kernel = prioritized_after done.kernel done.reply; reply = done.reply })
with_priorities (Err code) = Err code

-- a call that comes from a processor
abbrev pub serve_of : KernelState → ℕ → Call → Served
serve_of k cpu call = or_refused k (with_priorities (serve_by k cpu (caller_on k cpu) call))

-- A call that is to be made again: loc_spn, iloc_spn of a spin lock that is held. The gate asks this before the caller
-- goes on.

abbrev pub is_there_taken : Option Spin → Bool
is_there_taken None = false
is_there_taken (Some lock) = is_taken lock

abbrev pub comes_again : KernelState → Call → Bool
comes_again k (call.LocSpn l) = not (is_no_id l) && is_there_taken (spin_of k l)
comes_again k _ = false
