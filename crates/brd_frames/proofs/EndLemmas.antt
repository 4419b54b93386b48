-- Only its own instructions and ter_tsk end a task.
use Rattle.std.proofs.Common.{◌≡◌, ℕ, Bool, true, false, not, List, [], ◌∷◌, refl, sym, ap, subst, ◌∙◌, ◌⊎◌, inl, inr}
use Rattle.std.specs.Prelude.{zero, suc, ◌==◌, if◌then◌else◌, nat_lt, slice_index_or, slice_set, Option, None, Some, is_some, is_ok, Result, Ok, Err}
use Rattle.std.specs.Option.{option_map}
use Rattle.brd_exec.specs.State.{State, advanced as exec_advanced}
use Rattle.brd_exec.specs.Step.{Ran}
use Rattle.brd_exec.specs.declared.outcome.Outcome.{Outcome}
use Rattle.brd_exec.specs.declared.outcome.Outcome.TheVariants.{Done, Syscall, Exception}
use Rattle.brd_tasks.specs.declared.status.Status.{Status}
use Rattle.brd_tasks.specs.declared.status.Status.TheVariants as status
use Rattle.brd_tasks.specs.declared.status.WaitReason.{WaitReason}
use Rattle.brd_tasks.specs.declared.status.WaitReason.TheVariants as reason
use Rattle.brd_tasks.specs.declared.status.WaitKind.TheVariants as kind
use Rattle.brd_tasks.specs.declared.task.Task.{Task}
use Rattle.brd_tasks.specs.declared.task.Request.{Request}
use Rattle.brd_tasks.specs.declared.task.Request.TheVariants.{Assigned, On}
use Rattle.brd_tasks.specs.Status.{waiting_of, is_dormant, released, blocked, suspended, resumed}
use Rattle.brd_tasks.specs.Tasks.{TaskTable, task_at, started, processor_of, where_there, starts, activated, ended_by, ended, put_into, through, released_to, released_with, changed, noted, with_priority, on_processor, with_wakeup, without_activation}
use Rattle.brd_time.specs.Time.{last_count, advanced, due_from}
use Rattle.brd_objects.specs.declared.flag.Flag.{Flag}
use Rattle.brd_objects.specs.declared.want.Want.{Want}
use Rattle.brd_objects.specs.declared.semaphore.Semaphore.{Semaphore}
use Rattle.brd_objects.specs.declared.sent.Sent.{Sent}
use Rattle.brd_objects.specs.declared.sent.Sent.TheVariants.{Handed, Stored, Full}
use Rattle.brd_objects.specs.declared.sent.Received.{Received}
use Rattle.brd_objects.specs.Table.{object_at, object_changed}
use Rattle.brd_objects.specs.Semaphores.{returned, first_waiter, has_one}
use Rattle.brd_objects.specs.Flags.{joined, pattern_for, all_released, with_all_released}
use Rattle.brd_objects.specs.DataQueues.{DataQueueState, outcome, forced, forced_outcome, received, receipt}
use Rattle.brd_objects.specs.declared.mutex.Mutex.{Mutex}
use Rattle.brd_objects.specs.Mutexes.{given, next_owner_in}
use Rattle.brd_objects.specs.Pools.{PoolState, block_for, given_back, next_holder}
use Rattle.brd_objects.specs.Mailboxes.{MailboxState, message_sent, message_outcome, next_message}
use Rattle.brd_kernel.proofs.RingLemmas.{rung-keeps}
use Rattle.brd_timers.specs.declared.timer.Timer.{Timer}
use Rattle.brd_kernel.specs.Services.{sta_cyc, stp_cyc, sta_alm, stp_alm, ref_cyc, ref_alm}
use Rattle.brd_kernel.specs.declared.processor.Processor.{Processor}
use Rattle.brd_kernel.specs.declared.processor.Spin.{Spin}
use Rattle.brd_kernel.specs.declared.processor.Executor.{Executor}
use Rattle.brd_kernel.specs.declared.processor.Executor.TheVariants as executor
use Rattle.brd_kernel.specs.declared.call.Call.{Call}
use Rattle.brd_kernel.specs.declared.call.Call.TheVariants as call
use Rattle.brd_kernel.specs.declared.call.Ercd.{Ercd}
use Rattle.brd_kernel.specs.declared.call.Ercd.TheVariants.{Rlwai}
use Rattle.brd_kernel.specs.declared.call.Reply.{Reply}
use Rattle.brd_kernel.specs.declared.call.Reply.TheVariants.{Answer, Silent, Again}
use Rattle.brd_kernel.specs.Answer.{e_ok, code_of}
use Rattle.brd_kernel.specs.Kernel.{KernelState, processor_at, with_tasks, with_processor, letting_go, executor_by, executor_in, executor_on, context_of, with_context_of, context_on, deliverable, handles, can_be_raised}
use Rattle.brd_kernel.specs.Waits.{can_wait, with_wait, due_by, due_after, released_in, reason_of, unlisted, broken_off, answer_by, timed_out, all_timed_out, faulted_task, faulted_in, with_released, given_in, all_given_in, quits_in, prioritized}
use Rattle.brd_kernel.specs.Row.{Served, served}
use Rattle.brd_kernel.specs.Services.{named, act_tsk, can_act, ext_tsk, ter_tsk, chg_pri, get_pri, mact_tsk, mig_tsk, get_pid, rot_rdq, irot_rdq, get_tid, mark_dsp, mark_cpu, tslp_tsk, wup_tsk, can_wup, rel_wai, sus_tsk, rsm_tsk, dly_tsk, sig_sem, twai_sem, set_flg, clr_flg, twai_flg, tsnd_dtq, fsnd_dtq, trcv_dtq, put_chr, ext_ker, ret_int, loc_spn, try_spn, unl_spn, get_tim, set_tim, sns, mget_tid, mrot_rdq, ref_tsk, ref_sem, ref_flg, ref_dtq, tloc_mtx, unl_mtx, ref_mtx, tget_mpf, rel_mpf, snd_mbx, trcv_mbx, ref_mpf, ref_mbx}
use Rattle.brd_kernel.specs.Services.{is_asleep, want_of, or_waits, priority_or_initial, with_all_released_in, with_satisfied_of, handed_over, with_priority_in, flag_got, queue_sent, queue_received, block_got, message_got, released_with_second, message_of, unmarked_on, is_taken, lock_taken_by, lock_given_by, serve_by, prioritized_after, with_priorities, caller_on}
use Rattle.brd_kernel.proofs.ServedLemmas.{Wanted, LeavesBy, Leaves, Passes, leaves-row, leaves-if, leaves-or_refused}
use Rattle.brd_kernel.proofs.PricedLemmas.{priced, priced_in}
use Rattle.brd_kernel.proofs.SettledLemmas.{Settles, all-given, all-prioritized}
use Rattle.brd_kernel.proofs.WalkLemmas.{in_semaphore, in_flag, in_senders, in_receivers, in_mutex, in_pool, in_mailbox}
use Rattle.brd_kernel.proofs.WaitLemmas.{unlisted-only, reordered-only}
use Rattle.brd_sysgate.specs.Gate.{read_of, written, caller_of, served_call, changed_in, with_changed_context, replied, is_again, called_in, called}
use Rattle.brd_board.specs.Executing.{executed_by, executed_in}
use Rattle.brd_board.specs.declared.event.Event.{Event}
use Rattle.brd_board.specs.declared.event.Event.TheVariants.{Step, Tick, Raise}
use Rattle.brd_board.specs.declared.event.Report.TheVariants as report
use Rattle.brd_board.specs.Board.{BoardState, Happened, reported, with_executed, instruction_done, executes_in, accepts_or_executes, stepped_in, happens_on, happens}
use Rattle.brd_frames.specs.Agents as agents
use Rattle.brd_frames.specs.Agents.{agent_by}
use Rattle.brd_frames.specs.Apart.{Terminates, Executes}
use Rattle.brd_frames.specs.Ending.{is_live, is_live_at}
use Rattle.brd_frames.proofs.ServiceLemmas.{passed-does}
use Rattle.brd_frames.proofs.CallLemmas.{exits-task, terminates-put, put-same, put-executor}
use Rattle.brd_frames.proofs.StepLemmas.{left_by, executes-on, step-calls, syscall-keeps}

-- the task of an ID is there, and isn't dormant
abbrev Lives : ℕ → TaskTable → Type 0
Lives id t = is_live (task_at t id) ≡ true

-- Tables.

pub set-cases : {X : Type 0} (xs : List X) (i j : ℕ) (x d : X) →
    ((i ≡ j) × (slice_index_or (slice_set xs i x) j d ≡ x)) ⊎ (slice_index_or (slice_set xs i x) j d ≡ slice_index_or xs j d)
set-cases [] i j x d = inr refl
set-cases (y ∷ ys) zero zero x d = inl (refl, refl)
set-cases (y ∷ ys) zero (suc j) x d = inr refl
set-cases (y ∷ ys) (suc i) zero x d = inr refl
set-cases (y ∷ ys) (suc i) (suc j) x d = elim (set-cases ys i j x d) [
  | inl both ↦ inl (ap suc both.0, both.1)
  | inr old ↦ inr old
]

-- a row that is written anew
row-lives : (id at : ℕ) (rows : List (Option Task)) (task : Task) → is_live (slice_index_or rows id None) ≡ true →
    (at ≡ id → is_live (Some task) ≡ true) → is_live (slice_index_or (slice_set rows at (Some task)) id None) ≡ true
row-lives id at rows task was new = elim (set-cases rows at id (Some task) None) [
  | inl both ↦ ap is_live both.1 ∙ new both.0
  | inr old ↦ ap is_live old ∙ was
]

where-lives : (id at : ℕ) (t : TaskTable) (row : Option Task) (change : Task → TaskTable) → Lives id t →
    ((task : Task) → row ≡ Some task → Lives id (change task)) → Lives id (where_there t row change)
where-lives id at t None change was new = was
where-lives id at t (Some task) change was new = new task refl

-- a task that is at a place, and lives there if it is the one
there-lives : (id at : ℕ) (t : TaskTable) (task : Task) → Lives id t → task_at t at ≡ Some task → at ≡ id → is_live (Some task) ≡ true
there-lives id at t task was there same = sym (ap is_live (sym (ap (task_at t) same) ∙ there)) ∙ was

never-blocked : (why : WaitReason) (s to : Status) → blocked why s ≡ Some to → is_dormant to ≡ false
never-blocked why status.Dormant to is = let wrong : ⊥ = cc in absurd wrong
never-blocked why status.Ready to is = let same : status.Waiting why ≡ to = cc in sym (ap is_dormant same)
never-blocked why (status.Waiting other) to is = let wrong : ⊥ = cc in absurd wrong
never-blocked why status.Suspended to is = let wrong : ⊥ = cc in absurd wrong
never-blocked why (status.WaitingSuspended other) to is = let wrong : ⊥ = cc in absurd wrong

never-released : (s to : Status) → released s ≡ Some to → is_dormant to ≡ false
never-released status.Dormant to is = let wrong : ⊥ = cc in absurd wrong
never-released status.Ready to is = let wrong : ⊥ = cc in absurd wrong
never-released (status.Waiting other) to is = let same : status.Ready ≡ to = cc in sym (ap is_dormant same)
never-released status.Suspended to is = let wrong : ⊥ = cc in absurd wrong
never-released (status.WaitingSuspended other) to is = let same : status.Suspended ≡ to = cc in sym (ap is_dormant same)

never-suspended : (s to : Status) → suspended s ≡ Some to → is_dormant to ≡ false
never-suspended status.Dormant to is = let wrong : ⊥ = cc in absurd wrong
never-suspended status.Ready to is = let same : status.Suspended ≡ to = cc in sym (ap is_dormant same)
never-suspended (status.Waiting why) to is = let same : status.WaitingSuspended why ≡ to = cc in sym (ap is_dormant same)
never-suspended status.Suspended to is = let wrong : ⊥ = cc in absurd wrong
never-suspended (status.WaitingSuspended other) to is = let wrong : ⊥ = cc in absurd wrong

never-resumed : (s to : Status) → resumed s ≡ Some to → is_dormant to ≡ false
never-resumed status.Dormant to is = let wrong : ⊥ = cc in absurd wrong
never-resumed status.Ready to is = let wrong : ⊥ = cc in absurd wrong
never-resumed (status.Waiting why) to is = let wrong : ⊥ = cc in absurd wrong
never-resumed status.Suspended to is = let same : status.Ready ≡ to = cc in sym (ap is_dormant same)
never-resumed (status.WaitingSuspended why) to is = let same : status.Waiting why ≡ to = cc in sym (ap is_dormant same)

put-lives : (id at : ℕ) (t : TaskTable) (task : Task) (to : Option Status) → Lives id t → ((s : Status) → to ≡ Some s → is_dormant s ≡ false) →
    Lives id (put_into t at task to)
put-lives id at t task None was never = was
put-lives id at t task (Some to) was never =
    row-lives id at t.rows (record task { status = to }) was (λ same. ap not (never to refl))

through-lives : (id at : ℕ) (transition : Status → Option Status) (t : TaskTable) → Lives id t →
    ((s to : Status) → transition s ≡ Some to → is_dormant to ≡ false) → Lives id (through transition t at)
through-lives id at transition t was never =
    where-lives id at t (task_at t at) _ was
    (λ (task : Task) there. put-lives id at t task (transition task.status) was (never task.status))

changed-lives : (id at : ℕ) (change : Task → Task) (t : TaskTable) → Lives id t → ((task : Task) → (change task).status ≡ task.status) →
    Lives id (changed change t at)
changed-lives id at change t was keeps =
    where-lives id at t (task_at t at) _ was
    (λ (task : Task) there. row-lives id at t.rows (change task) was
    (λ same. ap (λ s. not (is_dormant s)) (keeps task) ∙ there-lives id at t task was there same))

noted-lives : (id at : ℕ) (note : Task → Task) (t : TaskTable) → Lives id t → ((task : Task) → (note task).status ≡ task.status) →
    Lives id (noted note t at)
noted-lives id at note t was keeps =
    where-lives id at t (task_at t at) _ was
    (λ (task : Task) there. row-lives id at t.rows (note task) was
    (λ same. ap (λ s. not (is_dormant s)) (keeps task) ∙ there-lives id at t task was there same))

starts-lives : (id at cpu : ℕ) (t : TaskTable) (task : Task) → Lives id t → Lives id (starts t at cpu task)
starts-lives id at cpu t task was = row-lives id at t.rows (started cpu task) was (λ same. refl)

if-lives : (id : ℕ) (test : Bool) (one other : TaskTable) → Lives id one → Lives id other → Lives id (if test then one else other)
if-lives id true one other first second = first
if-lives id false one other first second = second

activated-lives : (id at : ℕ) (t : TaskTable) (request : Request) → Lives id t → Lives id (activated t at request)
activated-lives id at t request was =
    where-lives id at t (task_at t at) _ was
    (λ (task : Task) there. if-lives id (is_dormant task.status) _ _ (starts-lives id at (processor_of request task) t task was)
    (row-lives id at t.rows (record task { activation = Some request }) was (there-lives id at t task was there)))

ended-by-lives : (id at : ℕ) (t : TaskTable) (task : Task) (queued : Option Request) → Lives id t → (at ≡ id → ⊥) →
    Lives id (ended_by t at task queued)
ended-by-lives id at t task None was other = row-lives id at t.rows (record task { status = status.Dormant; wakeup = false }) was (λ same. absurd (other same))
ended-by-lives id at t task (Some request) was other = starts-lives id at (processor_of request task) t task was

ended-lives : (id at : ℕ) (t : TaskTable) → Lives id t → (at ≡ id → ⊥) → Lives id (ended t at)
ended-lives id at t was other =
    where-lives id at t (task_at t at) _ was (λ (task : Task) there. ended-by-lives id at t task task.activation was other)

released-to-lives : (id at answer : ℕ) (t : TaskTable) (second : Option ℕ) (task : Task) (to : Option Status) → Lives id t →
    ((s : Status) → to ≡ Some s → is_dormant s ≡ false) → Lives id (released_to t at answer second task to)
released-to-lives id at answer t second task None was never = was
released-to-lives id at answer t second task (Some to) was never =
    row-lives id at t.rows (record task { status = to }) was (λ same. ap not (never to refl))

released-lives : (id at answer : ℕ) (t : TaskTable) (second : Option ℕ) → Lives id t → Lives id (released_with t at answer second)
released-lives id at answer t second was =
    where-lives id at t (task_at t at) _ was
    (λ (task : Task) there. released-to-lives id at answer t second task (released task.status) was (never-released task.status))

-- Kernels.

abbrev LivesIn : ℕ → KernelState → Type 0
LivesIn id k = Lives id k.tasks

unlisted-lives : (id at : ℕ) (k : KernelState) → LivesIn id k → LivesIn id (unlisted k at)
unlisted-lives id at k was = subst (Lives id) (sym (unlisted-only k at (reason_of k at)).tasks) was

broken-lives : (id at answer : ℕ) (k : KernelState) → LivesIn id k → LivesIn id (broken_off k at answer)
broken-lives id at answer k was = released-lives id at answer (unlisted k at).tasks None (unlisted-lives id at k was)

all-timed-lives : (id : ℕ) (k : KernelState) (ids : List ℕ) → LivesIn id k → LivesIn id (all_timed_out k ids)
all-timed-lives id k [] was = was
all-timed-lives id k (at ∷ ids) was = all-timed-lives id (timed_out k at) ids (broken-lives id at (answer_by (reason_of k at)) k was)

if-lives-in : (id : ℕ) (test : Bool) (one other : KernelState) → LivesIn id one → LivesIn id other → LivesIn id (if test then one else other)
if-lives-in id true one other first second = first
if-lives-in id false one other first second = second

wait-lives : (id at : ℕ) (k : KernelState) (why : WaitReason) (due : Option ℕ) (entered : KernelState) → LivesIn id k →
    LivesIn id (with_wait k at why due entered)
wait-lives id at k why due entered was =
    if-lives-in id (can_wait (task_at k.tasks at)) _ k (through-lives id at (blocked why) k.tasks was (never-blocked why)) was

released-if-lives : (id : ℕ) (k : KernelState) (first : Option ℕ) → LivesIn id k → LivesIn id (with_released k first)
released-if-lives id k None was = was
released-if-lives id k (Some at) was = released-lives id at e_ok k.tasks None was

all-released-lives : (id : ℕ) (k : KernelState) (ids : List ℕ) (second : ℕ) → LivesIn id k → LivesIn id (with_all_released_in k ids second)
all-released-lives id k [] second was = was
all-released-lives id k (at ∷ ids) second was =
    all-released-lives id (released_in k at e_ok (Some second)) ids second (released-lives id at e_ok k.tasks (Some second) was)

satisfied-lives : (id : ℕ) (k : KernelState) (at : ℕ) (found : Option Flag) → LivesIn id k → LivesIn id (with_satisfied_of k at found)
satisfied-lives id k at None was = was
satisfied-lives id k at (Some flag) was =
    all-released-lives id (record k { flags = object_changed with_all_released k.flags at }) (all_released flag) flag.pattern was

handed-lives : (id : ℕ) (k : KernelState) (datum : ℕ) (what : Sent) → LivesIn id k → LivesIn id (handed_over k datum what)
handed-lives id k datum (Handed at) was = released-lives id at e_ok k.tasks (Some datum) was
handed-lives id k datum Stored was = was
handed-lives id k datum Full was = was

prioritized-lives : (id at priority : ℕ) (k : KernelState) (why : Option WaitReason) → LivesIn id k → LivesIn id (with_priority_in k at priority why)
prioritized-lives id at priority k why was =
    let new : KernelState = with_tasks k (changed (with_priority priority) k.tasks at) in
    subst (Lives id) (sym (reordered-only new at priority why).tasks) (changed-lives id at (with_priority priority) k.tasks was (λ task. refl))

-- Mutexes and priorities.

given-lives-in : (id : ℕ) (k : KernelState) (at : ℕ) → LivesIn id k → LivesIn id (given_in k at)
given-lives-in id k at was =
    released-if-lives id (record k { mutexes = object_changed given k.mutexes at }) (next_owner_in (object_at k.mutexes at)) was

priced-lives : (id : ℕ) (k : KernelState) (base : Task → ℕ) (at priority : ℕ) (why : Option WaitReason) → LivesIn id k →
    LivesIn id (priced_in k base at priority why)
priced-lives id k base at priority why was =
    let new : KernelState = with_tasks k (changed (priced base priority) k.tasks at) in
    subst (Lives id) (sym (reordered-only new at priority why).tasks) (changed-lives id at (priced base priority) k.tasks was (λ task. refl))

lives-settle : (id : ℕ) → Settles (LivesIn id)
lives-settle id = record {
  gives = λ k at m there was. given-lives-in id k at was;
  prices = λ k base at priority (task : Task) there was. priced-lives id k base at priority (waiting_of task.status) was;
}

quits-lives : (id at : ℕ) (k : KernelState) → LivesIn id k → (at ≡ id → ⊥) → LivesIn id (quits_in k at)
quits-lives id at k was other = ended-lives id at (all_given_in k at).tasks (all-given (LivesIn id) k at (lives-settle id) was) other

all-prioritized-lives : (id : ℕ) (k : KernelState) → LivesIn id k → LivesIn id (prioritized k)
all-prioritized-lives id k was = all-prioritized (LivesIn id) k (lives-settle id) was

second-lives : (id : ℕ) (k : KernelState) (second : ℕ) (first : Option ℕ) → LivesIn id k → LivesIn id (released_with_second k second first)
second-lives id k second None was = was
second-lives id k second (Some at) was = released-lives id at e_ok k.tasks (Some second) was

unmarked-lives : (id : ℕ) (k : KernelState) (cpu : ℕ) (found : Option Processor) → LivesIn id k → LivesIn id (unmarked_on k cpu found)
unmarked-lives id k cpu None was = was
unmarked-lives id k cpu (Some p) was = was

taken-lives : (id : ℕ) (k : KernelState) (cpu lock : ℕ) (found : Option Processor) → LivesIn id k → LivesIn id (lock_taken_by k cpu lock found)
taken-lives id k cpu lock None was = was
taken-lives id k cpu lock (Some p) was = was

given-lives : (id : ℕ) (k : KernelState) (cpu : ℕ) (found : Option Processor) → LivesIn id k → LivesIn id (lock_given_by k cpu found)
given-lives id k cpu None was = was
given-lives id k cpu (Some p) was = was

-- Calls.

abbrev Living : ℕ → Wanted
Living id = record { kernel = LivesIn id; again = Unit {0} }

or-waits-live : (id : ℕ) (k : KernelState) (caller : ℕ) (why : WaitReason) (timeout : ℕ) (entered : KernelState) → LivesIn id k →
    Leaves (Living id) (or_waits k caller why timeout entered)
or-waits-live id k caller why timeout entered was =
    leaves-if (Living id) (timeout == 0) _ _ (λ poll. tt) (λ long. wait-lives id caller k why (due_by k timeout) entered was)

got-lives : (id : ℕ) (k : KernelState) (caller at timeout : ℕ) (want : Want) (pattern : Option ℕ) → LivesIn id k →
    Leaves (Living id) (flag_got k caller at want timeout pattern)
got-lives id k caller at timeout want (Some pattern) was = was
got-lives id k caller at timeout want None was = or-waits-live id k caller (reason.On kind.Flag at) timeout (in_flag k caller at want) was

sent-lives : (id : ℕ) (k : KernelState) (caller at datum timeout : ℕ) (what : Sent) → LivesIn id k →
    Leaves (Living id) (queue_sent k caller at datum timeout what)
sent-lives id k caller at datum timeout (Handed task) was = released-lives id task e_ok k.tasks (Some datum) was
sent-lives id k caller at datum timeout Stored was = was
sent-lives id k caller at datum timeout Full was = or-waits-live id k caller (reason.On kind.Room at) timeout (in_senders k caller at datum) was

received-lives : (id : ℕ) (k : KernelState) (caller at timeout : ℕ) (it : Option Received) → LivesIn id k →
    Leaves (Living id) (queue_received k caller at timeout it)
received-lives id k caller at timeout (Some it) was = released-if-lives id (record k { queues = object_changed received k.queues at }) it.sender was
received-lives id k caller at timeout None was = or-waits-live id k caller (reason.On kind.Datum at) timeout (in_receivers k caller at) was

block-lives : (id : ℕ) (k : KernelState) (caller at timeout : ℕ) (block : Option ℕ) → LivesIn id k →
    Leaves (Living id) (block_got k caller at timeout block)
block-lives id k caller at timeout (Some block) was = was
block-lives id k caller at timeout None was = or-waits-live id k caller (reason.On kind.Block at) timeout (in_pool k caller at) was

message-lives : (id : ℕ) (k : KernelState) (caller at timeout : ℕ) (message : Option ℕ) → LivesIn id k →
    Leaves (Living id) (message_got k caller at timeout message)
message-lives id k caller at timeout (Some message) was = was
message-lives id k caller at timeout None was = or-waits-live id k caller (reason.On kind.Message at) timeout (in_mailbox k caller at) was

-- a call that isn't the task's own ext_tsk, and no ter_tsk of it that is served
record Spares (k : KernelState) (cpu caller : ℕ) (c : Call) (id : ℕ) : Type 0 where
  exits : c ≡ call.ExtTsk → caller ≡ id → ⊥
  ends : c ≡ call.TerTsk id → is_ok (served (ter_tsk k cpu caller id)) ≡ true → ⊥

passes-ok : (k : KernelState) (cpu caller at : ℕ) (task : Task) → Passes (ter_tsk k cpu caller at) task →
    is_ok (served (ter_tsk k cpu caller at)) ≡ true
passes-ok k cpu caller at task passes =
    ap is_ok (passed-does (ter_tsk k cpu caller at) task (record {
      id = passes.id;
      par = passes.par;
      there = passes.there;
      iluse = passes.iluse;
      obj = passes.obj;
      qovr = refl;
    }))

serve-lives : (id : ℕ) (k : KernelState) (cpu caller : ℕ) (c : Call) → Spares k cpu caller c id → LivesIn id k →
    Leaves (Living id) (serve_by k cpu caller c)
serve-lives id k cpu caller (call.ActTsk t) spares was =
    leaves-row (Living id) (act_tsk k (named caller t)) (λ task passes. activated-lives id (named caller t) k.tasks Assigned was)
serve-lives id k cpu caller (call.IactTsk t) spares was =
    leaves-row (Living id) (act_tsk k t) (λ task passes. activated-lives id t k.tasks Assigned was)
serve-lives id k cpu caller (call.CanAct t) spares was =
    leaves-row (Living id) (can_act k (named caller t)) (λ task passes. noted-lives id (named caller t) without_activation k.tasks was (λ it. refl))
serve-lives id k cpu caller call.ExtTsk spares was =
    leaves-row (Living id) (ext_tsk k cpu caller) (λ task passes.
    unmarked-lives id (quits_in k caller) cpu (processor_at k cpu) (quits-lives id caller k was (spares.exits refl)))
serve-lives id k cpu caller (call.TerTsk t) spares was =
    leaves-row (Living id) (ter_tsk k cpu caller t) (λ task passes.
    quits-lives id t k was (λ same.
    spares.ends (ap call.TerTsk same) (subst (λ x. is_ok (served (ter_tsk k cpu caller x)) ≡ true) same (passes-ok k cpu caller t task passes))))
serve-lives id k cpu caller (call.ChgPri t priority) spares was =
    leaves-row (Living id) (chg_pri k (named caller t) priority) (λ (task : Task) passes.
    prioritized-lives id (named caller t) (priority_or_initial priority task) k (waiting_of task.status) was)
serve-lives id k cpu caller (call.GetPri t) spares was = leaves-row (Living id) (get_pri k (named caller t)) (λ task passes. was)
serve-lives id k cpu caller (call.MactTsk t to) spares was =
    leaves-row (Living id) (mact_tsk k (named caller t) to) (λ task passes. activated-lives id (named caller t) k.tasks (On to) was)
serve-lives id k cpu caller (call.ImactTsk t to) spares was =
    leaves-row (Living id) (mact_tsk k t to) (λ task passes. activated-lives id t k.tasks (On to) was)
serve-lives id k cpu caller (call.MigTsk t to) spares was =
    leaves-row (Living id) (mig_tsk k cpu (named caller t) to) (λ task passes.
    changed-lives id (named caller t) (on_processor to) k.tasks was (λ it. refl))
serve-lives id k cpu caller call.GetPid spares was = leaves-row (Living id) (get_pid k cpu) (λ x passes. was)
serve-lives id k cpu caller (call.RotRdq priority) spares was = leaves-row (Living id) (rot_rdq k cpu caller priority) (λ p passes. was)
serve-lives id k cpu caller (call.IrotRdq priority) spares was = leaves-row (Living id) (irot_rdq k cpu priority) (λ p passes. was)
serve-lives id k cpu caller call.GetTid spares was = leaves-row (Living id) (get_tid k caller) (λ x passes. was)
serve-lives id k cpu caller call.DisDsp spares was = leaves-row (Living id) (mark_dsp k cpu true) (λ p passes. was)
serve-lives id k cpu caller call.EnaDsp spares was = leaves-row (Living id) (mark_dsp k cpu false) (λ p passes. was)
serve-lives id k cpu caller call.LocCpu spares was = leaves-row (Living id) (mark_cpu k cpu true) (λ p passes. was)
serve-lives id k cpu caller call.UnlCpu spares was = leaves-row (Living id) (mark_cpu k cpu false) (λ p passes. was)
serve-lives id k cpu caller (call.TslpTsk timeout) spares was =
    leaves-row (Living id) (tslp_tsk k caller timeout) (λ (task : Task) passes.
    leaves-if (Living id) task.wakeup _ _ (λ queued. noted-lives id caller (with_wakeup false) k.tasks was (λ it. refl))
    (λ none. or-waits-live id k caller reason.Sleep timeout k was))
serve-lives id k cpu caller (call.WupTsk t) spares was =
    leaves-row (Living id) (wup_tsk k (named caller t)) (λ (task : Task) passes.
    leaves-if (Living id) (is_asleep task.status) _ _ (λ asleep. released-lives id (named caller t) e_ok k.tasks None was)
    (λ awake. noted-lives id (named caller t) (with_wakeup true) k.tasks was (λ it. refl)))
serve-lives id k cpu caller (call.IwupTsk t) spares was =
    leaves-row (Living id) (wup_tsk k t) (λ (task : Task) passes.
    leaves-if (Living id) (is_asleep task.status) _ _ (λ asleep. released-lives id t e_ok k.tasks None was)
    (λ awake. noted-lives id t (with_wakeup true) k.tasks was (λ it. refl)))
serve-lives id k cpu caller (call.CanWup t) spares was =
    leaves-row (Living id) (can_wup k (named caller t)) (λ task passes.
    noted-lives id (named caller t) (with_wakeup false) k.tasks was (λ it. refl))
serve-lives id k cpu caller (call.RelWai t) spares was =
    leaves-row (Living id) (rel_wai k t) (λ task passes. broken-lives id t (code_of Rlwai) k was)
serve-lives id k cpu caller (call.SusTsk t) spares was =
    leaves-row (Living id) (sus_tsk k cpu (named caller t)) (λ task passes.
    through-lives id (named caller t) suspended k.tasks was never-suspended)
serve-lives id k cpu caller (call.RsmTsk t) spares was =
    leaves-row (Living id) (rsm_tsk k t) (λ task passes. through-lives id t resumed k.tasks was never-resumed)
serve-lives id k cpu caller (call.DlyTsk time) spares was =
    leaves-row (Living id) (dly_tsk k caller time) (λ task passes. wait-lives id caller k reason.Delay (Some (due_after k time)) k was)
serve-lives id k cpu caller (call.SigSem s) spares was =
    leaves-row (Living id) (sig_sem k s) (λ (it : Semaphore) passes.
    released-if-lives id (record k { semaphores = object_changed returned k.semaphores s }) (first_waiter it) was)
serve-lives id k cpu caller (call.TwaiSem s timeout) spares was =
    leaves-row (Living id) (twai_sem k caller s timeout) (λ (it : Semaphore) passes.
    leaves-if (Living id) (has_one it) _ _ (λ one. was) (λ none. or-waits-live id k caller (reason.On kind.Semaphore s) timeout (in_semaphore k caller s) was))
serve-lives id k cpu caller (call.SetFlg flag bits) spares was =
    leaves-row (Living id) (set_flg k flag bits) (λ it passes.
    let new : KernelState = record k { flags = object_changed (joined bits) k.flags flag } in
    satisfied-lives id new flag (object_at new.flags flag) was)
serve-lives id k cpu caller (call.ClrFlg flag bits) spares was = leaves-row (Living id) (clr_flg k flag bits) (λ it passes. was)
serve-lives id k cpu caller (call.TwaiFlg flag bits mode timeout) spares was =
    leaves-row (Living id) (twai_flg k caller flag bits mode timeout) (λ (it : Flag) passes.
    got-lives id k caller flag timeout (want_of bits mode) (pattern_for (want_of bits mode) it) was)
serve-lives id k cpu caller (call.TsndDtq q datum timeout) spares was =
    leaves-row (Living id) (tsnd_dtq k caller q datum timeout) (λ (it : DataQueueState) passes.
    sent-lives id k caller q datum timeout (outcome it) was)
serve-lives id k cpu caller (call.FsndDtq q datum) spares was =
    leaves-row (Living id) (fsnd_dtq k q datum) (λ (it : DataQueueState) passes.
    handed-lives id (record k { queues = object_changed (forced datum) k.queues q }) datum (forced_outcome it) was)
serve-lives id k cpu caller (call.TrcvDtq q timeout) spares was =
    leaves-row (Living id) (trcv_dtq k caller q timeout) (λ (it : DataQueueState) passes.
    received-lives id k caller q timeout (receipt it) was)
serve-lives id k cpu caller (call.PutChr word) spares was = leaves-row (Living id) (put_chr k word) (λ x passes. was)
serve-lives id k cpu caller call.ExtKer spares was = leaves-row (Living id) (ext_ker k) (λ x passes. was)
serve-lives id k cpu caller call.RetInt spares was = leaves-row (Living id) (ret_int k cpu) (λ p passes. was)
serve-lives id k cpu caller (call.LocSpn l) spares was =
    leaves-row (Living id) (loc_spn k cpu l) (λ (lock : Spin) passes.
    leaves-if (Living id) (is_taken lock) _ _ (λ held. (tt, was)) (λ none. taken-lives id k cpu l (processor_at k cpu) was))
serve-lives id k cpu caller (call.TrySpn l) spares was =
    leaves-row (Living id) (try_spn k cpu l) (λ lock passes. taken-lives id k cpu l (processor_at k cpu) was)
serve-lives id k cpu caller (call.UnlSpn l) spares was =
    leaves-row (Living id) (unl_spn k cpu l) (λ lock passes. given-lives id k cpu (processor_at k cpu) was)
serve-lives id k cpu caller call.GetTim spares was = leaves-row (Living id) (get_tim k) (λ x passes. was)
serve-lives id k cpu caller (call.SetTim time) spares was = leaves-row (Living id) (set_tim k time) (λ x passes. was)
serve-lives id k cpu caller (call.Sns what) spares was = leaves-row (Living id) (sns k cpu what) (λ p passes. was)
serve-lives id k cpu caller (call.MgetTid on) spares was = leaves-row (Living id) (mget_tid k on) (λ p passes. was)
serve-lives id k cpu caller (call.MrotRdq priority on) spares was = leaves-row (Living id) (mrot_rdq k caller priority on) (λ p passes. was)
serve-lives id k cpu caller (call.RefTsk t word) spares was = leaves-row (Living id) (ref_tsk k (named caller t) word) (λ task passes. was)
serve-lives id k cpu caller (call.RefSem s word) spares was = leaves-row (Living id) (ref_sem k s word) (λ (it : Semaphore) passes. was)
serve-lives id k cpu caller (call.RefFlg flag word) spares was = leaves-row (Living id) (ref_flg k flag word) (λ (it : Flag) passes. was)
serve-lives id k cpu caller (call.RefDtq q word) spares was = leaves-row (Living id) (ref_dtq k q word) (λ (it : DataQueueState) passes. was)
serve-lives id k cpu caller (call.TlocMtx m timeout) spares was =
    leaves-row (Living id) (tloc_mtx k caller m timeout) (λ (it : Mutex) passes.
    leaves-if (Living id) (is_some it.owner) _ _
    (λ held. or-waits-live id k caller (reason.On kind.Mutex m) timeout (in_mutex k caller m) was) (λ none. was))
serve-lives id k cpu caller (call.UnlMtx m) spares was =
    leaves-row (Living id) (unl_mtx k caller m) (λ (it : Mutex) passes. given-lives-in id k m was)
serve-lives id k cpu caller (call.RefMtx m word) spares was = leaves-row (Living id) (ref_mtx k m word) (λ (it : Mutex) passes. was)
serve-lives id k cpu caller (call.TgetMpf p timeout) spares was =
    leaves-row (Living id) (tget_mpf k caller p timeout) (λ (it : PoolState) passes. block-lives id k caller p timeout (block_for it) was)
serve-lives id k cpu caller (call.RelMpf p block) spares was =
    leaves-row (Living id) (rel_mpf k p block) (λ (it : PoolState) passes.
    second-lives id (record k { pools = object_changed (given_back block) k.pools p }) block (next_holder block it) was)
serve-lives id k cpu caller (call.SndMbx b address priority) spares was =
    leaves-row (Living id) (snd_mbx k b address priority) (λ (it : MailboxState) passes.
    handed-lives id (record k { mailboxes = object_changed (message_sent (message_of address priority)) k.mailboxes b }) address (message_outcome it) was)
serve-lives id k cpu caller (call.TrcvMbx b timeout) spares was =
    leaves-row (Living id) (trcv_mbx k caller b timeout) (λ (it : MailboxState) passes. message-lives id k caller b timeout (next_message it) was)
serve-lives id k cpu caller (call.RefMpf p word) spares was = leaves-row (Living id) (ref_mpf k p word) (λ (it : PoolState) passes. was)
serve-lives id k cpu caller (call.RefMbx b word) spares was = leaves-row (Living id) (ref_mbx k b word) (λ (it : MailboxState) passes. was)
serve-lives id k cpu caller (call.StaCyc c) spares was = leaves-row (Living id) (sta_cyc k c) (λ (it : Timer) passes. was)
serve-lives id k cpu caller (call.StpCyc c) spares was = leaves-row (Living id) (stp_cyc k c) (λ (it : Timer) passes. was)
serve-lives id k cpu caller (call.StaAlm a time) spares was = leaves-row (Living id) (sta_alm k a time) (λ (it : Timer) passes. was)
serve-lives id k cpu caller (call.StpAlm a) spares was = leaves-row (Living id) (stp_alm k a) (λ (it : Timer) passes. was)
serve-lives id k cpu caller (call.RefCyc c word) spares was = leaves-row (Living id) (ref_cyc k c word) (λ (it : Timer) passes. was)
serve-lives id k cpu caller (call.RefAlm a word) spares was = leaves-row (Living id) (ref_alm k a word) (λ (it : Timer) passes. was)

-- Then tasks are given the priorities that they are to have.

after-lives : (id : ℕ) (k : KernelState) (reply : Reply) → LeavesBy (Living id) k reply → LeavesBy (Living id) (prioritized_after k reply) reply
after-lives id k (Answer code second) leaves = all-prioritized-lives id k leaves
after-lives id k Silent leaves = all-prioritized-lives id k leaves
after-lives id k Again leaves = leaves

priorities-live : (id : ℕ) (says : Result Served Ercd) → Leaves (Living id) says → Leaves (Living id) (with_priorities says)
priorities-live id (Ok done) leaves = after-lives id done.kernel done.reply leaves
priorities-live id (Err code) leaves = tt

-- A SYSCALL.

put-context-lives : (id : ℕ) (k : KernelState) (cpu : ℕ) (who : Executor) (s : State) → LivesIn id k → LivesIn id (with_context_of k cpu who s)
put-context-lives id k cpu executor.Handler s was = was
put-context-lives id k cpu (executor.Task at) s was = was

changed-context-lives : (id : ℕ) (change : State → State) (k : KernelState) (cpu : ℕ) (who : Option Executor) → LivesIn id k →
    LivesIn id (changed_in change k cpu who)
changed-context-lives id change k cpu None was = was
changed-context-lives id change k cpu (Some who) was = put-context-lives id k cpu who (change (context_of k cpu who)) was

-- of a processor on which another one executes, and whose ter_tsk of the task isn't served
record CallSpares (k : KernelState) (cpu id : ℕ) : Type 0 where
  other : executor_on k cpu ≡ Some (executor.Task id) → ⊥
  ends : (s : State) → context_on k cpu ≡ Some s → read_of s (caller_of k cpu) ≡ Ok (call.TerTsk id) →
      is_ok (served (ter_tsk k cpu (caller_on k cpu) id)) ≡ true → ⊥

served-lives : (id : ℕ) (k : KernelState) (cpu : ℕ) (who : Executor) (s : State) (asks : Result Call Ercd) → CallSpares k cpu id →
    executor_on k cpu ≡ Some who → context_on k cpu ≡ Some s → read_of s (caller_of k cpu) ≡ asks → LivesIn id k → (next : State) →
    LivesIn id (served_call (with_context_of k cpu who next) cpu asks).kernel
served-lives id k cpu who s (Err code) spares on there asks was next = put-context-lives id k cpu who next was
served-lives id k cpu who s (Ok c) spares on there asks was next =
    let now : KernelState = with_context_of k cpu who next in
    let here : Spares now cpu (caller_on now cpu) c id = record {
      exits = λ is same. spares.other (exits-task k cpu who next s c id on asks is same);
      ends = λ is serves. spares.ends s there (asks ∙ ap (λ x. Ok x) is) (terminates-put k cpu who next id ∙ serves);
    } in
    leaves-or_refused (Living id) now (with_priorities (serve_by now cpu (caller_on now cpu) c)) (put-context-lives id k cpu who next was)
    (priorities-live id (serve_by now cpu (caller_on now cpu) c)
    (serve-lives id now cpu (caller_on now cpu) c here (put-context-lives id k cpu who next was)))

called-in-lives : (id : ℕ) (k : KernelState) (cpu : ℕ) (who : Option Executor) → CallSpares k cpu id → executor_on k cpu ≡ who → LivesIn id k →
    LivesIn id (called_in k cpu (caller_of k cpu) (option_map (context_of k cpu) who))
called-in-lives id k cpu None spares on was = was
called-in-lives id k cpu (Some who) spares on was =
    let s : State = context_of k cpu who in
    let asks : Result Call Ercd = read_of s (caller_of k cpu) in
    let done : Served = served_call (with_changed_context exec_advanced k cpu) cpu asks in
    if-lives-in id (is_again k asks) k (replied cpu done) was
    (changed-context-lives id (λ c. written c done.reply) done.kernel cpu (executor_on done.kernel cpu)
    (subst (λ by. LivesIn id (served_call (changed_in exec_advanced k cpu by) cpu asks).kernel) (sym on)
    (served-lives id k cpu who s asks spares on (ap (option_map (context_of k cpu)) on) refl was (exec_advanced s))))

called-lives : (id : ℕ) (k : KernelState) (cpu : ℕ) → CallSpares k cpu id → LivesIn id k → LivesIn id (called k cpu)
unfolding called
called-lives id k cpu spares was = called-in-lives id k cpu (executor_on k cpu) spares refl was

-- Exceptions.

faulted-task-lives : (id : ℕ) (k : KernelState) (cpu : ℕ) (p : Processor) (running : Option ℕ) → (running ≡ Some id → ⊥) → LivesIn id k →
    LivesIn id (faulted_task k cpu p running)
faulted-task-lives id k cpu p None other was = was
faulted-task-lives id k cpu p (Some at) other was =
    quits-lives id at (with_tasks k (noted without_activation k.tasks at)) (noted-lives id at without_activation k.tasks was (λ task. refl))
    (λ same. other (ap Some same))

faulted-by-lives : (id : ℕ) (k : KernelState) (cpu : ℕ) (p : Processor) (handling : Option ℕ) → p.handling ≡ handling →
    (executor_by p.running handling ≡ Some (executor.Task id) → ⊥) → LivesIn id k →
    LivesIn id (if is_some handling then with_processor k cpu (record (letting_go p) { stopped = true }) else faulted_task k cpu p p.running)
faulted-by-lives id k cpu p (Some line) is other was = was
faulted-by-lives id k cpu p None is other was = faulted-task-lives id k cpu p p.running (λ runs. other (ap (λ running. executor_by running None) runs)) was

faulted-lives : (id : ℕ) (k : KernelState) (cpu : ℕ) (found : Option Processor) → ((p : Processor) → found ≡ Some p → p.stopped ≡ false) →
    (executor_in found ≡ Some (executor.Task id) → ⊥) → LivesIn id k → LivesIn id (faulted_in k cpu found)
faulted-lives id k cpu None on other was = was
faulted-lives id k cpu (Some p) on other was =
    faulted-by-lives id k cpu p p.handling refl
    (λ is. other (ap (λ test. if test then None else executor_by p.running p.handling) (on p refl) ∙ is)) was

-- Instructions.

done-lives : (id : ℕ) (b : BoardState) (cpu at : ℕ) (outcome : Outcome) → (outcome ≡ Syscall → CallSpares b.kernel cpu id) →
    (executor_on b.kernel cpu ≡ Some (executor.Task id) → ⊥) → ((p : Processor) → processor_at b.kernel cpu ≡ Some p → p.stopped ≡ false) →
    LivesIn id b.kernel → LivesIn id (instruction_done b cpu at outcome).board.kernel
done-lives id b cpu at Done spares other on was = was
done-lives id b cpu at Syscall spares other on was = called-lives id b.kernel cpu (spares refl) was
done-lives id b cpu at (Exception code epc bd) spares other on was =
    all-prioritized-lives id (faulted_in b.kernel cpu (processor_at b.kernel cpu))
    (faulted-lives id b.kernel cpu (processor_at b.kernel cpu) on other was)

put-processor : (k : KernelState) (cpu other : ℕ) (who : Executor) (s : State) →
    processor_at (with_context_of k cpu who s) other ≡ processor_at k other
put-processor k cpu other executor.Handler s = refl
put-processor k cpu other (executor.Task id) s = refl

isnt-stopped : (k : KernelState) (cpu : ℕ) (who : Executor) (p : Processor) → executor_on k cpu ≡ Some who → processor_at k cpu ≡ Some p →
    p.stopped ≡ false
isnt-stopped k cpu who p on there =
    let it = executes-on (processor_at k cpu) who on in
    let both : Some it.0 ≡ Some p = sym it.1 ∙ there in
    let same : it.0 ≡ p = cc in
    ap (λ (x : Processor). x.stopped) (sym same) ∙ it.2

-- a step in which the task doesn't execute, and which doesn't terminate it
record StepSpares (b : BoardState) (cpu id : ℕ) : Type 0 where
  other : executor_on b.kernel cpu ≡ Some (executor.Task id) → deliverable b.kernel cpu ≡ None → ⊥
  ends : (who : Executor) → executor_on b.kernel cpu ≡ Some who → deliverable b.kernel cpu ≡ None → (left_by b cpu who).outcome ≡ Syscall →
      read_of (context_of b.kernel cpu who) (caller_of b.kernel cpu) ≡ Ok (call.TerTsk id) →
      is_ok (served (ter_tsk b.kernel cpu (caller_on b.kernel cpu) id)) ≡ true → ⊥

context-is : (k : KernelState) (cpu : ℕ) (who : Executor) (s : State) → executor_on k cpu ≡ Some who → context_on k cpu ≡ Some s →
    s ≡ context_of k cpu who
context-is k cpu who s on is =
    let both : Some (context_of k cpu who) ≡ Some s = sym (ap (option_map (context_of k cpu)) on) ∙ is in
    cc

call-spares : (b : BoardState) (cpu id : ℕ) (who : Executor) → StepSpares b cpu id → executor_on b.kernel cpu ≡ Some who →
    deliverable b.kernel cpu ≡ None → (left_by b cpu who).outcome ≡ Syscall → CallSpares b.kernel cpu id
call-spares b cpu id who spares on none calls = record {
  other = λ is. spares.other is none;
  ends = λ s there asks serves.
      spares.ends who on none calls
      (subst (λ c. read_of c (caller_of b.kernel cpu) ≡ Ok (call.TerTsk id)) (context-is b.kernel cpu who s on there) asks) serves;
}

executes-lives : (id : ℕ) (b : BoardState) (cpu : ℕ) (by : Option Executor) → StepSpares b cpu id → executor_on b.kernel cpu ≡ by →
    deliverable b.kernel cpu ≡ None → LivesIn id b.kernel →
    LivesIn id (executes_in b cpu (executed_in b.kernel cpu b.memory b.links by)).board.kernel
executes-lives id b cpu None spares on none was = was
executes-lives id b cpu (Some who) spares on none was =
    let k : KernelState = b.kernel in
    let s : State = context_of k cpu who in
    let left : Ran = left_by b cpu who in
    done-lives id (with_executed b (executed_by k cpu who s.pc left)) cpu s.pc left.outcome
    (λ calls. subst (λ now. CallSpares now cpu id)
    (sym (ap (with_context_of k cpu who) (syscall-keeps b cpu who calls) ∙ put-same k cpu who)) (call-spares b cpu id who spares on none calls))
    (λ is. spares.other (sym (put-executor k cpu cpu who left.state) ∙ is) none)
    (λ p there. isnt-stopped k cpu who p on (sym (put-processor k cpu cpu who left.state) ∙ there))
    (put-context-lives id k cpu who left.state was)

handles-lives : (id : ℕ) (k : KernelState) (cpu line : ℕ) (found : Option Processor) → LivesIn id k → LivesIn id (handles k cpu line found)
handles-lives id k cpu line None was = was
handles-lives id k cpu line (Some p) was = was

accepts-lives : (id : ℕ) (b : BoardState) (cpu : ℕ) (line : Option ℕ) → StepSpares b cpu id → deliverable b.kernel cpu ≡ line →
    LivesIn id b.kernel → LivesIn id (accepts_or_executes b cpu line).board.kernel
accepts-lives id b cpu None spares is was = executes-lives id b cpu (executor_on b.kernel cpu) spares refl is was
accepts-lives id b cpu (Some line) spares is was = handles-lives id b.kernel cpu line (processor_at b.kernel cpu) was

either-lives : (id : ℕ) (test : Bool) (one other : Happened) → LivesIn id one.board.kernel → LivesIn id other.board.kernel →
    LivesIn id (if test then one else other).board.kernel
either-lives id true one other first second = first
either-lives id false one other first second = second

stepped-lives : (id : ℕ) (b : BoardState) (cpu : ℕ) (found : Option Processor) → StepSpares b cpu id → LivesIn id b.kernel →
    LivesIn id (stepped_in b cpu found).board.kernel
stepped-lives id b cpu None spares was = was
stepped-lives id b cpu (Some p) spares was =
    either-lives id p.stopped _ _ was (accepts-lives id b cpu (deliverable b.kernel cpu) spares refl was)

step-spares : (b : BoardState) (cpu id : ℕ) → b.kernel.off ≡ false → (Executes b (Step cpu) (agents.Task id) → ⊥) →
    (Terminates b (Step cpu) id → ⊥) → StepSpares b cpu id
step-spares b cpu id off other never = record {
  other = λ on none. other (record { cpu = cpu; steps = refl; executes = ap (option_map (agent_by cpu)) on; uninterrupted = none });
  ends = λ who on none calls asks serves.
      never (record {
        cpu = cpu;
        steps = refl;
        calls = record {
          context = context_of b.kernel cpu who;
          address = (context_of b.kernel cpu who).pc;
          executes = ap (option_map (context_of b.kernel cpu)) on;
          steps = step-calls b cpu who off on none calls;
          asks = asks;
        };
        serves = serves;
      });
}

on-lives : (id : ℕ) (b : BoardState) (event : Event) → b.kernel.off ≡ false → (Executes b event (agents.Task id) → ⊥) →
    (Terminates b event id → ⊥) → LivesIn id b.kernel → LivesIn id (happens_on b event).board.kernel
on-lives id b (Step cpu) off other never was =
    stepped-lives id b cpu (processor_at b.kernel cpu) (step-spares b cpu id off other never) was
on-lives id b Tick off other never was =
    let now : KernelState = record b.kernel { time = advanced b.kernel.time } in
    let ids : List ℕ = due_from (advanced b.kernel.time) 0 in
    either-lives id (nat_lt b.kernel.time.count last_count) _ _
    (rung-keeps (LivesIn id) (prioritized (all_timed_out now ids)) (λ x timers lines lives. lives)
    (all-prioritized-lives id (all_timed_out now ids) (all-timed-lives id now ids was))) was
on-lives id b (Raise line) off other never was = either-lives id (can_be_raised b.kernel line) _ _ was was

off-lives : (id : ℕ) (b : BoardState) (event : Event) (off : Bool) → b.kernel.off ≡ off → (Executes b event (agents.Task id) → ⊥) →
    (Terminates b event id → ⊥) → LivesIn id b.kernel → LivesIn id (if off then reported b report.Off else happens_on b event).board.kernel
off-lives id b event true is other never was = was
off-lives id b event false is other never was = on-lives id b event is other never was

pub lives-on : (b : BoardState) (event : Event) (id : ℕ) → (Executes b event (agents.Task id) → ⊥) → (Terminates b event id → ⊥) →
    is_live_at b id ≡ true → is_live_at (happens b event).board id ≡ true
unfolding happens
lives-on b event id other never was = off-lives id b event b.kernel.off refl other never was
