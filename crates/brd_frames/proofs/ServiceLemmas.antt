-- What a service call leaves and answers where contexts in the kernel are other ones: the same, with the other contexts.
use Rattle.std.proofs.Common.{◌≡◌, ℕ, Bool, true, false, List, refl, sym, ap, ◌∙◌}
use Rattle.std.specs.Prelude.{zero, suc, if◌then◌else◌, ◌==◌, ◌&&◌, ◌||◌, is_some, [], ◌∷◌, slice_index, slice_index_or, Option, None, Some, is_ok, Result, Ok, Err}
use Rattle.std.proofs.lemmas.Bool.{and_from, eq-eqb}
use Rattle.brd_tasks.specs.declared.status.WaitReason.{WaitReason}
use Rattle.brd_tasks.specs.declared.status.WaitReason.TheVariants as reason
use Rattle.brd_tasks.specs.declared.status.WaitKind.{WaitKind}
use Rattle.brd_tasks.specs.declared.status.WaitKind.TheVariants as kind
use Rattle.brd_tasks.specs.declared.task.Task.{Task}
use Rattle.brd_tasks.specs.declared.task.Request.TheVariants.{Assigned, On}
use Rattle.brd_tasks.specs.Status.{is_dormant, waiting_of, blocked, suspended, resumed}
use Rattle.brd_tasks.specs.Tasks.{TaskTable, task_at, through, changed, with_priority, on_processor, with_wakeup, without_activation, activations_of, wakeups_of, no_context}
use Rattle.brd_time.specs.Time.{with_due}
use Rattle.brd_objects.specs.declared.semaphore.Semaphore.{Semaphore}
use Rattle.brd_objects.specs.declared.flag.Flag.{Flag}
use Rattle.brd_objects.specs.declared.want.Want.{Want}
use Rattle.brd_objects.specs.declared.sent.Sent.{Sent}
use Rattle.brd_objects.specs.declared.sent.Sent.TheVariants.{Handed, Stored, Full}
use Rattle.brd_objects.specs.declared.sent.Received.{Received}
use Rattle.brd_objects.specs.Table.{object_at, object_changed}
use Rattle.brd_objects.specs.Semaphores.{returned, first_waiter, has_one}
use Rattle.brd_objects.specs.Flags.{joined, pattern_for, all_released, with_all_released}
use Rattle.brd_objects.specs.DataQueues.{DataQueueState, sent, outcome, forced, forced_outcome, received, receipt}
use Rattle.brd_objects.specs.declared.mutex.Mutex.{Mutex}
use Rattle.brd_objects.specs.Pools.{PoolState, block_for, given_back, next_holder}
use Rattle.brd_objects.specs.Mailboxes.{MailboxState, message_sent, message_outcome, next_message}
use Rattle.brd_timers.specs.declared.timer.Timer.{Timer}
use Rattle.brd_kernel.specs.Services.{sta_cyc, stp_cyc, sta_alm, stp_alm, ref_cyc, ref_alm, timer_words}
use Rattle.brd_kernel.specs.declared.processor.Processor.{Processor}
use Rattle.brd_kernel.specs.declared.processor.Spin.{Spin}
use Rattle.brd_kernel.specs.declared.processor.Executor.{Executor}
use Rattle.brd_kernel.specs.declared.processor.Executor.TheVariants as executor
use Rattle.brd_kernel.specs.declared.call.Call.{Call}
use Rattle.brd_kernel.specs.declared.call.Call.TheVariants as call
use Rattle.brd_kernel.specs.declared.call.Ercd.{Ercd}
use Rattle.brd_kernel.specs.declared.call.Ercd.TheVariants.{Id, Par, Iluse, Obj, Qovr, Rlwai}
use Rattle.brd_kernel.specs.declared.call.Reply.{Reply}
use Rattle.brd_kernel.specs.declared.call.Reply.TheVariants.{Answer, Silent, Again}
use Rattle.brd_kernel.specs.Answer.{e_ok, code_of}
use Rattle.brd_kernel.specs.Kernel.{KernelState, processor_at, with_tasks, with_processor, holding, letting_go, executor_in, executor_on}
use Rattle.brd_kernel.specs.Waits.{due_after, due_by, can_wait, with_wait, released_in, reordered_in, has_mutex_in, quits_in}
use Rattle.brd_kernel.specs.Row.{Row, Served, refused, served_object, served, ok, silent}
use Rattle.brd_kernel.specs.Services.{named, act_tsk, can_act, ext_tsk, ter_tsk, chg_pri, get_pri, mact_tsk, mig_tsk, get_pid, rot_rdq, irot_rdq, get_tid, mark_dsp, mark_cpu, tslp_tsk, wup_tsk, can_wup, rel_wai, sus_tsk, rsm_tsk, dly_tsk, sig_sem, twai_sem, set_flg, clr_flg, twai_flg, tsnd_dtq, fsnd_dtq, trcv_dtq, put_chr, ext_ker, ret_int, loc_spn, try_spn, unl_spn, get_tim, set_tim, sns, mget_tid, mrot_rdq, ref_tsk, ref_sem, ref_flg, ref_dtq, tloc_mtx, unl_mtx, ref_mtx, tget_mpf, rel_mpf, snd_mbx, trcv_mbx, ref_mpf, ref_mbx}
use Rattle.brd_kernel.specs.Services.{bit_word, sensed, system_time, id_or_none, task_words, semaphore_words, flag_words, queue_words, mutex_words, pool_words, mailbox_words}
use Rattle.brd_kernel.specs.Services.{is_over_mutex, is_over_below, is_over_of, is_over_for, is_over_ceiling, may_not_have, prioritized_after, with_priorities}
use Rattle.brd_kernel.specs.Services.{is_held_elsewhere, is_no_processor, is_asleep, want_of, or_waits, priority_or_initial, with_all_released_in, with_satisfied_of, handed_over, with_priority_in, flag_got, queue_sent, queue_received, block_got, message_got, released_with_second, message_of, unmarked_on, is_taken, lock_taken_by, lock_given_by, serve_by}
use Rattle.brd_kernel.proofs.SameLemmas.{Same, same-quits, same-given, same-prioritized, same-broken, same-reordered, same-satisfied, same-released, same-handed, same-second}
use Rattle.brd_kernel.proofs.WalkLemmas.{in_semaphore, in_flag, in_senders, in_receivers, in_mutex, in_pool, in_mailbox}
use Rattle.brd_frames.specs.Apart.{starts}
use Rattle.brd_frames.proofs.TableLemmas.{Contexts, t-with, At, Unsteady, through-with, changed-with, noted-with, activated-with, released-free}
use Rattle.brd_frames.proofs.KernelLemmas.{k-with, set-same-some, changed_for-with, released_in-with, broken-with, released-if-with, given_in-with, quits_in-with, priorities-given-with}

-- the contexts of who executes on a processor are left alone
abbrev pub AtExecutor : Contexts → Contexts → ℕ → Option Executor → Type 0
AtExecutor f g cpu None = Unit {0}
AtExecutor f g cpu (Some executor.Handler) = At g cpu
AtExecutor f g cpu (Some (executor.Task id)) = At f id

abbrev pub r-with : Contexts → Contexts → Result Served Ercd → Result Served Ercd
r-with f g (Ok done) = Ok (record done { kernel = k-with f g done.kernel })
r-with f g (Err code) = Err code

-- where a call is answered, who executes on its processor stays
abbrev pub StaysBy : KernelState → ℕ → KernelState → Reply → Type 0
StaysBy k cpu now (Answer code second) = executor_on now cpu ≡ executor_on k cpu
StaysBy k cpu now Silent = Unit {0}
StaysBy k cpu now Again = Unit {0}

abbrev pub Stays : KernelState → ℕ → Result Served Ercd → Type 0
Stays k cpu (Ok done) = StaysBy k cpu done.kernel done.reply
Stays k cpu (Err code) = Unit {0}

-- what a call leaves and answers, and what it does where the contexts are other ones
pub record Alike (f g : Contexts) (k : KernelState) (cpu : ℕ) (one two : Result Served Ercd) : Type 0 where
  pub is : two ≡ r-with f g one
  pub stays : Stays k cpu one

-- Rows.

-- what is known where a row does what it does
pub record Passed {X : Type 0} (row : Row X) (x : X) : Type 0 where
  pub id : row.bad_id ≡ false
  pub par : row.bad_par ≡ false
  pub there : row.object ≡ Some x
  pub iluse : row.iluse x ≡ false
  pub obj : row.obj x ≡ false
  pub qovr : row.qovr x ≡ false

pub passed-does : {X : Type 0} (row : Row X) (x : X) → Passed row x → served row ≡ row.does x
passed-does row x passed =
    ap (λ test. refused test Id (refused row.bad_par Par (served_object row row.object))) passed.id
    ∙ ap (λ test. refused test Par (served_object row row.object)) passed.par
    ∙ ap (served_object row) passed.there
    ∙ ap (λ test. refused test Iluse (refused (row.obj x) Obj (refused (row.qovr x) Qovr (row.does x)))) passed.iluse
    ∙ ap (λ test. refused test Obj (refused (row.qovr x) Qovr (row.does x))) passed.obj
    ∙ ap (λ test. refused test Qovr (row.does x)) passed.qovr

alike-refused : {f g : Contexts} {k : KernelState} {cpu : ℕ} (test : Bool) (code : Ercd) (one two : Result Served Ercd) →
    (test ≡ false → Alike f g k cpu one two) → Alike f g k cpu (refused test code one) (refused test code two)
alike-refused true code one two alike = record { is = refl; stays = tt }
alike-refused false code one two alike = alike refl

alike-object : {f g : Contexts} {k : KernelState} {cpu : ℕ} {X : Type 0} (row : Row X) (does : X → Result Served Ercd) (found : Option X) →
    row.object ≡ found → row.bad_id ≡ false → row.bad_par ≡ false →
    ((x : X) → Passed row x → Alike f g k cpu (row.does x) (does x)) →
    Alike f g k cpu (served_object row found) (served_object (record row { does = does }) found)
alike-object row does None is id par alike = record { is = refl; stays = tt }
alike-object row does (Some x) is id par alike =
    alike-refused (row.iluse x) Iluse _ _
    (λ iluse. alike-refused (row.obj x) Obj _ _
    (λ obj. alike-refused (row.qovr x) Qovr _ _
    (λ qovr. alike x (record { id = id; par = par; there = is; iluse = iluse; obj = obj; qovr = qovr }))))

row : {f g : Contexts} {k : KernelState} {cpu : ℕ} {X : Type 0} (it : Row X) (does : X → Result Served Ercd) →
    ((x : X) → Passed it x → Alike f g k cpu (it.does x) (does x)) →
    Alike f g k cpu (served it) (served (record it { does = does }))
row it does alike =
    alike-refused it.bad_id Id _ _
    (λ id. alike-refused it.bad_par Par _ _ (λ par. alike-object it does it.object refl id par alike))

-- where a row refuses what it refuses by another test of the same
iluse-object : {X : Type 0} (it : Row X) (iluse : X → Bool) (does : X → Result Served Ercd) (found : Option X) → ((x : X) → iluse x ≡ it.iluse x) →
    served_object (record it { iluse = iluse; does = does }) found ≡ served_object (record it { does = does }) found
iluse-object it iluse does None same = refl
iluse-object it iluse does (Some x) same =
    ap (λ test. refused test Iluse (refused (it.obj x) Obj (refused (it.qovr x) Qovr (does x)))) (same x)

row-by : {f g : Contexts} {k : KernelState} {cpu : ℕ} {X : Type 0} (it : Row X) (iluse : X → Bool) (does : X → Result Served Ercd) →
    ((x : X) → iluse x ≡ it.iluse x) → ((x : X) → Passed it x → Alike f g k cpu (it.does x) (does x)) →
    Alike f g k cpu (served it) (served (record it { iluse = iluse; does = does }))
row-by it iluse does same alike = record {
  is = ap (λ left. refused it.bad_id Id (refused it.bad_par Par left)) (iluse-object it iluse does it.object same) ∙ (row it does alike).is;
  stays = (row it does alike).stays;
}

-- The ends of a call.

answers : {f g : Contexts} {k : KernelState} {cpu : ℕ} (now other : KernelState) (code : ℕ) (second : Option ℕ) →
    other ≡ k-with f g now → executor_on now cpu ≡ executor_on k cpu →
    Alike f g k cpu (Ok (record { kernel = now; reply = Answer code second })) (Ok (record { kernel = other; reply = Answer code second }))
answers now other code second is stays =
    record { is = ap (λ left. Ok (record { kernel = left; reply = Answer code second })) is; stays = stays }

silently : {f g : Contexts} {k : KernelState} {cpu : ℕ} (now other : KernelState) → other ≡ k-with f g now →
    Alike f g k cpu (silent now) (silent other)
silently now other is = record { is = ap (λ left. silent left) is; stays = tt }

alike-if : {f g : Contexts} {k : KernelState} {cpu : ℕ} (test : Bool) (one two first second : Result Served Ercd) →
    (test ≡ true → Alike f g k cpu one two) → (test ≡ false → Alike f g k cpu first second) →
    Alike f g k cpu (if test then one else first) (if test then two else second)
alike-if true one two first second left right = left refl
alike-if false one two first second left right = right refl

executor-same : {now k : KernelState} (cpu : ℕ) → Same now k → executor_on now cpu ≡ executor_on k cpu
executor-same cpu same = ap (λ ps. executor_in (slice_index_or ps cpu None)) same.processors

-- Waits.

wait-with : (f g : Contexts) (k : KernelState) (id : ℕ) (why : WaitReason) (due : Option ℕ) (entered : KernelState) (can : Bool) →
    (if can then record (k-with f g entered) { tasks = through (blocked why) (t-with f k.tasks) id; time = with_due k.time id due }
    else k-with f g k)
    ≡ k-with f g (if can then record entered { tasks = through (blocked why) k.tasks id; time = with_due k.time id due } else k)
wait-with f g k id why due entered true =
    ap (λ t. record (k-with f g entered) { tasks = t; time = with_due k.time id due }) (through-with f (blocked why) k.tasks id)
wait-with f g k id why due entered false = refl

waits : (f g : Contexts) (k : KernelState) (cpu id : ℕ) (why : WaitReason) (due : Option ℕ) (entered : KernelState) →
    Alike f g k cpu (silent (with_wait k id why due entered)) (silent (with_wait (k-with f g k) id why due (k-with f g entered)))
waits f g k cpu id why due entered = silently _ _ (wait-with f g k id why due entered (can_wait (task_at k.tasks id)))

or-waits : (f g : Contexts) (k : KernelState) (cpu caller : ℕ) (why : WaitReason) (timeout : ℕ) (entered : KernelState) →
    Alike f g k cpu (or_waits k caller why timeout entered) (or_waits (k-with f g k) caller why timeout (k-with f g entered))
unfolding due_by
or-waits f g k cpu caller why timeout entered =
    alike-if (timeout == 0) _ _ _ _ (λ poll. record { is = refl; stays = tt })
    (λ long. waits f g k cpu caller why (due_by k timeout) entered)

-- Releases.

all-released-with : (f g : Contexts) (k : KernelState) (ids : List ℕ) (second : ℕ) → Unsteady f k.tasks →
    with_all_released_in (k-with f g k) ids second ≡ k-with f g (with_all_released_in k ids second)
all-released-with f g k [] second free = refl
all-released-with f g k (id ∷ ids) second free =
    ap (λ (now : KernelState). with_all_released_in now ids second) (released_in-with f g k id e_ok (Some second) free)
    ∙ all-released-with f g (released_in k id e_ok (Some second)) ids second (released-free f k.tasks id e_ok (Some second) free)

satisfied-with : (f g : Contexts) (k : KernelState) (id : ℕ) (found : Option Flag) → Unsteady f k.tasks →
    with_satisfied_of (k-with f g k) id found ≡ k-with f g (with_satisfied_of k id found)
satisfied-with f g k id None free = refl
satisfied-with f g k id (Some flag) free =
    all-released-with f g (record k { flags = object_changed with_all_released k.flags id }) (all_released flag) flag.pattern free

handed-with : (f g : Contexts) (k : KernelState) (datum : ℕ) (what : Sent) → Unsteady f k.tasks →
    handed_over (k-with f g k) datum what ≡ k-with f g (handed_over k datum what)
handed-with f g k datum (Handed id) free = released_in-with f g k id e_ok (Some datum) free
handed-with f g k datum Stored free = refl
handed-with f g k datum Full free = refl

second-with : (f g : Contexts) (k : KernelState) (second : ℕ) (first : Option ℕ) → Unsteady f k.tasks →
    released_with_second (k-with f g k) second first ≡ k-with f g (released_with_second k second first)
second-with f g k second None free = refl
second-with f g k second (Some id) free = released_in-with f g k id e_ok (Some second) free

prioritized-with : (f g : Contexts) (k : KernelState) (id priority : ℕ) (why : Option WaitReason) →
    with_priority_in (k-with f g k) id priority why ≡ k-with f g (with_priority_in k id priority why)
prioritized-with f g k id priority why =
    ap (λ t. reordered_in (record (k-with f g k) { tasks = t }) id priority why) (changed-with f (with_priority priority) k.tasks id)
    ∙ changed_for-with f g _ (with_tasks k (changed (with_priority priority) k.tasks id)) why

unmarked-with : (f g : Contexts) (k : KernelState) (cpu : ℕ) (found : Option Processor) →
    unmarked_on (k-with f g k) cpu found ≡ k-with f g (unmarked_on k cpu found)
unmarked-with f g k cpu None = refl
unmarked-with f g k cpu (Some p) = refl

-- Marks.

-- a processor with other marks has the same executor
marked : (k : KernelState) (cpu : ℕ) (p q : Processor) → processor_at k cpu ≡ Some p →
    executor_in (Some q) ≡ executor_in (Some p) → executor_on (with_processor k cpu q) cpu ≡ executor_on k cpu
marked k cpu p q there same = ap executor_in (set-same-some k.processors cpu (Some q) p there) ∙ same ∙ sym (ap executor_in there)

taken-with : (f g : Contexts) (k : KernelState) (cpu id : ℕ) (found : Option Processor) →
    lock_taken_by (k-with f g k) cpu id found ≡ k-with f g (lock_taken_by k cpu id found)
taken-with f g k cpu id None = refl
taken-with f g k cpu id (Some p) = refl

taken-stays : (k : KernelState) (cpu id : ℕ) (found : Option Processor) → processor_at k cpu ≡ found →
    executor_on (lock_taken_by k cpu id found) cpu ≡ executor_on k cpu
taken-stays k cpu id None is = refl
taken-stays k cpu id (Some p) is = marked k cpu p (holding id p) is refl

given-with : (f g : Contexts) (k : KernelState) (cpu : ℕ) (found : Option Processor) →
    lock_given_by (k-with f g k) cpu found ≡ k-with f g (lock_given_by k cpu found)
given-with f g k cpu None = refl
given-with f g k cpu (Some p) = refl

given-stays : (k : KernelState) (cpu : ℕ) (found : Option Processor) → processor_at k cpu ≡ found →
    executor_on (lock_given_by k cpu found) cpu ≡ executor_on k cpu
given-stays k cpu None is = refl
given-stays k cpu (Some p) is = marked k cpu p (letting_go p) is refl

-- What two tables of tasks leave.

tasks : (f g : Contexts) (k : KernelState) (cpu : ℕ) (t other : TaskTable) → other ≡ t-with f t →
    Alike f g k cpu (ok (with_tasks k t)) (ok (with_tasks (k-with f g k) other))
tasks f g k cpu t other is = answers _ _ e_ok None (ap (λ left. record (k-with f g k) { tasks = left }) is) refl

-- Objects.

got : (f g : Contexts) (k : KernelState) (cpu caller id timeout : ℕ) (want : Want) (pattern : Option ℕ) →
    Alike f g k cpu (flag_got k caller id want timeout pattern) (flag_got (k-with f g k) caller id want timeout pattern)
got f g k cpu caller id timeout want (Some pattern) = answers _ _ e_ok (Some pattern) refl refl
got f g k cpu caller id timeout want None = or-waits f g k cpu caller (reason.On kind.Flag id) timeout (in_flag k caller id want)

was-sent : (f g : Contexts) (k : KernelState) (cpu caller id datum timeout : ℕ) (what : Sent) → Unsteady f k.tasks →
    Alike f g k cpu (queue_sent k caller id datum timeout what) (queue_sent (k-with f g k) caller id datum timeout what)
was-sent f g k cpu caller id datum timeout (Handed task) free =
    answers _ _ e_ok None (released_in-with f g (record k { queues = object_changed (sent datum) k.queues id }) task e_ok (Some datum) free) refl
was-sent f g k cpu caller id datum timeout Stored free = answers _ _ e_ok None refl refl
was-sent f g k cpu caller id datum timeout Full free = or-waits f g k cpu caller (reason.On kind.Room id) timeout (in_senders k caller id datum)

was-received : (f g : Contexts) (k : KernelState) (cpu caller id timeout : ℕ) (it : Option Received) → Unsteady f k.tasks →
    Alike f g k cpu (queue_received k caller id timeout it) (queue_received (k-with f g k) caller id timeout it)
was-received f g k cpu caller id timeout (Some it) free =
    let new : KernelState = record k { queues = object_changed received k.queues id } in
    answers _ _ e_ok (Some it.datum) (released-if-with f g new it.sender free) (executor-same cpu (same-released new it.sender))
was-received f g k cpu caller id timeout None free = or-waits f g k cpu caller (reason.On kind.Datum id) timeout (in_receivers k caller id)

was-handed-out : (f g : Contexts) (k : KernelState) (cpu caller id timeout : ℕ) (block : Option ℕ) →
    Alike f g k cpu (block_got k caller id timeout block) (block_got (k-with f g k) caller id timeout block)
was-handed-out f g k cpu caller id timeout (Some block) = answers _ _ e_ok (Some block) refl refl
was-handed-out f g k cpu caller id timeout None = or-waits f g k cpu caller (reason.On kind.Block id) timeout (in_pool k caller id)

was-fetched : (f g : Contexts) (k : KernelState) (cpu caller id timeout : ℕ) (message : Option ℕ) →
    Alike f g k cpu (message_got k caller id timeout message) (message_got (k-with f g k) caller id timeout message)
was-fetched f g k cpu caller id timeout (Some message) = answers _ _ e_ok (Some message) refl refl
was-fetched f g k cpu caller id timeout None = or-waits f g k cpu caller (reason.On kind.Message id) timeout (in_mailbox k caller id)

-- Ceilings.

over-below-with : (f g : Contexts) (k : KernelState) (id priority n : ℕ) → is_over_below (k-with f g k) id priority n ≡ is_over_below k id priority n
unfolding is_over_below
over-below-with f g k id priority zero = refl
over-below-with f g k id priority (suc n) =
    ap (λ test. test || (has_mutex_in id (object_at k.mutexes n) && is_over_mutex priority (object_at k.mutexes n))) (over-below-with f g k id priority n)

over-of-with : (f g : Contexts) (k : KernelState) (priority : ℕ) (what : WaitKind) (object : ℕ) →
    is_over_of (k-with f g k) priority what object ≡ is_over_of k priority what object
over-of-with f g k priority kind.Semaphore object = refl
over-of-with f g k priority kind.Flag object = refl
over-of-with f g k priority kind.Room object = refl
over-of-with f g k priority kind.Datum object = refl
over-of-with f g k priority kind.Mutex object = refl
over-of-with f g k priority kind.Block object = refl
over-of-with f g k priority kind.Message object = refl

over-for-with : (f g : Contexts) (k : KernelState) (priority : ℕ) (why : Option WaitReason) →
    is_over_for (k-with f g k) priority why ≡ is_over_for k priority why
over-for-with f g k priority None = refl
over-for-with f g k priority (Some reason.Sleep) = refl
over-for-with f g k priority (Some reason.Delay) = refl
over-for-with f g k priority (Some (reason.On what object)) = over-of-with f g k priority what object

over-with : (f g : Contexts) (k : KernelState) (id priority : ℕ) (why : Option WaitReason) →
    is_over_ceiling (k-with f g k) id priority why ≡ is_over_ceiling k id priority why
unfolding is_over_ceiling
over-with f g k id priority why =
    ap (λ test. k.standard && (test || is_over_below (k-with f g k) id priority 256)) (over-for-with f g k priority why)
    ∙ ap (λ test. k.standard && (is_over_for k priority why || test)) (over-below-with f g k id priority 256)

-- What has to be left alone where a call is served: tasks that wait, and by the call the caller, the handler or whom it
-- starts.
pub record Frees (f g : Contexts) (k : KernelState) (cpu caller : ℕ) (c : Call) : Type 0 where
  pub unsteady : Unsteady f k.tasks
  pub exits : c ≡ call.ExtTsk → At f caller
  pub returns : c ≡ call.RetInt → At g cpu
  pub starts : (id : ℕ) (task : Task) → task_at k.tasks id ≡ Some task → starts c caller id task ≡ true →
      is_ok (serve_by k cpu caller c) ≡ true → At f id

same-number : (n : ℕ) (test : Bool) → test ≡ true → (n == n && test) ≡ true
same-number n test is = and_from (n == n) test (eq-eqb n n refl) is

pub serve-alike : (f g : Contexts) (k : KernelState) (cpu caller : ℕ) (c : Call) → Frees f g k cpu caller c →
    Alike f g k cpu (serve_by k cpu caller c) (serve_by (k-with f g k) cpu caller c)
unfolding is_held_elsewhere is_no_processor may_not_have
serve-alike f g k cpu caller (call.ActTsk t) free =
    row (act_tsk k (named caller t)) _ (λ task passed.
    tasks f g k cpu _ _ (activated-with f k.tasks (named caller t) Assigned (λ here there dormant.
    free.starts (named caller t) here there (same-number (named caller t) (is_dormant here.status) dormant)
    (ap is_ok (passed-does (act_tsk k (named caller t)) task passed)))))
serve-alike f g k cpu caller (call.IactTsk t) free =
    row (act_tsk k t) _ (λ task passed.
    tasks f g k cpu _ _ (activated-with f k.tasks t Assigned (λ here there dormant.
    free.starts t here there (same-number t (is_dormant here.status) dormant)
    (ap is_ok (passed-does (act_tsk k t) task passed)))))
serve-alike f g k cpu caller (call.CanAct t) free =
    row (can_act k (named caller t)) _ (λ (task : Task) passed.
    answers _ _ (activations_of task.activation) None
    (ap (λ left. record (k-with f g k) { tasks = left }) (noted-with f without_activation k.tasks (named caller t))) refl)
serve-alike f g k cpu caller call.ExtTsk free =
    row (ext_tsk k cpu caller) _ (λ task passed.
    silently _ _
    (ap (λ now. unmarked_on now cpu (processor_at k cpu))
    (quits_in-with f g k caller free.unsteady (λ task request there queued. free.exits refl))
    ∙ unmarked-with f g (quits_in k caller) cpu (processor_at k cpu)))
serve-alike f g k cpu caller (call.TerTsk t) free =
    row (ter_tsk k cpu caller t) _ (λ task passed.
    answers _ _ e_ok None
    (quits_in-with f g k t free.unsteady (λ here request there queued.
    free.starts t here there (same-number t (is_some here.activation) (ap is_some queued))
    (ap is_ok (passed-does (ter_tsk k cpu caller t) task passed))))
    (executor-same cpu (same-quits k t)))
serve-alike f g k cpu caller (call.ChgPri t priority) free =
    row-by (chg_pri k (named caller t) priority)
    (λ task. is_over_ceiling (k-with f g k) (named caller t) (priority_or_initial priority task) (waiting_of task.status)) _
    (λ (task : Task). over-with f g k (named caller t) (priority_or_initial priority task) (waiting_of task.status))
    (λ (task : Task) passed.
    answers _ _ e_ok None
    (prioritized-with f g k (named caller t) (priority_or_initial priority task) (waiting_of task.status))
    (executor-same cpu (same-reordered (with_tasks k (changed (with_priority (priority_or_initial priority task)) k.tasks (named caller t)))
    (named caller t) (priority_or_initial priority task) (waiting_of task.status))))
serve-alike f g k cpu caller (call.GetPri t) free =
    row (get_pri k (named caller t)) _ (λ (task : Task) passed. answers _ _ e_ok (Some task.priority) refl refl)
serve-alike f g k cpu caller (call.MactTsk t to) free =
    row (mact_tsk k (named caller t) to) _ (λ task passed.
    tasks f g k cpu _ _ (activated-with f k.tasks (named caller t) (On to) (λ here there dormant.
    free.starts (named caller t) here there (same-number (named caller t) (is_dormant here.status) dormant)
    (ap is_ok (passed-does (mact_tsk k (named caller t) to) task passed)))))
serve-alike f g k cpu caller (call.ImactTsk t to) free =
    row (mact_tsk k t to) _ (λ task passed.
    tasks f g k cpu _ _ (activated-with f k.tasks t (On to) (λ here there dormant.
    free.starts t here there (same-number t (is_dormant here.status) dormant)
    (ap is_ok (passed-does (mact_tsk k t to) task passed)))))
serve-alike f g k cpu caller (call.MigTsk t to) free =
    row (mig_tsk k cpu (named caller t) to) _ (λ task passed. tasks f g k cpu _ _ (changed-with f (on_processor to) k.tasks (named caller t)))
serve-alike f g k cpu caller call.GetPid free = row (get_pid k cpu) _ (λ x passed. answers _ _ e_ok (Some cpu) refl refl)
serve-alike f g k cpu caller (call.RotRdq priority) free =
    row (rot_rdq k cpu caller priority) _ (λ p passed. tasks f g k cpu _ _ refl)
serve-alike f g k cpu caller (call.IrotRdq priority) free = row (irot_rdq k cpu priority) _ (λ p passed. tasks f g k cpu _ _ refl)
serve-alike f g k cpu caller call.GetTid free = row (get_tid k caller) _ (λ x passed. answers _ _ e_ok (Some caller) refl refl)
serve-alike f g k cpu caller call.DisDsp free =
    row (mark_dsp k cpu true) _ (λ (p : Processor) passed. answers _ _ e_ok None refl (marked k cpu p _ passed.there refl))
serve-alike f g k cpu caller call.EnaDsp free =
    row (mark_dsp k cpu false) _ (λ (p : Processor) passed. answers _ _ e_ok None refl (marked k cpu p _ passed.there refl))
serve-alike f g k cpu caller call.LocCpu free =
    row (mark_cpu k cpu true) _ (λ (p : Processor) passed. answers _ _ e_ok None refl (marked k cpu p _ passed.there refl))
serve-alike f g k cpu caller call.UnlCpu free =
    row (mark_cpu k cpu false) _ (λ (p : Processor) passed. answers _ _ e_ok None refl (marked k cpu p _ passed.there refl))
serve-alike f g k cpu caller (call.TslpTsk timeout) free =
    row (tslp_tsk k caller timeout) _ (λ (task : Task) passed.
    alike-if task.wakeup _ _ _ _ (λ queued. tasks f g k cpu _ _ (noted-with f (with_wakeup false) k.tasks caller))
    (λ none. or-waits f g k cpu caller reason.Sleep timeout k))
serve-alike f g k cpu caller (call.WupTsk t) free =
    row (wup_tsk k (named caller t)) _ (λ (task : Task) passed.
    alike-if (is_asleep task.status) _ _ _ _
    (λ asleep. answers _ _ e_ok None (released_in-with f g k (named caller t) e_ok None free.unsteady) refl)
    (λ awake. tasks f g k cpu _ _ (noted-with f (with_wakeup true) k.tasks (named caller t))))
serve-alike f g k cpu caller (call.IwupTsk t) free =
    row (wup_tsk k t) _ (λ (task : Task) passed.
    alike-if (is_asleep task.status) _ _ _ _
    (λ asleep. answers _ _ e_ok None (released_in-with f g k t e_ok None free.unsteady) refl)
    (λ awake. tasks f g k cpu _ _ (noted-with f (with_wakeup true) k.tasks t)))
serve-alike f g k cpu caller (call.CanWup t) free =
    row (can_wup k (named caller t)) _ (λ (task : Task) passed.
    answers _ _ (wakeups_of task.wakeup) None
    (ap (λ left. record (k-with f g k) { tasks = left }) (noted-with f (with_wakeup false) k.tasks (named caller t))) refl)
serve-alike f g k cpu caller (call.RelWai t) free =
    row (rel_wai k t) _ (λ task passed.
    answers _ _ e_ok None (broken-with f g k t (code_of Rlwai) free.unsteady) (executor-same cpu (same-broken k t (code_of Rlwai))))
serve-alike f g k cpu caller (call.SusTsk t) free =
    row (sus_tsk k cpu (named caller t)) _ (λ task passed. tasks f g k cpu _ _ (through-with f suspended k.tasks (named caller t)))
serve-alike f g k cpu caller (call.RsmTsk t) free =
    row (rsm_tsk k t) _ (λ task passed. tasks f g k cpu _ _ (through-with f resumed k.tasks t))
serve-alike f g k cpu caller (call.DlyTsk time) free =
    row (dly_tsk k caller time) _ (λ task passed. waits f g k cpu caller reason.Delay (Some (due_after k time)) k)
serve-alike f g k cpu caller (call.SigSem s) free =
    row (sig_sem k s) _ (λ (it : Semaphore) passed.
    let new : KernelState = record k { semaphores = object_changed returned k.semaphores s } in
    answers _ _ e_ok None (released-if-with f g new (first_waiter it) free.unsteady) (executor-same cpu (same-released new (first_waiter it))))
serve-alike f g k cpu caller (call.TwaiSem s timeout) free =
    row (twai_sem k caller s timeout) _ (λ (it : Semaphore) passed.
    alike-if (has_one it) _ _ _ _ (λ one. answers _ _ e_ok None refl refl)
    (λ none. or-waits f g k cpu caller (reason.On kind.Semaphore s) timeout (in_semaphore k caller s)))
serve-alike f g k cpu caller (call.SetFlg flag bits) free =
    row (set_flg k flag bits) _ (λ it passed.
    let new : KernelState = record k { flags = object_changed (joined bits) k.flags flag } in
    answers _ _ e_ok None (satisfied-with f g new flag (object_at new.flags flag) free.unsteady)
    (executor-same cpu (same-satisfied new flag (object_at new.flags flag))))
serve-alike f g k cpu caller (call.ClrFlg flag bits) free = row (clr_flg k flag bits) _ (λ it passed. answers _ _ e_ok None refl refl)
serve-alike f g k cpu caller (call.TwaiFlg flag bits mode timeout) free =
    row (twai_flg k caller flag bits mode timeout) _ (λ (it : Flag) passed.
    got f g k cpu caller flag timeout (want_of bits mode) (pattern_for (want_of bits mode) it))
serve-alike f g k cpu caller (call.TsndDtq q datum timeout) free =
    row (tsnd_dtq k caller q datum timeout) _ (λ (it : DataQueueState) passed.
    was-sent f g k cpu caller q datum timeout (outcome it) free.unsteady)
serve-alike f g k cpu caller (call.FsndDtq q datum) free =
    row (fsnd_dtq k q datum) _ (λ (it : DataQueueState) passed.
    let new : KernelState = record k { queues = object_changed (forced datum) k.queues q } in
    answers _ _ e_ok None (handed-with f g new datum (forced_outcome it) free.unsteady)
    (executor-same cpu (same-handed new datum (forced_outcome it))))
serve-alike f g k cpu caller (call.TrcvDtq q timeout) free =
    row (trcv_dtq k caller q timeout) _ (λ (it : DataQueueState) passed.
    was-received f g k cpu caller q timeout (receipt it) free.unsteady)
serve-alike f g k cpu caller (call.PutChr word) free = row (put_chr k word) _ (λ x passed. answers _ _ e_ok None refl refl)
serve-alike f g k cpu caller call.ExtKer free = row (ext_ker k) _ (λ x passed. silently _ _ refl)
serve-alike f g k cpu caller call.RetInt free =
    row (ret_int k cpu) _ (λ (p : Processor) passed.
    silently _ _ (ap (λ contexts.
    record (k-with f g (with_processor k cpu (record (letting_go p) { handling = None }))) { handler_contexts = contexts })
    (sym ((free.returns refl).writes k.handler_contexts no_context))))
serve-alike f g k cpu caller (call.LocSpn l) free =
    row (loc_spn k cpu l) _ (λ (lock : Spin) passed.
    alike-if (is_taken lock) _ _ _ _ (λ held. record { is = refl; stays = tt })
    (λ none. answers _ _ e_ok None (taken-with f g k cpu l (processor_at k cpu)) (taken-stays k cpu l (processor_at k cpu) refl)))
serve-alike f g k cpu caller (call.TrySpn l) free =
    row (try_spn k cpu l) _ (λ lock passed.
    answers _ _ e_ok None (taken-with f g k cpu l (processor_at k cpu)) (taken-stays k cpu l (processor_at k cpu) refl))
serve-alike f g k cpu caller (call.UnlSpn l) free =
    row (unl_spn k cpu l) _ (λ lock passed.
    answers _ _ e_ok None (given-with f g k cpu (processor_at k cpu)) (given-stays k cpu (processor_at k cpu) refl))
serve-alike f g k cpu caller call.GetTim free = row (get_tim k) _ (λ x passed. answers _ _ e_ok (Some (system_time k)) refl refl)
serve-alike f g k cpu caller (call.SetTim time) free = row (set_tim k time) _ (λ x passed. answers _ _ e_ok None refl refl)
serve-alike f g k cpu caller (call.Sns what) free =
    row (sns k cpu what) _ (λ (p : Processor) passed. answers _ _ (bit_word (sensed p what)) None refl refl)
serve-alike f g k cpu caller (call.MgetTid on) free =
    row (mget_tid k on) _ (λ (p : Processor) passed. answers _ _ e_ok (Some (id_or_none p.running)) refl refl)
serve-alike f g k cpu caller (call.MrotRdq priority on) free =
    row (mrot_rdq k caller priority on) _ (λ p passed. tasks f g k cpu _ _ refl)
serve-alike f g k cpu caller (call.RefTsk t word) free =
    row (ref_tsk k (named caller t) word) _ (λ (task : Task) passed.
    answers _ _ e_ok (Some (slice_index (task_words k (named caller t) task) word)) refl refl)
serve-alike f g k cpu caller (call.RefSem s word) free =
    row (ref_sem k s word) _ (λ (it : Semaphore) passed. answers _ _ e_ok (Some (slice_index (semaphore_words it) word)) refl refl)
serve-alike f g k cpu caller (call.RefFlg flag word) free =
    row (ref_flg k flag word) _ (λ (it : Flag) passed. answers _ _ e_ok (Some (slice_index (flag_words it) word)) refl refl)
serve-alike f g k cpu caller (call.RefDtq q word) free =
    row (ref_dtq k q word) _ (λ (it : DataQueueState) passed. answers _ _ e_ok (Some (slice_index (queue_words it) word)) refl refl)
serve-alike f g k cpu caller (call.TlocMtx m timeout) free =
    row (tloc_mtx k caller m timeout) _ (λ (it : Mutex) passed.
    alike-if (is_some it.owner) _ _ _ _ (λ held. or-waits f g k cpu caller (reason.On kind.Mutex m) timeout (in_mutex k caller m))
    (λ none. answers _ _ e_ok None refl refl))
serve-alike f g k cpu caller (call.UnlMtx m) free =
    row (unl_mtx k caller m) _ (λ it passed.
    answers _ _ e_ok None (given_in-with f g k m free.unsteady) (executor-same cpu (same-given k m)))
serve-alike f g k cpu caller (call.RefMtx m word) free =
    row (ref_mtx k m word) _ (λ (it : Mutex) passed. answers _ _ e_ok (Some (slice_index (mutex_words it) word)) refl refl)
serve-alike f g k cpu caller (call.TgetMpf p timeout) free =
    row (tget_mpf k caller p timeout) _ (λ (it : PoolState) passed. was-handed-out f g k cpu caller p timeout (block_for it))
serve-alike f g k cpu caller (call.RelMpf p block) free =
    row (rel_mpf k p block) _ (λ (it : PoolState) passed.
    let new : KernelState = record k { pools = object_changed (given_back block) k.pools p } in
    answers _ _ e_ok None (second-with f g new block (next_holder block it) free.unsteady)
    (executor-same cpu (same-second new block (next_holder block it))))
serve-alike f g k cpu caller (call.SndMbx b address priority) free =
    row (snd_mbx k b address priority) _ (λ (it : MailboxState) passed.
    let new : KernelState = record k { mailboxes = object_changed (message_sent (message_of address priority)) k.mailboxes b } in
    answers _ _ e_ok None (handed-with f g new address (message_outcome it) free.unsteady)
    (executor-same cpu (same-handed new address (message_outcome it))))
serve-alike f g k cpu caller (call.TrcvMbx b timeout) free =
    row (trcv_mbx k caller b timeout) _ (λ (it : MailboxState) passed. was-fetched f g k cpu caller b timeout (next_message it))
serve-alike f g k cpu caller (call.RefMpf p word) free =
    row (ref_mpf k p word) _ (λ (it : PoolState) passed. answers _ _ e_ok (Some (slice_index (pool_words it) word)) refl refl)
serve-alike f g k cpu caller (call.RefMbx b word) free =
    row (ref_mbx k b word) _ (λ (it : MailboxState) passed. answers _ _ e_ok (Some (slice_index (mailbox_words it) word)) refl refl)
serve-alike f g k cpu caller (call.StaCyc c) free = row (sta_cyc k c) _ (λ (it : Timer) passed. answers _ _ e_ok None refl refl)
serve-alike f g k cpu caller (call.StpCyc c) free = row (stp_cyc k c) _ (λ (it : Timer) passed. answers _ _ e_ok None refl refl)
serve-alike f g k cpu caller (call.StaAlm a time) free = row (sta_alm k a time) _ (λ (it : Timer) passed. answers _ _ e_ok None refl refl)
serve-alike f g k cpu caller (call.StpAlm a) free = row (stp_alm k a) _ (λ (it : Timer) passed. answers _ _ e_ok None refl refl)
serve-alike f g k cpu caller (call.RefCyc c word) free =
    row (ref_cyc k c word) _ (λ (it : Timer) passed. answers _ _ e_ok (Some (slice_index (timer_words k.time.count it) word)) refl refl)
serve-alike f g k cpu caller (call.RefAlm a word) free =
    row (ref_alm k a word) _ (λ (it : Timer) passed. answers _ _ e_ok (Some (slice_index (timer_words k.time.count it) word)) refl refl)

-- Then tasks are given the priorities that they are to have.

after-with : (f g : Contexts) (k : KernelState) (reply : Reply) →
    prioritized_after (k-with f g k) reply ≡ k-with f g (prioritized_after k reply)
after-with f g k (Answer code second) = priorities-given-with f g k
after-with f g k Silent = priorities-given-with f g k
after-with f g k Again = refl

after-stays : (k now : KernelState) (cpu : ℕ) (reply : Reply) → StaysBy k cpu now reply → StaysBy k cpu (prioritized_after now reply) reply
after-stays k now cpu (Answer code second) stays = executor-same cpu (same-prioritized now) ∙ stays
after-stays k now cpu Silent stays = tt
after-stays k now cpu Again stays = tt

says-with : (f g : Contexts) (says : Result Served Ercd) → with_priorities (r-with f g says) ≡ r-with f g (with_priorities says)
says-with f g (Ok done) = ap (λ left. Ok (record { kernel = left; reply = done.reply })) (after-with f g done.kernel done.reply)
says-with f g (Err code) = refl

says-stay : (k : KernelState) (cpu : ℕ) (says : Result Served Ercd) → Stays k cpu says → Stays k cpu (with_priorities says)
says-stay k cpu (Ok done) stays = after-stays k done.kernel cpu done.reply stays
says-stay k cpu (Err code) stays = tt

pub priorities-alike : (f g : Contexts) (k : KernelState) (cpu : ℕ) (one two : Result Served Ercd) → Alike f g k cpu one two →
    Alike f g k cpu (with_priorities one) (with_priorities two)
priorities-alike f g k cpu one two alike = record {
  is = ap with_priorities alike.is ∙ says-with f g one;
  stays = says-stay k cpu one alike.stays;
}
