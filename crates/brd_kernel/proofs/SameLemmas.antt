-- What leaves processors and spin locks as they are, and whether there is the profile: all that is about tasks, waits
-- and objects.
use Rattle.std.proofs.Common.{◌≡◌, ℕ, List, [], ◌∷◌, refl, ap, ◌∙◌}
use Rattle.std.specs.Prelude.{Bool, true, false, if◌then◌else◌, Option, None, Some}
use Rattle.brd_tasks.specs.declared.status.WaitReason.{WaitReason}
use Rattle.brd_tasks.specs.declared.status.WaitReason.TheVariants as reason
use Rattle.brd_tasks.specs.declared.task.Task.{Task}
use Rattle.brd_tasks.specs.Status.{waiting_of, blocked}
use Rattle.brd_tasks.specs.Tasks.{task_at, through, changed}
use Rattle.brd_time.specs.Time.{with_due}
use Rattle.brd_objects.specs.declared.flag.Flag.{Flag}
use Rattle.brd_objects.specs.declared.sent.Sent.{Sent}
use Rattle.brd_objects.specs.declared.sent.Sent.TheVariants.{Handed, Stored, Full}
use Rattle.brd_objects.specs.declared.semaphore.Semaphore.{Semaphore}
use Rattle.brd_objects.specs.declared.sent.Received.{Received}
use Rattle.brd_objects.specs.Table.{object_at, object_changed}
use Rattle.brd_objects.specs.Semaphores.{returned, first_waiter}
use Rattle.brd_objects.specs.Flags.{joined, all_released, with_all_released}
use Rattle.brd_objects.specs.DataQueues.{DataQueueState, sent, outcome, forced, forced_outcome, received}
use Rattle.brd_kernel.specs.Answer.{e_ok}
use Rattle.brd_kernel.specs.declared.processor.Executor.{Executor}
use Rattle.brd_kernel.specs.declared.processor.Executor.TheVariants as executor
use Rattle.brd_exec.specs.State.{State}
use Rattle.brd_kernel.specs.declared.processor.Processor.{Processor}
use Rattle.brd_kernel.specs.Kernel.{KernelState, with_tasks, with_processor, processor_at, with_context_of}
use Rattle.brd_kernel.specs.Waits.{can_wait, with_wait, released_in, reason_of, broken_off, ended_in, reordered_in, answer_by, timed_out, all_timed_out, with_released, given_in, all_given_in, quits_in, prioritized}
use Rattle.brd_kernel.specs.Services.{unmarked_on, handler_ended, with_all_released_in, with_satisfied_of, handed_over, released_with_second, message_of}
use Rattle.brd_kernel.proofs.WaitLemmas.{OnlyLists, unlisted-only, reordered-only}
use Rattle.brd_kernel.proofs.WalkLemmas.{Lacks, No-one, lacked, awaiting, Fact, OfTask, Holding, Law}
use Rattle.brd_objects.specs.Mutexes.{given, next_owner_in}
use Rattle.brd_objects.specs.Pools.{PoolState, given_back, next_holder}
use Rattle.brd_objects.specs.Mailboxes.{MailboxState, message_sent, message_outcome}
use Rattle.brd_kernel.proofs.PricedLemmas.{priced, priced_in}
use Rattle.brd_kernel.proofs.SettledLemmas.{Settles, all-given, all-prioritized}

pub record Same (new old : KernelState) : Type 0 where
  pub processors : new.processors ≡ old.processors
  pub spin_locks : new.spin_locks ≡ old.spin_locks
  pub standard : new.standard ≡ old.standard

pub same-then : {a b c : KernelState} → Same a b → Same b c → Same a c
same-then first second =
    record {
      processors = first.processors ∙ second.processors;
      spin_locks = first.spin_locks ∙ second.spin_locks;
      standard = first.standard ∙ second.standard;
    }

pub same-context : (k : KernelState) (cpu : ℕ) (who : Executor) (s : State) → Same (with_context_of k cpu who s) k
same-context k cpu executor.Handler s = record { processors = refl; spin_locks = refl; standard = refl }
same-context k cpu (executor.Task id) s = record { processors = refl; spin_locks = refl; standard = refl }

same-lists : {k new : KernelState} → OnlyLists k new → Same new k
same-lists only = record { processors = only.processors; spin_locks = only.spin_locks; standard = only.standard }

pub same-reordered : (k : KernelState) (id priority : ℕ) (why : Option WaitReason) →
    Same (reordered_in k id priority why) k
same-reordered k id priority why = same-lists (reordered-only k id priority why)

pub same-ended : (k : KernelState) (id : ℕ) → Same (ended_in k id) k
same-ended k id =
    let only = unlisted-only k id (reason_of k id) in record
    { processors = only.processors; spin_locks = only.spin_locks; standard = only.standard }

-- Mutexes and priorities.

pub same-released : (k : KernelState) (id : Option ℕ) → Same (with_released k id) k
same-released k None = record { processors = refl; spin_locks = refl; standard = refl }
same-released k (Some id) = record { processors = refl; spin_locks = refl; standard = refl }

pub same-given : (k : KernelState) (at : ℕ) → Same (given_in k at) k
same-given k at =
    let only = same-released (record k { mutexes = object_changed given k.mutexes at }) (next_owner_in (object_at k.mutexes at)) in
    record { processors = only.processors; spin_locks = only.spin_locks; standard = only.standard }

pub same-priced : (k : KernelState) (base : Task → ℕ) (id priority : ℕ) (why : Option WaitReason) → Same (priced_in k base id priority why) k
same-priced k base id priority why =
    let only = same-reordered (with_tasks k (changed (priced base priority) k.tasks id)) id priority why in
    record { processors = only.processors; spin_locks = only.spin_locks; standard = only.standard }

same-settles : (k : KernelState) → Settles (λ new. Same new k)
same-settles k = record {
  gives = λ now at m there same. same-then (same-given now at) same;
  prices = λ now base id priority (task : Task) there same. same-then (same-priced now base id priority (waiting_of task.status)) same;
}

pub same-all_given : (k : KernelState) (id : ℕ) → Same (all_given_in k id) k
same-all_given k id =
    all-given (λ new. Same new k) k id (same-settles k) (record { processors = refl; spin_locks = refl; standard = refl })

pub same-quits : (k : KernelState) (id : ℕ) → Same (quits_in k id) k
same-quits k id = same-then (same-ended (all_given_in k id) id) (same-all_given k id)

pub quits_processor : (k : KernelState) (id cpu : ℕ) → processor_at (quits_in k id) cpu ≡ processor_at k cpu
quits_processor k id cpu = ap (λ processors. processor_at (record k { processors = processors }) cpu) (same-quits k id).processors

pub same-prioritized : (k : KernelState) → Same (prioritized k) k
same-prioritized k =
    all-prioritized (λ new. Same new k) k (same-settles k) (record { processors = refl; spin_locks = refl; standard = refl })

pub same-broken : (k : KernelState) (id answer : ℕ) → Same (broken_off k id answer) k
same-broken k id answer =
    let only = unlisted-only k id (reason_of k id) in record
    { processors = only.processors; spin_locks = only.spin_locks; standard = only.standard }

pub same-timed : (k : KernelState) (ids : List ℕ) → Same (all_timed_out k ids) k
same-timed k [] = record { processors = refl; spin_locks = refl; standard = refl }
same-timed k (id ∷ ids) = same-then (same-timed (timed_out k id) ids) (same-broken k id (answer_by (reason_of k id)))

pub same-all_released : (k : KernelState) (ids : List ℕ) (second : ℕ) → Same (with_all_released_in k ids second) k
same-all_released k [] second = record { processors = refl; spin_locks = refl; standard = refl }
same-all_released k (id ∷ ids) second =
    let rest : Same (with_all_released_in k (id ∷ ids) second) (released_in k id e_ok (Some second)) =
    same-all_released (released_in k id e_ok (Some second)) ids second in
    record { processors = rest.processors; spin_locks = rest.spin_locks; standard = rest.standard }

pub same-satisfied : (k : KernelState) (id : ℕ) (found : Option Flag) → Same (with_satisfied_of k id found) k
same-satisfied k id None = record { processors = refl; spin_locks = refl; standard = refl }
same-satisfied k id (Some f) =
    let new : KernelState = record k { flags = object_changed with_all_released k.flags id } in
    let rest : Same (with_all_released_in new (all_released f) f.pattern) new =
    same-all_released new (all_released f) f.pattern in
    record { processors = rest.processors; spin_locks = rest.spin_locks; standard = rest.standard }

pub same-second : (k : KernelState) (second : ℕ) (id : Option ℕ) → Same (released_with_second k second id) k
same-second k second None = record { processors = refl; spin_locks = refl; standard = refl }
same-second k second (Some id) = record { processors = refl; spin_locks = refl; standard = refl }

pub same-handed : (k : KernelState) (datum : ℕ) (what : Sent) → Same (handed_over k datum what) k
same-handed k datum (Handed id) = record { processors = refl; spin_locks = refl; standard = refl }
same-handed k datum Stored = record { processors = refl; spin_locks = refl; standard = refl }
same-handed k datum Full = record { processors = refl; spin_locks = refl; standard = refl }

same-if : (test : Bool) (one k : KernelState) → Same one k → Same (if test then one else k) k
same-if true one k same = same
same-if false one k same = record { processors = refl; spin_locks = refl; standard = refl }

pub same-wait : (k : KernelState) (caller : ℕ) (why : WaitReason) (due : Option ℕ) (entered : KernelState) →
    Same entered k →
    Same (with_wait k caller why due entered) k
same-wait k caller why due entered same =
    same-if (can_wait (task_at k.tasks caller))
    (record entered { tasks = through (blocked why) k.tasks caller; time = with_due k.time caller due }) k
    (record { processors = same.processors; spin_locks = same.spin_locks; standard = same.standard })

pub same-entered : (k : KernelState) (caller id : ℕ) (lacks : Lacks k id) → Same (awaiting k caller id lacks) k
same-entered k caller id (No-one s there none) = record { processors = refl; spin_locks = refl; standard = refl }
same-entered k caller id _ = record { processors = refl; spin_locks = refl; standard = refl }

-- A law of what processors and spin locks tell: few effects change one of them, and the law says what it makes of each.
pub record ProcessorLaw (Known : Fact → Type 0) (Q : KernelState → Type 0) (k : KernelState) (cpu caller : ℕ) : Type 0 where
  pub same : (new : KernelState) → Same new k → Q new
  pub exits : Known OfTask → Q (unmarked_on (quits_in k caller) cpu (processor_at k cpu))
  pub marks : (p q : Processor) → processor_at k cpu ≡ Some p → q.running ≡ p.running → Holding Known k p q → Q (with_processor k cpu q)
  pub returns : (p : Processor) → processor_at k cpu ≡ Some p → Q (handler_ended k cpu p)

pub same-law : {Known : Fact → Type 0} (Q : KernelState → Type 0) (k : KernelState) (cpu caller : ℕ) → ProcessorLaw Known Q k cpu caller →
    Law Known Q k cpu caller
same-law Q k cpu caller law = record {
  stays = law.same k (record { processors = refl; spin_locks = refl; standard = refl });
  activates = λ id request of. law.same _ (record { processors = refl; spin_locks = refl; standard = refl });
  cancels = λ id. law.same _ (record { processors = refl; spin_locks = refl; standard = refl });
  wakes = λ id task there awake. law.same _ (record { processors = refl; spin_locks = refl; standard = refl });
  unwakes = λ id. law.same _ (record { processors = refl; spin_locks = refl; standard = refl });
  exits = law.exits;
  ends = λ id task there held other. law.same (quits_in k id) (same-quits k id);
  prioritizes = λ base id priority (task : Task) there. law.same _ (same-priced k base id priority (waiting_of task.status));
  migrates = λ id to task there held absent may. law.same _ (record { processors = refl; spin_locks = refl; standard = refl });
  suspends = λ id task there held may. law.same _ (record { processors = refl; spin_locks = refl; standard = refl });
  resumes = λ id. law.same _ (record { processors = refl; spin_locks = refl; standard = refl });
  rouses = λ id task there asleep. law.same _ (record { processors = refl; spin_locks = refl; standard = refl });
  breaks = λ id answer. law.same _ (same-broken k id answer);
  sleeps = λ due task there none may. law.same _ (same-wait k caller reason.Sleep due k (record { processors = refl; spin_locks = refl; standard = refl }));
  delays = λ due may. law.same _ (same-wait k caller reason.Delay (Some due) k (record { processors = refl; spin_locks = refl; standard = refl }));
  rotates = λ on priority p there. law.same _ (record { processors = refl; spin_locks = refl; standard = refl });
  marks = law.marks;
  returns = law.returns;
  signals = λ id (s : Semaphore) there.
      let only = same-released (record k { semaphores = object_changed returned k.semaphores id }) (first_waiter s) in
      law.same _ (record { processors = only.processors; spin_locks = only.spin_locks; standard = only.standard });
  takes = λ id s there. law.same _ (record { processors = refl; spin_locks = refl; standard = refl });
  sets = λ id bits f there.
      let set : KernelState = record k { flags = object_changed (joined bits) k.flags id } in
      let only = same-satisfied set id (object_at set.flags id) in
      law.same _ (record { processors = only.processors; spin_locks = only.spin_locks; standard = only.standard });
  clears = λ id bits f there. law.same _ (record { processors = refl; spin_locks = refl; standard = refl });
  gets = λ id want f there. law.same _ (record { processors = refl; spin_locks = refl; standard = refl });
  sends = λ id datum (q : DataQueueState) there.
      let only = same-handed (record k { queues = object_changed (sent datum) k.queues id }) datum (outcome q) in
      law.same _ (record { processors = only.processors; spin_locks = only.spin_locks; standard = only.standard });
  forces = λ id datum (q : DataQueueState) there.
      let only = same-handed (record k { queues = object_changed (forced datum) k.queues id }) datum (forced_outcome q) in
      law.same _ (record { processors = only.processors; spin_locks = only.spin_locks; standard = only.standard });
  receives = λ id q (it : Received) there is.
      let only = same-released (record k { queues = object_changed received k.queues id }) it.sender in
      law.same _ (record { processors = only.processors; spin_locks = only.spin_locks; standard = only.standard });
  locks = λ id m there. law.same _ (record { processors = refl; spin_locks = refl; standard = refl });
  gives = λ id m there. law.same _ (same-given k id);
  hands-out = λ id p block there is. law.same _ (record { processors = refl; spin_locks = refl; standard = refl });
  gives-back = λ id block (p : PoolState) there.
      let only = same-second (record k { pools = object_changed (given_back block) k.pools id }) block (next_holder block p) in
      law.same _ (record { processors = only.processors; spin_locks = only.spin_locks; standard = only.standard });
  posts = λ id address priority (m : MailboxState) there.
      let only = same-handed (record k { mailboxes = object_changed (message_sent (message_of address priority)) k.mailboxes id }) address (message_outcome m) in
      law.same _ (record { processors = only.processors; spin_locks = only.spin_locks; standard = only.standard });
  fetches = λ id m address there is. law.same _ (record { processors = refl; spin_locks = refl; standard = refl });
  awaits = λ id due lacks may.
      law.same _ (same-wait k caller (reason.On (lacked lacks) id) due (awaiting k caller id lacks) (same-entered k caller id lacks));
  writes = λ word. law.same _ (record { processors = refl; spin_locks = refl; standard = refl });
  ends_all = law.same _ (record { processors = refl; spin_locks = refl; standard = refl });
  sets_clock = λ clock. law.same _ (record { processors = refl; spin_locks = refl; standard = refl });
  sets_timers = λ timers. law.same _ (record { processors = refl; spin_locks = refl; standard = refl });
}
