-- Every service call leaves nobody waiting for what is there, and the waiters of each object in order.
use Rattle.std.proofs.Common.{◌≡◌, ℕ, ◌%◌, ◌^◌, [], ◌∷◌, ◌++◌, refl, sym, ap, ◌∙◌}
use Rattle.std.specs.Prelude.{Bool, true, false, Option, None, Some, is_some}
use Rattle.std.proofs.lemmas.Bool.{false≢true}
use Rattle.brd_tasks.specs.declared.status.WaitReason.TheVariants as reason
use Rattle.brd_tasks.specs.declared.task.Task.{Task}
use Rattle.brd_tasks.specs.Status.{waiting_of, suspended, resumed}
use Rattle.brd_tasks.specs.Tasks.{task_at, activated, through, changed, on_processor, noted, with_wakeup, without_activation, turned}
use Rattle.brd_objects.specs.declared.sent.Received.{Received}
use Rattle.brd_objects.specs.Table.{object_changed}
use Rattle.brd_objects.specs.Semaphores.{returned, first_waiter, has_one_in, taken, semaphore_awaited}
use Rattle.brd_objects.specs.Flags.{masked, pattern_for_in, taken_for, flag_awaited}
use Rattle.brd_objects.specs.DataQueues.{sent, outcome, outcome_in, forced, forced_outcome, received, receipt_in, awaited_by_sender, awaited_by_receiver}
use Rattle.brd_kernel.specs.declared.processor.Processor.{Processor}
use Rattle.brd_kernel.specs.declared.call.Call.{Call}
use Rattle.brd_kernel.specs.Answer.{e_ok}
use Rattle.brd_kernel.specs.Kernel.{KernelState, processor_at, unmarked}
use Rattle.brd_kernel.specs.Waits.{reason_in, quits_in}
use Rattle.brd_kernel.specs.Services.{is_sleep, is_asleep, unmarked_on, handler_ended, serve_of, caller_on, callers_priority, released_with_second, message_of}
use Rattle.brd_kernel.specs.Waiting.{SleeperIsKept, EachIsKept}
use Rattle.brd_kernel.proofs.nobody_waits.ObjectLemmas.{returned-kept, taken-kept, semaphore-awaited, masked-kept, taken-for, flag-awaited, sent-kept, forced-kept, received-kept, sender-awaited, receiver-awaited, mutex-owned, mutex-awaited}
use Rattle.brd_kernel.proofs.who_waits.RowLemmas.{suspended-keeps, resumed-keeps}
use Rattle.brd_kernel.proofs.nobody_waits.SleeperLemmas as sleeper
use Rattle.brd_kernel.proofs.WalkLemmas.{Anything, Law, Lacks, No-one, No-bits, No-room, No-datum, lacked, awaiting, serve-always, No-mutex, No-block, No-message}
use Rattle.brd_kernel.proofs.nobody_waits.EachLemmas.{others-kept, processor-kept, tasks-kept, semaphore-changed, flag-changed, queue-changed, released-kept, broken-kept, wait-kept, no-sleep, released-if, set-stays, handed-kept, quits-kept, priced-kept, mutex-changed, given-kept, prioritized-kept}
use Rattle.brd_objects.specs.declared.mutex.Mutex.{Mutex}
use Rattle.brd_objects.specs.Mutexes.{owned, mutex_awaited}
use Rattle.brd_objects.specs.Pools.{block_for_in, handed_out, given_back, next_holder, pool_awaited}
use Rattle.brd_objects.specs.Mailboxes.{message_sent, message_outcome, message_received, next_message_in, mailbox_awaited}
use Rattle.brd_kernel.proofs.nobody_waits.ObjectLemmas.{pool-handed, pool-given, pool-awaited, mailbox-sent, mailbox-received, mailbox-awaited}
use Rattle.brd_kernel.proofs.nobody_waits.EachLemmas.{pool-changed, mailbox-changed}

-- a task that is awake has a wake-up queued

abbrev wakeup_in : Option Task → Bool
wakeup_in None = false
wakeup_in (Some task) = task.wakeup

not-asleep : (k : KernelState) (id : ℕ) (task other : Task) → task_at k.tasks id ≡ Some task → is_asleep task.status ≡ false →
    task_at k.tasks id ≡ Some other →
    SleeperIsKept (with_wakeup true other)
not-asleep k id task other there awake is = λ asleep.
    absurd (false≢true (sym (ap (λ row. is_sleep (reason_in row)) (sym is ∙ there) ∙ awake) ∙ asleep))

-- a mutex that somebody has

abbrev has_owner_in : Option Mutex → Bool
has_owner_in None = false
has_owner_in (Some m) = is_some m.owner

-- Service calls.

exit-kept : (k : KernelState) (cpu : ℕ) (found : Option Processor) → EachIsKept k → EachIsKept (unmarked_on k cpu found)
exit-kept k cpu None was = was
exit-kept k cpu (Some p) was = processor-kept k cpu (unmarked p) was

-- the caller stands in the list of what it didn't find
entered-kept : (k : KernelState) (caller id : ℕ) (lacks : Lacks k id) → EachIsKept k → EachIsKept (awaiting k caller id lacks)
entered-kept k caller id (No-one s there none) was =
    let p : ℕ = callers_priority k caller in
    semaphore-changed (semaphore_awaited caller p) k id (λ x at. semaphore-awaited caller p x (ap has_one_in (sym at ∙ there) ∙ none)) was
entered-kept k caller id (No-bits want f there none some) was =
    let p : ℕ = callers_priority k caller in
    flag-changed (flag_awaited caller p want) k id
    (λ g at. flag-awaited caller p want g some (ap (pattern_for_in want) (sym at ∙ there) ∙ none)) was
entered-kept k caller id (No-room datum q there full) was =
    let p : ℕ = callers_priority k caller in
    queue-changed (awaited_by_sender caller p datum) k id (λ x at. sender-awaited caller p datum x (ap outcome_in (sym at ∙ there) ∙ full)) was
entered-kept k caller id (No-datum q there none) was =
    let p : ℕ = callers_priority k caller in
    queue-changed (awaited_by_receiver caller p) k id (λ x at. receiver-awaited caller p x (ap receipt_in (sym at ∙ there) ∙ none)) was
entered-kept k caller id (No-mutex m there held) was =
    let p : ℕ = callers_priority k caller in
    mutex-changed (mutex_awaited caller p) k id (λ x at. mutex-awaited caller p x (ap has_owner_in (sym at ∙ there) ∙ held)) was
entered-kept k caller id (No-block p there none) was =
    let own : ℕ = callers_priority k caller in
    pool-changed (pool_awaited caller own) k id (λ x at. pool-awaited caller own x (ap block_for_in (sym at ∙ there) ∙ none)) was
entered-kept k caller id (No-message m there none) was =
    let own : ℕ = callers_priority k caller in
    mailbox-changed (mailbox_awaited caller own) k id (λ x at. mailbox-awaited caller own x (ap next_message_in (sym at ∙ there) ∙ none)) was

-- a task, if it is one, is released with a second result
released-second : (k : KernelState) (second : ℕ) (first : Option ℕ) → EachIsKept k → EachIsKept (released_with_second k second first)
released-second k second None was = was
released-second k second (Some id) was = released-kept k id e_ok (Some second) was

each-law : (k : KernelState) (cpu caller : ℕ) → EachIsKept k → Law Anything EachIsKept k cpu caller
each-law k cpu caller was =
    record {
      stays = was;
      activates = λ id request of. tasks-kept k (activated k.tasks id request) (sleeper.activated-kept k.tasks id request was.sleepers) was;
      cancels = λ id. tasks-kept k (noted without_activation k.tasks id)
          (sleeper.noted-kept without_activation k.tasks id (λ x at own. own) was.sleepers) was;
      wakes = λ id task there awake. tasks-kept k (noted (with_wakeup true) k.tasks id)
          (sleeper.noted-kept (with_wakeup true) k.tasks id (λ x at own. not-asleep k id task x there awake at) was.sleepers) was;
      unwakes = λ id. tasks-kept k (noted (with_wakeup false) k.tasks id)
          (sleeper.noted-kept (with_wakeup false) k.tasks id (λ x at own asleep. refl) was.sleepers) was;
      exits = λ may. exit-kept (quits_in k caller) cpu (processor_at k cpu) (quits-kept k caller was);
      ends = λ id task there held other. quits-kept k id was;
      prioritizes = λ base id priority (task : Task) there. priced-kept k base id priority (waiting_of task.status) was;
      migrates = λ id to task there held absent may. tasks-kept k (changed (on_processor to) k.tasks id)
          (sleeper.changed-kept (on_processor to) k.tasks id (λ x own. own) was.sleepers) was;
      suspends = λ id task there held may. tasks-kept k (through suspended k.tasks id)
          (sleeper.through-kept suspended k.tasks id
          (λ x at own. sleeper.same-wait x (suspended x.status) (suspended-keeps x.status) own) was.sleepers) was;
      resumes = λ id. tasks-kept k (through resumed k.tasks id)
          (sleeper.through-kept resumed k.tasks id
          (λ x at own. sleeper.same-wait x (resumed x.status) (resumed-keeps x.status) own) was.sleepers) was;
      rouses = λ id task there asleep. released-kept k id e_ok None was;
      breaks = λ id answer. broken-kept k id answer was;
      sleeps = λ due task there none may.
          wait-kept k caller reason.Sleep due k (λ x at asleep. ap wakeup_in (sym at ∙ there) ∙ none) was was;
      delays = λ due may. wait-kept k caller reason.Delay (Some due) k (no-sleep k caller reason.Delay refl) was was;
      rotates = λ on given p there. tasks-kept k (turned k.tasks on given) was.sleepers was;
      marks = λ p q there same how. processor-kept k cpu q was;
      returns = λ p there. others-kept k (handler_ended k cpu p) refl refl refl refl refl refl was.sleepers was;
      signals = λ id s there. released-if (record k { semaphores = object_changed returned k.semaphores id }) (first_waiter s)
          (semaphore-changed returned k id (λ x at. returned-kept x) was);
      takes = λ id s there. semaphore-changed taken k id (λ x at. taken-kept x) was;
      sets = λ id bits f there. set-stays k id bits f there was;
      clears = λ id bits f there. flag-changed (masked bits) k id (λ g at. masked-kept bits g) was;
      gets = λ id want f there. flag-changed (taken_for want) k id (λ g at. taken-for want g) was;
      sends = λ id datum q there. handed-kept (record k { queues = object_changed (sent datum) k.queues id }) datum (outcome q)
          (queue-changed (sent datum) k id (λ x at. sent-kept datum x) was);
      forces = λ id datum q there. handed-kept (record k { queues = object_changed (forced datum) k.queues id }) datum (forced_outcome q)
          (queue-changed (forced datum) k id (λ x at. forced-kept datum x) was);
      receives = λ id q (it : Received) there is. released-if (record k { queues = object_changed received k.queues id }) it.sender
          (queue-changed received k id (λ x at. received-kept x) was);
      locks = λ id m there. mutex-changed (owned caller) k id (λ x at. mutex-owned caller x) was;
      gives = λ id m there. given-kept k id was;
      hands-out = λ id p block there is. pool-changed handed_out k id (λ x at. pool-handed x) was;
      gives-back = λ id block p there. released-second (record k { pools = object_changed (given_back block) k.pools id }) block (next_holder block p)
          (pool-changed (given_back block) k id (λ x at. pool-given block x) was);
      posts = λ id address priority m there.
          handed-kept (record k { mailboxes = object_changed (message_sent (message_of address priority)) k.mailboxes id }) address (message_outcome m)
          (mailbox-changed (message_sent (message_of address priority)) k id (λ x at. mailbox-sent (message_of address priority) x) was);
      fetches = λ id m address there is. mailbox-changed message_received k id (λ x at. mailbox-received x) was;
      awaits = λ id due lacks may. wait-kept k caller (reason.On (lacked lacks) id) due (awaiting k caller id lacks)
          (no-sleep k caller (reason.On (lacked lacks) id) refl) was (entered-kept k caller id lacks was);
      writes = λ word. others-kept k (record k { console = k.console ++ word % 2 ^ 8 ∷ [] }) refl refl refl refl refl refl was.sleepers was;
      ends_all = others-kept k (record k { off = true }) refl refl refl refl refl refl was.sleepers was;
      sets_clock = λ clock. others-kept k (record k { clock = clock }) refl refl refl refl refl refl was.sleepers was;
      sets_timers = λ timers. others-kept k (record k { timers = timers }) refl refl refl refl refl refl was.sleepers was;
    }

pub serve-kept : (k : KernelState) (cpu : ℕ) (c : Call) → EachIsKept k → EachIsKept (serve_of k cpu c).kernel
serve-kept k cpu c was = serve-always EachIsKept k cpu (each-law k cpu (caller_on k cpu) was) prioritized-kept c
