-- One walk over the service table, for every law of what a service call leaves. A law says what holds after each effect
-- that a call can have (`Law`); the walk says of each call which effect it has. A call that has an effect which others
-- have already is one case here, and nothing in any law.
use Rattle.std.proofs.Common.{◌≡◌, ◌≢◌, ℕ, ◌%◌, ◌^◌, [], ◌∷◌, ◌++◌, refl, ap, subst, ◌∙◌, arith}
use Rattle.std.specs.Prelude.{Bool, true, false, not, ◌==◌, ◌&&◌, ◌||◌, nat_lt, List, Option, None, Some, Err, is_some, Result, Ok}
use Rattle.std.proofs.lemmas.Bool.{or_parts, true≢false}
use Rattle.std.proofs.lemmas.Bool.Decides.{nat_tests}
use Rattle.brd_tasks.specs.declared.status.WaitReason.{WaitReason}
use Rattle.brd_tasks.specs.declared.status.WaitReason.TheVariants as reason
use Rattle.brd_tasks.specs.declared.status.WaitKind.{WaitKind}
use Rattle.brd_tasks.specs.declared.status.WaitKind.TheVariants as kind
use Rattle.brd_tasks.specs.declared.task.Task.{Task}
use Rattle.brd_tasks.specs.declared.task.Request.{Request}
use Rattle.brd_tasks.specs.declared.task.Request.TheVariants.{Assigned, On}
use Rattle.brd_tasks.specs.Status.{waiting_of, is_dormant, suspended, resumed}
use Rattle.brd_tasks.specs.Tasks.{task_at, activated, through, changed, on_processor, noted, with_wakeup, without_activation, turned}
use Rattle.brd_objects.specs.declared.semaphore.Semaphore.{Semaphore}
use Rattle.brd_objects.specs.declared.flag.Flag.{Flag}
use Rattle.brd_objects.specs.declared.want.Want.{Want}
use Rattle.brd_objects.specs.declared.sent.Sent.{Sent}
use Rattle.brd_objects.specs.declared.sent.Sent.TheVariants.{Handed, Stored, Full}
use Rattle.brd_objects.specs.declared.sent.Received.{Received}
use Rattle.brd_objects.specs.Table.{object_at, object_changed}
use Rattle.brd_objects.specs.Semaphores.{returned, first_waiter, has_one, taken, semaphore_awaited}
use Rattle.brd_objects.specs.Flags.{joined, masked, pattern_for, taken_for, flag_awaited}
use Rattle.brd_objects.specs.DataQueues.{DataQueueState, sent, outcome, forced, forced_outcome, received, receipt, awaited_by_sender, awaited_by_receiver}
use Rattle.brd_kernel.specs.declared.processor.Processor.{Processor}
use Rattle.brd_kernel.specs.declared.processor.Spin.{Spin}
use Rattle.brd_kernel.specs.declared.processor.Spin.TheVariants as spin
use Rattle.brd_kernel.specs.declared.call.Call.{Call}
use Rattle.brd_kernel.specs.declared.call.Call.TheVariants as call
use Rattle.brd_kernel.specs.declared.call.Ercd.{Ercd}
use Rattle.brd_kernel.specs.declared.call.Ercd.TheVariants.{Rlwai, Tmout}
use Rattle.brd_kernel.specs.declared.call.Reply.{Reply}
use Rattle.brd_kernel.specs.declared.call.Reply.TheVariants.{Answer, Silent, Again}
use Rattle.brd_kernel.specs.Answer.{e_ok, code_of}
use Rattle.brd_timers.specs.declared.timer.Timer.{Timer}
use Rattle.brd_timers.specs.Timers.{changed_at, started, asked_for, stopped}
use Rattle.brd_kernel.specs.Kernel.{KernelState, with_tasks, with_processor, processor_at, spin_of, holding, letting_go, cyclic_place, alarm_place}
use Rattle.brd_kernel.specs.Waits.{base_in, is_bad_timeout, due_by, due_after, with_wait, released_in, broken_off, with_released, quits_in, given_in, prioritized}
use Rattle.brd_kernel.specs.Row.{served, asks_again, Served}
use Rattle.brd_kernel.specs.Services as table
use Rattle.brd_kernel.specs.Services.{named, is_asleep, is_bad_want, is_held_elsewhere, is_no_processor, or_waits, callers_priority, with_satisfied_released, handed_over, flag_got, queue_sent, queue_received, block_got, message_got, message_of, released_with_second, unmarked_on, handler_ended, is_taken, lock_taken_by, lock_taken, lock_given_by, is_no_id, is_there_taken, comes_again, serve_by, serve_of, caller_on}
use Rattle.brd_kernel.proofs.ServedLemmas.{Wanted, Leaves, leaves-row, leaves-if, leaves-or_refused, again-or_refused, LeavesBy}
use Rattle.brd_kernel.proofs.PricedLemmas.{priced_in}
use Rattle.brd_objects.specs.declared.mutex.Mutex.{Mutex}
use Rattle.brd_objects.specs.Mutexes.{owned, mutex_awaited}
use Rattle.brd_objects.specs.Pools.{PoolState, block_for, handed_out, given_back, next_holder, pool_awaited}
use Rattle.brd_objects.specs.Mailboxes.{MailboxState, message_sent, message_outcome, message_received, next_message, mailbox_awaited}

-- a request names a processor of the board, if it names one
abbrev pub IsOfBoard : KernelState → Request → Type 0
IsOfBoard k Assigned = Unit {0}
IsOfBoard k (On to) = is_no_processor k to ≡ false

-- the caller stands in the list of what it begins to wait for

abbrev pub in_semaphore : KernelState → ℕ → ℕ → KernelState
in_semaphore k caller id = record k { semaphores = object_changed (semaphore_awaited caller (callers_priority k caller)) k.semaphores id }

abbrev pub in_flag : KernelState → ℕ → ℕ → Want → KernelState
in_flag k caller id want = record k { flags = object_changed (flag_awaited caller (callers_priority k caller) want) k.flags id }

abbrev pub in_senders : KernelState → ℕ → ℕ → ℕ → KernelState
in_senders k caller id datum = record k { queues = object_changed (awaited_by_sender caller (callers_priority k caller) datum) k.queues id }

abbrev pub in_mutex : KernelState → ℕ → ℕ → KernelState
in_mutex k caller id = record k { mutexes = object_changed (mutex_awaited caller (callers_priority k caller)) k.mutexes id }

abbrev pub in_pool : KernelState → ℕ → ℕ → KernelState
in_pool k caller id = record k { pools = object_changed (pool_awaited caller (callers_priority k caller)) k.pools id }

abbrev pub in_mailbox : KernelState → ℕ → ℕ → KernelState
in_mailbox k caller id = record k { mailboxes = object_changed (mailbox_awaited caller (callers_priority k caller)) k.mailboxes id }

abbrev pub in_receivers : KernelState → ℕ → ℕ → KernelState
in_receivers k caller id = record k { queues = object_changed (awaited_by_receiver caller (callers_priority k caller)) k.queues id }

-- What a caller finds of an object where it begins to wait for it: a semaphore without one, a flag without the bits, a
-- full data queue, an empty one, a mutex that somebody has, a memory pool of which all blocks are out, or a mailbox
-- without a message.
pub data Lacks (k : KernelState) (id : ℕ) : Type 0 where
  No-one : (s : Semaphore) → object_at k.semaphores id ≡ Some s → has_one s ≡ false → Lacks k id
  No-bits : (want : Want) (f : Flag) → object_at k.flags id ≡ Some f → pattern_for want f ≡ None → want.bits ≢ 0 → Lacks k id
  No-room : (datum : ℕ) (q : DataQueueState) → object_at k.queues id ≡ Some q → outcome q ≡ Full → Lacks k id
  No-datum : (q : DataQueueState) → object_at k.queues id ≡ Some q → receipt q ≡ None → Lacks k id
  No-mutex : (m : Mutex) → object_at k.mutexes id ≡ Some m → is_some m.owner ≡ true → Lacks k id
  No-block : (p : PoolState) → object_at k.pools id ≡ Some p → block_for p ≡ None → Lacks k id
  No-message : (m : MailboxState) → object_at k.mailboxes id ≡ Some m → next_message m ≡ None → Lacks k id

-- what it waits for then
abbrev pub lacked : {k : KernelState} {id : ℕ} → Lacks k id → WaitKind
lacked (No-one s there none) = kind.Semaphore
lacked (No-bits want f there none some) = kind.Flag
lacked (No-room datum q there full) = kind.Room
lacked (No-datum q there none) = kind.Datum
lacked (No-mutex m there held) = kind.Mutex
lacked (No-block p there none) = kind.Block
lacked (No-message m there none) = kind.Message

-- it stands in the list of that
abbrev pub awaiting : (k : KernelState) (caller id : ℕ) → Lacks k id → KernelState
awaiting k caller id (No-one s there none) = in_semaphore k caller id
awaiting k caller id (No-bits want f there none some) = in_flag k caller id want
awaiting k caller id (No-room datum q there full) = in_senders k caller id datum
awaiting k caller id (No-datum q there none) = in_receivers k caller id
awaiting k caller id (No-mutex m there held) = in_mutex k caller id
awaiting k caller id (No-block p there none) = in_pool k caller id
awaiting k caller id (No-message m there none) = in_mailbox k caller id

-- What the gate may have shown of a caller: its processor isn't held; it is the task that runs there, and no handler;
-- its processor may take a spin lock: the task that runs there executes, or with the profile its handler; its processor
-- holds no spin lock.
pub data Fact : Type 0 where
  Unheld : Fact
  OfTask : Fact
  MayTake : Fact
  HoldsNone : Fact

-- a processor goes on holding the spin lock that it holds, if it holds one, and stands as it did
pub record HoldsOn (p q : Processor) : Type 0 where
  pub spin : q.spin ≡ p.spin
  pub locked : p.locked ≡ true → q.locked ≡ true
  pub handling : q.handling ≡ p.handling
  pub on : q.stopped ≡ p.stopped

-- What becomes of the spin lock of a processor `p` that is then `q`: it keeps it; it is no longer CPU-locked, as it
-- holds none; it takes one that is free; or it holds none after it.
pub data Holding (Known : Fact → Type 0) (k : KernelState) (p q : Processor) : Type 0 where
  Keeps : HoldsOn p q → Holding Known k p q
  Opens : Known HoldsNone → q.spin ≡ p.spin → Holding Known k p q
  Takes : (id : ℕ) → spin_of k id ≡ Some spin.Free → Known MayTake → q ≡ holding id p → Holding Known k p q
  Leaves-none : q.spin ≡ None → Holding Known k p q

-- What a law says of each effect that a call of a caller on a processor can have: `Q` is what holds after it. `Known`
-- is what is known of the caller: that its processor isn't held where it stops running (it waits, or suspends or
-- migrates itself), that it is a task where it ends, that its processor may take a spin lock where it takes one, and
-- that it holds none where the CPU lock is taken away.
pub record Law (Known : Fact → Type 0) (Q : KernelState → Type 0) (k : KernelState) (cpu caller : ℕ) : Type 0 where
  -- nothing changes
  pub stays : Q k
  -- of a task
  pub activates : (id : ℕ) (request : Request) → IsOfBoard k request → Q (with_tasks k (activated k.tasks id request))
  pub cancels : (id : ℕ) → Q (with_tasks k (noted without_activation k.tasks id))
  pub wakes : (id : ℕ) (task : Task) → task_at k.tasks id ≡ Some task → is_asleep task.status ≡ false →
      Q (with_tasks k (noted (with_wakeup true) k.tasks id))
  pub unwakes : (id : ℕ) → Q (with_tasks k (noted (with_wakeup false) k.tasks id))
  pub exits : Known OfTask → Q (unmarked_on (quits_in k caller) cpu (processor_at k cpu))
  pub ends : (id : ℕ) (task : Task) → task_at k.tasks id ≡ Some task → is_held_elsewhere k cpu id task ≡ false → (id == caller) ≡ false →
      Q (quits_in k id)
  pub prioritizes : (base : Task → ℕ) (id priority : ℕ) (task : Task) → task_at k.tasks id ≡ Some task →
      Q (priced_in k base id priority (waiting_of task.status))
  pub migrates : (id to : ℕ) (task : Task) → task_at k.tasks id ≡ Some task → is_held_elsewhere k cpu id task ≡ false →
      is_no_processor k to ≡ false → ((id == caller) ≡ true → Known Unheld) →
      Q (with_tasks k (changed (on_processor to) k.tasks id))
  pub suspends : (id : ℕ) (task : Task) → task_at k.tasks id ≡ Some task → is_held_elsewhere k cpu id task ≡ false →
      ((id == caller) ≡ true → Known Unheld) →
      Q (with_tasks k (through suspended k.tasks id))
  pub resumes : (id : ℕ) → Q (with_tasks k (through resumed k.tasks id))
  -- of a wait for time
  pub rouses : (id : ℕ) (task : Task) → task_at k.tasks id ≡ Some task → is_asleep task.status ≡ true → Q (released_in k id e_ok None)
  pub breaks : (id answer : ℕ) → Q (broken_off k id answer)
  pub sleeps : (due : Option ℕ) (task : Task) → task_at k.tasks caller ≡ Some task → task.wakeup ≡ false → Known Unheld →
      Q (with_wait k caller reason.Sleep due k)
  pub delays : (due : ℕ) → Known Unheld → Q (with_wait k caller reason.Delay (Some due) k)
  -- of a processor
  pub rotates : (on priority : ℕ) (p : Processor) → processor_at k on ≡ Some p → Q (with_tasks k (turned k.tasks on priority))
  pub marks : (p q : Processor) → processor_at k cpu ≡ Some p → q.running ≡ p.running → Holding Known k p q → Q (with_processor k cpu q)
  pub returns : (p : Processor) → processor_at k cpu ≡ Some p → Q (handler_ended k cpu p)
  -- of a semaphore
  pub signals : (id : ℕ) (s : Semaphore) → object_at k.semaphores id ≡ Some s →
      Q (with_released (record k { semaphores = object_changed returned k.semaphores id }) (first_waiter s))
  pub takes : (id : ℕ) (s : Semaphore) → object_at k.semaphores id ≡ Some s → Q (record k { semaphores = object_changed taken k.semaphores id })
  -- of an event flag
  pub sets : (id bits : ℕ) (f : Flag) → object_at k.flags id ≡ Some f →
      Q (with_satisfied_released (record k { flags = object_changed (joined bits) k.flags id }) id)
  pub clears : (id bits : ℕ) (f : Flag) → object_at k.flags id ≡ Some f → Q (record k { flags = object_changed (masked bits) k.flags id })
  pub gets : (id : ℕ) (want : Want) (f : Flag) → object_at k.flags id ≡ Some f → Q (record k { flags = object_changed (taken_for want) k.flags id })
  -- of a data queue
  pub sends : (id datum : ℕ) (q : DataQueueState) → object_at k.queues id ≡ Some q →
      Q (handed_over (record k { queues = object_changed (sent datum) k.queues id }) datum (outcome q))
  pub forces : (id datum : ℕ) (q : DataQueueState) → object_at k.queues id ≡ Some q →
      Q (handed_over (record k { queues = object_changed (forced datum) k.queues id }) datum (forced_outcome q))
  pub receives : (id : ℕ) (q : DataQueueState) (it : Received) → object_at k.queues id ≡ Some q → receipt q ≡ Some it →
      Q (with_released (record k { queues = object_changed received k.queues id }) it.sender)
  -- of a mutex
  pub locks : (id : ℕ) (m : Mutex) → object_at k.mutexes id ≡ Some m → Q (record k { mutexes = object_changed (owned caller) k.mutexes id })
  pub gives : (id : ℕ) (m : Mutex) → object_at k.mutexes id ≡ Some m → Q (given_in k id)
  -- of a memory pool
  pub hands-out : (id : ℕ) (p : PoolState) (block : ℕ) → object_at k.pools id ≡ Some p → block_for p ≡ Some block →
      Q (record k { pools = object_changed handed_out k.pools id })
  pub gives-back : (id block : ℕ) (p : PoolState) → object_at k.pools id ≡ Some p →
      Q (released_with_second (record k { pools = object_changed (given_back block) k.pools id }) block (next_holder block p))
  -- of a mailbox
  pub posts : (id address priority : ℕ) (m : MailboxState) → object_at k.mailboxes id ≡ Some m →
      Q (handed_over (record k { mailboxes = object_changed (message_sent (message_of address priority)) k.mailboxes id }) address (message_outcome m))
  pub fetches : (id : ℕ) (m : MailboxState) (address : ℕ) → object_at k.mailboxes id ≡ Some m → next_message m ≡ Some address →
      Q (record k { mailboxes = object_changed message_received k.mailboxes id })
  -- of a wait for an object
  pub awaits : (id : ℕ) (due : Option ℕ) (lacks : Lacks k id) → Known Unheld →
      Q (with_wait k caller (reason.On (lacked lacks) id) due (awaiting k caller id lacks))
  -- of the board
  pub writes : (word : ℕ) → Q (record k { console = k.console ++ word % 2 ^ 8 ∷ [] })
  pub ends_all : Q (record k { off = true })
  -- of the system time
  pub sets_clock : (clock : ℕ) → Q (record k { clock = clock })
  -- of the times of time handlers
  pub sets_timers : (timers : List (Option Timer)) → Q (record k { timers = timers })

-- What a call may do to its caller: it goes on; it takes a spin lock; it is no longer CPU-locked; it may wait for so
-- long, or for 0 only polls; it waits; it names the task that is to stop, which may be itself; or it ends.
pub data CallerStop : Type 0 where
  GoesOn : CallerStop
  Locks : CallerStop
  Unlocks : CallerStop
  MayWait : ℕ → CallerStop
  Waits : CallerStop
  Names : ℕ → CallerStop
  Ends : CallerStop

abbrev pub stop_of : Call → CallerStop
stop_of call.ExtTsk = Ends
stop_of (call.LocSpn l) = Locks
stop_of (call.TrySpn l) = Locks
stop_of call.UnlCpu = Unlocks
stop_of (call.MigTsk t to) = Names t
stop_of (call.SusTsk t) = Names t
stop_of (call.TslpTsk timeout) = MayWait timeout
stop_of (call.DlyTsk time) = Waits
stop_of (call.TwaiSem s timeout) = MayWait timeout
stop_of (call.TwaiFlg f bits mode timeout) = MayWait timeout
stop_of (call.TsndDtq q datum timeout) = MayWait timeout
stop_of (call.TrcvDtq q timeout) = MayWait timeout
stop_of (call.TlocMtx m timeout) = MayWait timeout
stop_of (call.TgetMpf p timeout) = MayWait timeout
stop_of (call.TrcvMbx b timeout) = MayWait timeout
stop_of _ = GoesOn

-- What has to be known of the caller of a call by that.
abbrev pub MayStop : (Fact → Type 0) → ℕ → CallerStop → Type 0
MayStop Known caller GoesOn = Unit {0}
MayStop Known caller Locks = Known MayTake
MayStop Known caller Unlocks = Known HoldsNone
MayStop Known caller (MayWait timeout) = (timeout == 0) ≡ false → Known Unheld
MayStop Known caller Waits = Known Unheld
MayStop Known caller (Names t) = (named caller t == caller) ≡ true → Known Unheld
MayStop Known caller Ends = Known OfTask

abbrev pub May : (Fact → Type 0) → ℕ → Call → Type 0
May Known caller c = MayStop Known caller (stop_of c)

-- where nothing needs to be known, every call may be

abbrev pub Anything : Fact → Type 0
Anything fact = Unit {0}

any-may : (caller : ℕ) (stop : CallerStop) → MayStop Anything caller stop
any-may caller GoesOn = tt
any-may caller Locks = tt
any-may caller Unlocks = tt
any-may caller (MayWait timeout) = λ waits. tt
any-may caller Waits = tt
any-may caller (Names t) = λ own. tt
any-may caller Ends = tt

-- What tests have shown.

or-right : (one other : Bool) → (one || other) ≡ false → other ≡ false
or-right one other none = grind (arith, none)

last-false : (one two three : Bool) → (one || two || three) ≡ false → three ≡ false
last-false one two three none = grind (arith, none)

some-bits : (bits mode timeout : ℕ) → (is_bad_want bits mode || is_bad_timeout timeout) ≡ false → bits ≢ 0
unfolding is_bad_want
some-bits bits mode timeout good =
    let want = or_parts (bits == 0 || nat_lt 1 mode) (is_bad_timeout timeout) good in
    let bits_test = or_parts (bits == 0) (nat_lt 1 mode) want.0 in
    grind (arith, nat_tests, bits_test.0)

-- Calls that may wait.

waits : (Q : Wanted) (k : KernelState) (caller : ℕ) (why : WaitReason) (timeout : ℕ) (entered : KernelState) →
    ((timeout == 0) ≡ false → Q.kernel (with_wait k caller why (due_by k timeout) entered)) → Leaves Q (or_waits k caller why timeout entered)
waits Q k caller why timeout entered leaves = leaves-if Q (timeout == 0) (Err Tmout) _ (λ polls. tt) leaves

got : {Known : Fact → Type 0} (Q : Wanted) (k : KernelState) (cpu caller : ℕ) (law : Law Known Q.kernel k cpu caller) (id : ℕ) (want : Want)
    (timeout : ℕ) (f : Flag) (pattern : Option ℕ) → object_at k.flags id ≡ Some f → pattern_for want f ≡ pattern → want.bits ≢ 0 →
    ((timeout == 0) ≡ false → Known Unheld) →
    Leaves Q (flag_got k caller id want timeout pattern)
got Q k cpu caller law id want timeout f (Some pattern) there is some may = law.gets id want f there
got Q k cpu caller law id want timeout f None there is some may =
    waits Q k caller (reason.On kind.Flag id) timeout (in_flag k caller id want)
    (λ wait. law.awaits id (due_by k timeout) (No-bits want f there is some) (may wait))

sent-to : {Known : Fact → Type 0} (Q : Wanted) (k : KernelState) (cpu caller : ℕ) (law : Law Known Q.kernel k cpu caller) (id datum timeout : ℕ)
    (q : DataQueueState) (what : Sent) → object_at k.queues id ≡ Some q → outcome q ≡ what → ((timeout == 0) ≡ false → Known Unheld) →
    Leaves Q (queue_sent k caller id datum timeout what)
sent-to Q k cpu caller law id datum timeout q (Handed task) there is may =
    subst (λ what. Q.kernel (handed_over (record k { queues = object_changed (sent datum) k.queues id }) datum what)) is (law.sends id datum q there)
sent-to Q k cpu caller law id datum timeout q Stored there is may =
    subst (λ what. Q.kernel (handed_over (record k { queues = object_changed (sent datum) k.queues id }) datum what)) is (law.sends id datum q there)
sent-to Q k cpu caller law id datum timeout q Full there is may =
    waits Q k caller (reason.On kind.Room id) timeout (in_senders k caller id datum)
    (λ wait. law.awaits id (due_by k timeout) (No-room datum q there is) (may wait))

received-by : {Known : Fact → Type 0} (Q : Wanted) (k : KernelState) (cpu caller : ℕ) (law : Law Known Q.kernel k cpu caller) (id timeout : ℕ)
    (q : DataQueueState) (what : Option Received) → object_at k.queues id ≡ Some q → receipt q ≡ what → ((timeout == 0) ≡ false → Known Unheld) →
    Leaves Q (queue_received k caller id timeout what)
received-by Q k cpu caller law id timeout q (Some it) there is may = law.receives id q it there is
received-by Q k cpu caller law id timeout q None there is may =
    waits Q k caller (reason.On kind.Datum id) timeout (in_receivers k caller id)
    (λ wait. law.awaits id (due_by k timeout) (No-datum q there is) (may wait))

block-for : {Known : Fact → Type 0} (Q : Wanted) (k : KernelState) (cpu caller : ℕ) (law : Law Known Q.kernel k cpu caller) (id timeout : ℕ)
    (p : PoolState) (found : Option ℕ) → object_at k.pools id ≡ Some p → block_for p ≡ found → ((timeout == 0) ≡ false → Known Unheld) →
    Leaves Q (block_got k caller id timeout found)
block-for Q k cpu caller law id timeout p (Some block) there is may = law.hands-out id p block there is
block-for Q k cpu caller law id timeout p None there is may =
    waits Q k caller (reason.On kind.Block id) timeout (in_pool k caller id)
    (λ wait. law.awaits id (due_by k timeout) (No-block p there is) (may wait))

message-for : {Known : Fact → Type 0} (Q : Wanted) (k : KernelState) (cpu caller : ℕ) (law : Law Known Q.kernel k cpu caller) (id timeout : ℕ)
    (m : MailboxState) (found : Option ℕ) → object_at k.mailboxes id ≡ Some m → next_message m ≡ found → ((timeout == 0) ≡ false → Known Unheld) →
    Leaves Q (message_got k caller id timeout found)
message-for Q k cpu caller law id timeout m (Some address) there is may = law.fetches id m address there is
message-for Q k cpu caller law id timeout m None there is may =
    waits Q k caller (reason.On kind.Message id) timeout (in_mailbox k caller id)
    (λ wait. law.awaits id (due_by k timeout) (No-message m there is) (may wait))

woken : {Known : Fact → Type 0} (Q : Wanted) (k : KernelState) (cpu caller : ℕ) (law : Law Known Q.kernel k cpu caller) (id : ℕ) →
    Leaves Q (served (table.wup_tsk k id))
woken Q k cpu caller law id =
    leaves-row Q (table.wup_tsk k id)
    (λ (task : Task) passes. leaves-if Q (is_asleep task.status) _ _ (law.rouses id task passes.there) (law.wakes id task passes.there))

-- Calls that mark a processor, and those of spin locks.

stays-locked : {Known : Fact → Type 0} {k : KernelState} {p : Processor} {disabled : Bool} → Holding Known k p (record p { disabled = disabled })
stays-locked = Keeps (record { spin = refl; locked = λ is. is; handling = refl; on = refl })

now-locked : {Known : Fact → Type 0} {k : KernelState} {p : Processor} → Holding Known k p (record p { locked = true })
now-locked = Keeps (record { spin = refl; locked = λ is. refl; handling = refl; on = refl })

is-free : (lock : Spin) → is_taken lock ≡ false → lock ≡ spin.Free
is-free spin.Free free = refl
is-free (spin.Held cpu) free = absurd (true≢false free)

is-held : (k : KernelState) (id : ℕ) (lock : Spin) → is_no_id id ≡ false → spin_of k id ≡ Some lock → is_taken lock ≡ true →
    comes_again k (call.LocSpn id) ≡ true
is-held k id lock good there taken = ap (λ bad. not bad && is_there_taken (spin_of k id)) good ∙ ap is_there_taken there ∙ taken

takes-by : {Known : Fact → Type 0} (Q : Wanted) (k : KernelState) (cpu caller : ℕ) (law : Law Known Q.kernel k cpu caller) (id : ℕ) (lock : Spin)
    (found : Option Processor) → processor_at k cpu ≡ found → spin_of k id ≡ Some lock → is_taken lock ≡ false → Known MayTake →
    Q.kernel (lock_taken_by k cpu id found)
takes-by Q k cpu caller law id lock None is there free may = law.stays
takes-by Q k cpu caller law id lock (Some p) is there free may =
    law.marks p (holding id p) is refl (Takes id (there ∙ ap Some (is-free lock free)) may refl)

takes-lock : {Known : Fact → Type 0} (Q : Wanted) (k : KernelState) (cpu caller : ℕ) (law : Law Known Q.kernel k cpu caller) (id : ℕ) (lock : Spin) →
    spin_of k id ≡ Some lock → is_taken lock ≡ false → Known MayTake → Q.kernel (lock_taken k cpu id)
takes-lock Q k cpu caller law id lock there free may = takes-by Q k cpu caller law id lock (processor_at k cpu) refl there free may

gives-by : {Known : Fact → Type 0} (Q : Wanted) (k : KernelState) (cpu caller : ℕ) (law : Law Known Q.kernel k cpu caller)
    (found : Option Processor) → processor_at k cpu ≡ found → Q.kernel (lock_given_by k cpu found)
gives-by Q k cpu caller law None is = law.stays
gives-by Q k cpu caller law (Some p) is = law.marks p (letting_go p) is refl (Leaves-none refl)

-- The walk.

walk : {Known : Fact → Type 0} (Q : Wanted) (k : KernelState) (cpu caller : ℕ) (law : Law Known Q.kernel k cpu caller) (c : Call) →
    May Known caller c → (comes_again k c ≡ true → Q.again) → Leaves Q (serve_by k cpu caller c)
walk Q k cpu caller law (call.ActTsk t) may told = leaves-row Q (table.act_tsk k (named caller t)) (λ task passes. law.activates (named caller t) Assigned tt)
walk Q k cpu caller law (call.IactTsk t) may told = leaves-row Q (table.act_tsk k t) (λ task passes. law.activates t Assigned tt)
walk Q k cpu caller law (call.MactTsk t to) may told =
    leaves-row Q (table.mact_tsk k (named caller t) to) (λ task passes. law.activates (named caller t) (On to) passes.par)
walk Q k cpu caller law (call.ImactTsk t to) may told = leaves-row Q (table.mact_tsk k t to) (λ task passes. law.activates t (On to) passes.par)
walk Q k cpu caller law (call.CanAct t) may told = leaves-row Q (table.can_act k (named caller t)) (λ task passes. law.cancels (named caller t))
walk Q k cpu caller law call.ExtTsk may told = leaves-row Q (table.ext_tsk k cpu caller) (λ task passes. law.exits may)
walk Q k cpu caller law (call.TerTsk t) may told =
    leaves-row Q (table.ter_tsk k cpu caller t)
    (λ (task : Task) passes. law.ends t task passes.there (or-right (is_dormant task.status) (is_held_elsewhere k cpu t task) passes.obj) passes.iluse)
walk Q k cpu caller law (call.ChgPri t priority) may told =
    leaves-row Q (table.chg_pri k (named caller t) priority)
    (λ (task : Task) passes. law.prioritizes (λ x. table.priority_or_initial priority task) (named caller t) (table.priority_or_initial priority task) task passes.there)
walk Q k cpu caller law (call.GetPri t) may told = leaves-row Q (table.get_pri k (named caller t)) (λ task passes. law.stays)
walk Q k cpu caller law (call.MigTsk t to) may told =
    leaves-row Q (table.mig_tsk k cpu (named caller t) to)
    (λ (task : Task) passes. law.migrates (named caller t) to task passes.there
    (last-false (is_dormant task.status) (task.cpu == to) (is_held_elsewhere k cpu (named caller t) task) passes.obj) passes.par may)
walk Q k cpu caller law call.GetPid may told = leaves-row Q (table.get_pid k cpu) (λ x passes. law.stays)
walk Q k cpu caller law (call.RotRdq priority) may told =
    leaves-row Q (table.rot_rdq k cpu caller priority)
    (λ p passes. law.rotates cpu (table.priority_or_callers priority (base_in (task_at k.tasks caller))) p passes.there)
walk Q k cpu caller law (call.IrotRdq priority) may told = leaves-row Q (table.irot_rdq k cpu priority) (λ p passes. law.rotates cpu priority p passes.there)
walk Q k cpu caller law call.GetTid may told = leaves-row Q (table.get_tid k caller) (λ x passes. law.stays)
walk Q k cpu caller law call.DisDsp may told =
    leaves-row Q (table.mark_dsp k cpu true) (λ (p : Processor) passes. law.marks p (record p { disabled = true }) passes.there refl stays-locked)
walk Q k cpu caller law call.EnaDsp may told =
    leaves-row Q (table.mark_dsp k cpu false) (λ (p : Processor) passes. law.marks p (record p { disabled = false }) passes.there refl stays-locked)
walk Q k cpu caller law call.LocCpu may told =
    leaves-row Q (table.mark_cpu k cpu true) (λ (p : Processor) passes. law.marks p (record p { locked = true }) passes.there refl now-locked)
walk Q k cpu caller law call.UnlCpu may told =
    leaves-row Q (table.mark_cpu k cpu false) (λ (p : Processor) passes. law.marks p (record p { locked = false }) passes.there refl (Opens may refl))
walk Q k cpu caller law (call.TslpTsk timeout) may told =
    leaves-row Q (table.tslp_tsk k caller timeout)
    (λ (task : Task) passes. leaves-if Q task.wakeup _ _ (λ queued. law.unwakes caller)
    (λ none. waits Q k caller reason.Sleep timeout k (λ wait. law.sleeps (due_by k timeout) task passes.there none (may wait))))
walk Q k cpu caller law (call.WupTsk t) may told = woken Q k cpu caller law (named caller t)
walk Q k cpu caller law (call.IwupTsk t) may told = woken Q k cpu caller law t
walk Q k cpu caller law (call.CanWup t) may told = leaves-row Q (table.can_wup k (named caller t)) (λ task passes. law.unwakes (named caller t))
walk Q k cpu caller law (call.RelWai t) may told = leaves-row Q (table.rel_wai k t) (λ task passes. law.breaks t (code_of Rlwai))
walk Q k cpu caller law (call.SusTsk t) may told =
    leaves-row Q (table.sus_tsk k cpu (named caller t))
    (λ (task : Task) passes. law.suspends (named caller t) task passes.there
    (or-right (is_dormant task.status) (is_held_elsewhere k cpu (named caller t) task) passes.obj) may)
walk Q k cpu caller law (call.RsmTsk t) may told = leaves-row Q (table.rsm_tsk k t) (λ task passes. law.resumes t)
walk Q k cpu caller law (call.DlyTsk time) may told = leaves-row Q (table.dly_tsk k caller time) (λ task passes. law.delays (due_after k time) may)
walk Q k cpu caller law (call.SigSem id) may told = leaves-row Q (table.sig_sem k id) (λ (s : Semaphore) passes. law.signals id s passes.there)
walk Q k cpu caller law (call.TwaiSem id timeout) may told =
    leaves-row Q (table.twai_sem k caller id timeout)
    (λ (s : Semaphore) passes. leaves-if Q (has_one s) _ _ (λ one. law.takes id s passes.there)
    (λ none. waits Q k caller (reason.On kind.Semaphore id) timeout (in_semaphore k caller id)
    (λ wait. law.awaits id (due_by k timeout) (No-one s passes.there none) (may wait))))
walk Q k cpu caller law (call.SetFlg id bits) may told = leaves-row Q (table.set_flg k id bits) (λ (f : Flag) passes. law.sets id bits f passes.there)
walk Q k cpu caller law (call.ClrFlg id bits) may told = leaves-row Q (table.clr_flg k id bits) (λ (f : Flag) passes. law.clears id bits f passes.there)
walk Q k cpu caller law (call.TwaiFlg id bits mode timeout) may told =
    leaves-row Q (table.twai_flg k caller id bits mode timeout)
    (λ (f : Flag) passes. got Q k cpu caller law id (table.want_of bits mode) timeout f (pattern_for (table.want_of bits mode) f) passes.there refl
    (some-bits bits mode timeout passes.par) may)
walk Q k cpu caller law (call.TsndDtq id datum timeout) may told =
    leaves-row Q (table.tsnd_dtq k caller id datum timeout)
    (λ (q : DataQueueState) passes. sent-to Q k cpu caller law id datum timeout q (outcome q) passes.there refl may)
walk Q k cpu caller law (call.FsndDtq id datum) may told =
    leaves-row Q (table.fsnd_dtq k id datum) (λ (q : DataQueueState) passes. law.forces id datum q passes.there)
walk Q k cpu caller law (call.TrcvDtq id timeout) may told =
    leaves-row Q (table.trcv_dtq k caller id timeout)
    (λ (q : DataQueueState) passes. received-by Q k cpu caller law id timeout q (receipt q) passes.there refl may)
walk Q k cpu caller law (call.PutChr word) may told = leaves-row Q (table.put_chr k word) (λ x passes. law.writes word)
walk Q k cpu caller law call.ExtKer may told = leaves-row Q (table.ext_ker k) (λ x passes. law.ends_all)
walk Q k cpu caller law call.RetInt may told = leaves-row Q (table.ret_int k cpu) (λ (p : Processor) passes. law.returns p passes.there)
walk Q k cpu caller law (call.LocSpn id) may told =
    leaves-row Q (table.loc_spn k cpu id)
    (λ (lock : Spin) passes. leaves-if Q (is_taken lock) _ _ (λ taken. (told (is-held k id lock passes.id passes.there taken), law.stays))
    (λ free. takes-lock Q k cpu caller law id lock passes.there free may))
walk Q k cpu caller law (call.TrySpn id) may told =
    leaves-row Q (table.try_spn k cpu id) (λ (lock : Spin) passes. takes-lock Q k cpu caller law id lock passes.there passes.obj may)
walk Q k cpu caller law (call.UnlSpn id) may told =
    leaves-row Q (table.unl_spn k cpu id) (λ (lock : Spin) passes. gives-by Q k cpu caller law (processor_at k cpu) refl)
walk Q k cpu caller law call.GetTim may told = leaves-row Q (table.get_tim k) (λ x passes. law.stays)
walk Q k cpu caller law (call.SetTim time) may told = leaves-row Q (table.set_tim k time) (λ x passes. law.sets_clock (table.clock_for k time))
walk Q k cpu caller law (call.Sns what) may told = leaves-row Q (table.sns k cpu what) (λ p passes. law.stays)
walk Q k cpu caller law (call.MgetTid on) may told = leaves-row Q (table.mget_tid k on) (λ p passes. law.stays)
walk Q k cpu caller law (call.MrotRdq priority on) may told =
    leaves-row Q (table.mrot_rdq k caller priority on)
    (λ p passes. law.rotates on (table.priority_or_callers priority (base_in (task_at k.tasks caller))) p passes.there)
walk Q k cpu caller law (call.RefTsk t word) may told = leaves-row Q (table.ref_tsk k (named caller t) word) (λ task passes. law.stays)
walk Q k cpu caller law (call.RefSem s word) may told = leaves-row Q (table.ref_sem k s word) (λ (s : Semaphore) passes. law.stays)
walk Q k cpu caller law (call.RefFlg f word) may told = leaves-row Q (table.ref_flg k f word) (λ (f : Flag) passes. law.stays)
walk Q k cpu caller law (call.RefDtq q word) may told = leaves-row Q (table.ref_dtq k q word) (λ (q : DataQueueState) passes. law.stays)
walk Q k cpu caller law (call.TlocMtx id timeout) may told =
    leaves-row Q (table.tloc_mtx k caller id timeout)
    (λ (m : Mutex) passes. leaves-if Q (is_some m.owner) _ _
    (λ held. waits Q k caller (reason.On kind.Mutex id) timeout (in_mutex k caller id)
    (λ wait. law.awaits id (due_by k timeout) (No-mutex m passes.there held) (may wait)))
    (λ free. law.locks id m passes.there))
walk Q k cpu caller law (call.UnlMtx id) may told = leaves-row Q (table.unl_mtx k caller id) (λ (m : Mutex) passes. law.gives id m passes.there)
walk Q k cpu caller law (call.RefMtx id word) may told = leaves-row Q (table.ref_mtx k id word) (λ (m : Mutex) passes. law.stays)
walk Q k cpu caller law (call.TgetMpf id timeout) may told =
    leaves-row Q (table.tget_mpf k caller id timeout)
    (λ (p : PoolState) passes. block-for Q k cpu caller law id timeout p (block_for p) passes.there refl may)
walk Q k cpu caller law (call.RelMpf id block) may told =
    leaves-row Q (table.rel_mpf k id block) (λ (p : PoolState) passes. law.gives-back id block p passes.there)
walk Q k cpu caller law (call.SndMbx id address priority) may told =
    leaves-row Q (table.snd_mbx k id address priority) (λ (m : MailboxState) passes. law.posts id address priority m passes.there)
walk Q k cpu caller law (call.TrcvMbx id timeout) may told =
    leaves-row Q (table.trcv_mbx k caller id timeout)
    (λ (m : MailboxState) passes. message-for Q k cpu caller law id timeout m (next_message m) passes.there refl may)
walk Q k cpu caller law (call.RefMpf id word) may told = leaves-row Q (table.ref_mpf k id word) (λ (p : PoolState) passes. law.stays)
walk Q k cpu caller law (call.RefMbx id word) may told = leaves-row Q (table.ref_mbx k id word) (λ (m : MailboxState) passes. law.stays)
walk Q k cpu caller law (call.StaCyc id) may told =
    leaves-row Q (table.sta_cyc k id) (λ (timer : Timer) passes. law.sets_timers (changed_at (started k.time.count) k.timers (cyclic_place id)))
walk Q k cpu caller law (call.StpCyc id) may told =
    leaves-row Q (table.stp_cyc k id) (λ (timer : Timer) passes. law.sets_timers (changed_at stopped k.timers (cyclic_place id)))
walk Q k cpu caller law (call.StaAlm id time) may told =
    leaves-row Q (table.sta_alm k id time) (λ (timer : Timer) passes. law.sets_timers (changed_at (asked_for k.time.count time) k.timers (alarm_place id)))
walk Q k cpu caller law (call.StpAlm id) may told =
    leaves-row Q (table.stp_alm k id) (λ (timer : Timer) passes. law.sets_timers (changed_at stopped k.timers (alarm_place id)))
walk Q k cpu caller law (call.RefCyc id word) may told = leaves-row Q (table.ref_cyc k id word) (λ (timer : Timer) passes. law.stays)
walk Q k cpu caller law (call.RefAlm id word) may told = leaves-row Q (table.ref_alm k id word) (λ (timer : Timer) passes. law.stays)

-- Then tasks are given the priorities that they are to have.

prioritized-by : (Q : Wanted) (k : KernelState) (reply : Reply) → ((new : KernelState) → Q.kernel new → Q.kernel (prioritized new)) →
    LeavesBy Q k reply → LeavesBy Q (table.prioritized_after k reply) reply
prioritized-by Q k (Answer code second) settles leaves = settles k leaves
prioritized-by Q k Silent settles leaves = settles k leaves
prioritized-by Q k Again settles leaves = leaves

prioritized-leaves : (Q : Wanted) (says : Result Served Ercd) → ((new : KernelState) → Q.kernel new → Q.kernel (prioritized new)) →
    Leaves Q says → Leaves Q (table.with_priorities says)
prioritized-leaves Q (Ok done) settles leaves = prioritized-by Q done.kernel done.reply settles leaves
prioritized-leaves Q (Err code) settles leaves = tt

-- what a call leaves, refused or not
pub serve-leaves : {Known : Fact → Type 0} (Q : KernelState → Type 0) (k : KernelState) (cpu : ℕ) (law : Law Known Q k cpu (caller_on k cpu))
    (settles : (new : KernelState) → Q new → Q (prioritized new)) (c : Call) → May Known (caller_on k cpu) c → Q (serve_of k cpu c).kernel
serve-leaves Q k cpu law settles c may =
    let wanted : Wanted = record { kernel = Q; again = Unit {0} } in
    leaves-or_refused wanted k (table.with_priorities (serve_by k cpu (caller_on k cpu) c)) law.stays
    (prioritized-leaves wanted (serve_by k cpu (caller_on k cpu) c) settles (walk wanted k cpu (caller_on k cpu) law c may (λ told. tt)))

-- the same, where a law needs to know nothing of the caller
pub serve-always : (Q : KernelState → Type 0) (k : KernelState) (cpu : ℕ) → Law Anything Q k cpu (caller_on k cpu) →
    ((new : KernelState) → Q new → Q (prioritized new)) → (c : Call) → Q (serve_of k cpu c).kernel
serve-always Q k cpu law settles c = serve-leaves Q k cpu law settles c (any-may (caller_on k cpu) (stop_of c))

-- a call that is answered so is one of which it could be told before
pub serve-says : (Q : KernelState → Type 0) (k : KernelState) (cpu : ℕ) → Law Anything Q k cpu (caller_on k cpu) →
    ((new : KernelState) → Q new → Q (prioritized new)) → (c : Call) → asks_again (serve_of k cpu c).reply ≡ true → comes_again k c ≡ true
serve-says Q k cpu law settles c =
    let wanted : Wanted = record { kernel = Q; again = comes_again k c ≡ true } in
    again-or_refused wanted k (table.with_priorities (serve_by k cpu (caller_on k cpu) c))
    (prioritized-leaves wanted (serve_by k cpu (caller_on k cpu) c) settles
    (walk wanted k cpu (caller_on k cpu) law c (any-may (caller_on k cpu) (stop_of c)) (λ told. told)))
