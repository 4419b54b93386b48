-- What the service calls on objects make of waits.
use Rattle.std.proofs.Common.{◌≡◌, ℕ, List, [], ◌∷◌, drop, refl, sym, ap, subst, ◌∙◌}
use Rattle.std.specs.Prelude.{Bool, true, false, nat_lt, if◌then◌else◌, Option, None, Some, IfSome}
use Rattle.std.specs.Option.{option_map}
use Rattle.std.proofs.lemmas.Bool.{false≢true}
use Rattle.brd_queue.specs.declared.entry.QueueEntry.{QueueEntry}
use Rattle.brd_queue.specs.Queue.{Plain, has, priority_in, first_of, AreApart}
use Rattle.brd_tasks.specs.declared.status.WaitReason.{WaitReason}
use Rattle.brd_tasks.specs.declared.status.WaitReason.TheVariants as reason
use Rattle.brd_tasks.specs.declared.status.WaitKind.TheVariants as kind
use Rattle.brd_objects.specs.declared.semaphore.Semaphore.{Semaphore}
use Rattle.brd_objects.specs.declared.flag.Flag.{Flag}
use Rattle.brd_objects.specs.declared.want.Want.{Want}
use Rattle.brd_objects.specs.declared.sent.Sent.{Sent}
use Rattle.brd_objects.specs.declared.sent.Sent.TheVariants.{Stored, Full}
use Rattle.brd_objects.specs.declared.sent.Received.{Received}
use Rattle.brd_objects.specs.Waiters.{satisfies}
use Rattle.brd_objects.specs.Table.{object_at, object_changed}
use Rattle.brd_objects.specs.Semaphores.{returned_to, returned}
use Rattle.brd_objects.specs.Flags.{pattern_left, taken_for, all_released, with_all_released}
use Rattle.brd_objects.specs.DataQueues.{DataQueueState, has_room, sent_to, sent, outcome_to, outcome, with_room_for, with_room, forced, forced_outcome, received_by, received, receipt_by, receipt}
use Rattle.brd_kernel.specs.Answer.{e_ok}
use Rattle.brd_kernel.specs.Kernel.{KernelState}
use Rattle.brd_kernel.specs.Waits.{released_in, with_released, given_in}
use Rattle.brd_kernel.specs.Services.{with_all_released_in, with_satisfied_of, handed_over, released_with_second, message_of}
use Rattle.brd_kernel.specs.Waiting.{plain, semaphore_waiters, flag_waiters, senders, receivers, standing_for, mutex_waiters, pool_waiters, mailbox_waiters}
use Rattle.brd_kernel.proofs.who_waits.ListLemmas.{either, among, apart-plain, apart-wanting, apart-kept, has-plain, priority_in-plain, priority_in-kept, released-there}
use Rattle.brd_kernel.proofs.who_waits.StandingLemmas.{stands_in, StandsIn}
use Rattle.brd_kernel.proofs.who_waits.KeepingLemmas.{by-leaving-one}
use Rattle.brd_kernel.proofs.who_waits.WaitersLemmas.{semaphore-rewrites, flag-rewrites, sender-rewrites, receiver-rewrites, mutex-rewrites, pool-rewrites, mailbox-rewrites}
use Rattle.brd_kernel.proofs.who_waits.WaitingLemmas.{released-keep, first-out, unchanged-keeps}
use Rattle.brd_objects.specs.declared.mutex.Mutex.{Mutex}
use Rattle.brd_objects.specs.Mutexes.{given_to, given, next_owner_in}
use Rattle.brd_objects.specs.Waiters.{first_in}
use Rattle.brd_objects.specs.Pools.{PoolState, is_out, block_for, without_block, handed_out, back_to, given_back, next_holder}
use Rattle.brd_objects.specs.declared.message.Message.{Message}
use Rattle.brd_objects.specs.Mailboxes.{MailboxState, message_sent, message_outcome, received_from, message_received}
use Rattle.brd_objects.specs.Mailboxes as mailboxes

-- A wait for time has no list.

pub sleep-none : (other : WaitReason) → stands_in reason.Sleep other ≡ false
sleep-none other = refl

pub delay-none : (other : WaitReason) → stands_in reason.Delay other ≡ false
delay-none other = refl

-- Semaphores.

pub taken-by : (test : Bool) (s : Semaphore) (count : ℕ) → (if test then s else record s { count = count }).waiters ≡ s.waiters
taken-by true s count = refl
taken-by false s count = refl

counted-by : (test : Bool) (s : Semaphore) (count : ℕ) → (if test then record s { count = count } else s).waiters ≡ s.waiters
counted-by true s count = refl
counted-by false s count = refl

pub semaphore-stays : (f : Semaphore → Semaphore) (k : KernelState) (id : ℕ) (s : Semaphore) → object_at k.semaphores id ≡ Some s →
    (f s).waiters ≡ s.waiters → StandsIn [] k →
    StandsIn [] (record k { semaphores = object_changed f k.semaphores id })
semaphore-stays f k id s there same was =
    unchanged-keeps k (standing_for (record k { semaphores = object_changed f k.semaphores id })) (reason.On kind.Semaphore id) (f s).waiters
    (semaphore-rewrites f k id s there) (same ∙ ap semaphore_waiters (sym there)) was

pub returned-keeps : (k : KernelState) (id : ℕ) (s : Semaphore) (ws : List Plain) → object_at k.semaphores id ≡ Some s → s.waiters ≡ ws →
    StandsIn [] k →
    StandsIn [] (with_released (record k { semaphores = object_changed returned k.semaphores id }) (option_map (λ e. e.id) (first_of ws)))
returned-keeps k id s [] there is was =
    semaphore-stays returned k id s there (ap (λ l. (returned_to s l).waiters) is ∙ counted-by (nat_lt s.count s.maximum) s _) was
returned-keeps k id s (first ∷ others) there is was =
    let new : KernelState = record k { semaphores = object_changed returned k.semaphores id } in
    released-keep new first.id e_ok None []
    (first-out k (standing_for new) (reason.On kind.Semaphore id) first others
    (λ other. semaphore-rewrites returned k id s there other
    ∙ ap (λ l. if stands_in (reason.On kind.Semaphore id) other then (returned_to s l).waiters else standing_for k other) is)
    (ap semaphore_waiters there ∙ is) was)

-- Mutexes.

pub mutex-stays : (f : Mutex → Mutex) (k : KernelState) (id : ℕ) (m : Mutex) → object_at k.mutexes id ≡ Some m →
    (f m).waiters ≡ m.waiters → StandsIn [] k →
    StandsIn [] (record k { mutexes = object_changed f k.mutexes id })
mutex-stays f k id m there same was =
    unchanged-keeps k (standing_for (record k { mutexes = object_changed f k.mutexes id })) (reason.On kind.Mutex id) (f m).waiters
    (mutex-rewrites f k id m there) (same ∙ ap mutex_waiters (sym there)) was

handed-on : (k : KernelState) (id : ℕ) (m : Mutex) (ws : List Plain) → object_at k.mutexes id ≡ Some m → m.waiters ≡ ws →
    StandsIn [] k →
    StandsIn [] (with_released (record k { mutexes = object_changed given k.mutexes id }) (option_map (λ e. e.id) (first_of ws)))
handed-on k id m [] there is was = mutex-stays given k id m there (ap (λ l. (given_to m l).waiters) is) was
handed-on k id m (first ∷ others) there is was =
    let new : KernelState = record k { mutexes = object_changed given k.mutexes id } in
    released-keep new first.id e_ok None []
    (first-out k (standing_for new) (reason.On kind.Mutex id) first others
    (λ other. mutex-rewrites given k id m there other
    ∙ ap (λ l. if stands_in (reason.On kind.Mutex id) other then (given_to m l).waiters else standing_for k other) is)
    (ap mutex_waiters there ∙ is) was)

pub given-keeps : (k : KernelState) (id : ℕ) (m : Mutex) → object_at k.mutexes id ≡ Some m → StandsIn [] k → StandsIn [] (given_in k id)
given-keeps k id m there was =
    subst (λ found. StandsIn [] (with_released (record k { mutexes = object_changed given k.mutexes id }) (next_owner_in found))) (sym there)
    (handed-on k id m m.waiters there refl was)

-- Fixed memory pools.

pool-stays : (f : PoolState → PoolState) (k : KernelState) (id : ℕ) (p : PoolState) → object_at k.pools id ≡ Some p → (f p).waiters ≡ p.waiters → StandsIn [] k →
    StandsIn [] (record k { pools = object_changed f k.pools id })
pool-stays f k id p there same was =
    unchanged-keeps k (standing_for (record k { pools = object_changed f k.pools id })) (reason.On kind.Block id) (f p).waiters
    (pool-rewrites f k id p there) (same ∙ ap pool_waiters (sym there)) was

same-waiters : (p : PoolState) (found : Option ℕ) → (without_block p found).waiters ≡ p.waiters
same-waiters p None = refl
same-waiters p (Some block) = refl

pub handed-out-keeps : (k : KernelState) (id : ℕ) (p : PoolState) → object_at k.pools id ≡ Some p → StandsIn [] k → StandsIn [] (record k { pools = object_changed handed_out k.pools id })
handed-out-keeps k id p there was = pool-stays handed_out k id p there (same-waiters p (block_for p)) was

-- what is left of the waiters where a block comes back
back-waiters : (p : PoolState) (block : ℕ) (ws : List Plain) → is_out block p ≡ true → p.waiters ≡ ws → (given_back block p).waiters ≡ (back_to block p ws).waiters
back-waiters p block ws out is =
    ap (λ test. (if test then back_to block p p.waiters else p).waiters) out ∙ ap (λ l. (back_to block p l).waiters) is

back-keep : (k : KernelState) (id block : ℕ) (p : PoolState) (test : Bool) (ws : List Plain) → object_at k.pools id ≡ Some p → is_out block p ≡ test → p.waiters ≡ ws → StandsIn [] k →
    StandsIn [] (released_with_second (record k { pools = object_changed (given_back block) k.pools id }) block (if test then first_in ws else None))
back-keep k id block p false ws there out is was =
    pool-stays (given_back block) k id p there (ap (λ test. (if test then back_to block p p.waiters else p).waiters) out) was
back-keep k id block p true [] there out is was = pool-stays (given_back block) k id p there (back-waiters p block [] out is) was
back-keep k id block p true (first ∷ others) there out is was =
    let new : KernelState = record k { pools = object_changed (given_back block) k.pools id } in
    released-keep new first.id e_ok (Some block) []
    (first-out k (standing_for new) (reason.On kind.Block id) first others
    (λ other. pool-rewrites (given_back block) k id p there other
    ∙ ap (λ l. if stands_in (reason.On kind.Block id) other then l else standing_for k other) (back-waiters p block (first ∷ others) out is))
    (ap pool_waiters there ∙ is) was)

pub back-keeps : (k : KernelState) (id block : ℕ) (p : PoolState) → object_at k.pools id ≡ Some p → StandsIn [] k →
    StandsIn [] (released_with_second (record k { pools = object_changed (given_back block) k.pools id }) block (next_holder block p))
back-keeps k id block p there was = back-keep k id block p (is_out block p) p.waiters there refl refl was

-- Mailboxes.

mailbox-stays : (f : MailboxState → MailboxState) (k : KernelState) (id : ℕ) (m : MailboxState) → object_at k.mailboxes id ≡ Some m → (f m).waiters ≡ m.waiters → StandsIn [] k →
    StandsIn [] (record k { mailboxes = object_changed f k.mailboxes id })
mailbox-stays f k id m there same was =
    unchanged-keeps k (standing_for (record k { mailboxes = object_changed f k.mailboxes id })) (reason.On kind.Message id) (f m).waiters
    (mailbox-rewrites f k id m there) (same ∙ ap mailbox_waiters (sym there)) was

posted-keep : (k : KernelState) (id address : ℕ) (message : Message) (m : MailboxState) (ws : List Plain) → object_at k.mailboxes id ≡ Some m → m.waiters ≡ ws → StandsIn [] k →
    StandsIn [] (handed_over (record k { mailboxes = object_changed (message_sent message) k.mailboxes id }) address (mailboxes.outcome_to m ws))
posted-keep k id address message m [] there is was =
    let new : KernelState = record k { mailboxes = object_changed (message_sent message) k.mailboxes id } in
    let waiters = either (λ (x : MailboxState). x.waiters ≡ m.waiters) (mailboxes.has_room m) _ m refl refl in
    let stays : StandsIn [] new = mailbox-stays (message_sent message) k id m there (ap (λ l. (mailboxes.sent_to message m l).waiters) is ∙ waiters) was in
    either (λ (what : Sent). StandsIn [] (handed_over new address what)) (mailboxes.has_room m) Stored Full stays stays
posted-keep k id address message m (first ∷ others) there is was =
    let new : KernelState = record k { mailboxes = object_changed (message_sent message) k.mailboxes id } in
    released-keep new first.id e_ok (Some address) []
    (first-out k (standing_for new) (reason.On kind.Message id) first others
    (λ other. mailbox-rewrites (message_sent message) k id m there other
    ∙ ap (λ l. if stands_in (reason.On kind.Message id) other then (mailboxes.sent_to message m l).waiters else standing_for k other) is)
    (ap mailbox_waiters there ∙ is) was)

pub posted-keeps : (k : KernelState) (id address priority : ℕ) (m : MailboxState) → object_at k.mailboxes id ≡ Some m → StandsIn [] k →
    StandsIn [] (handed_over (record k { mailboxes = object_changed (message_sent (message_of address priority)) k.mailboxes id }) address (message_outcome m))
posted-keeps k id address priority m there was = posted-keep k id address (message_of address priority) m m.waiters there refl was

received-waiters : (m : MailboxState) (messages : List Message) → (received_from messages m).waiters ≡ m.waiters
received-waiters m [] = refl
received-waiters m (first ∷ others) = refl

pub fetched-keeps : (k : KernelState) (id : ℕ) (m : MailboxState) → object_at k.mailboxes id ≡ Some m → StandsIn [] k → StandsIn [] (record k { mailboxes = object_changed message_received k.mailboxes id })
fetched-keeps k id m there was = mailbox-stays message_received k id m there (received-waiters m m.messages) was

-- Event flags.

pub flag-stays : (f : Flag → Flag) (k : KernelState) (id : ℕ) (g : Flag) → object_at k.flags id ≡ Some g → (f g).waiters ≡ g.waiters → StandsIn [] k →
    StandsIn [] (record k { flags = object_changed f k.flags id })
flag-stays f k id g there same was =
    unchanged-keeps k (standing_for (record k { flags = object_changed f k.flags id })) (reason.On kind.Flag id) (plain (f g).waiters)
    (flag-rewrites f k id g there) (ap plain same ∙ ap flag_waiters (sym there)) was

pattern-by : (test : Bool) (f : Flag) (pattern : ℕ) → (if test then record f { pattern = pattern } else f).waiters ≡ f.waiters
pattern-by true f pattern = refl
pattern-by false f pattern = refl

pub taken-keeps : (k : KernelState) (id : ℕ) (want : Want) (f : Flag) → object_at k.flags id ≡ Some f → StandsIn [] k →
    StandsIn [] (record k { flags = object_changed (taken_for want) k.flags id })
taken-keeps k id want f there was =
    flag-stays (taken_for want) k id f there (pattern-by (satisfies f.pattern want) f (pattern_left f.clears f.pattern)) was

all-released-keep : (k : KernelState) (ids : List ℕ) (second : ℕ) → StandsIn ids k → StandsIn [] (with_all_released_in k ids second)
all-released-keep k [] second was = was
all-released-keep k (id ∷ ids) second was =
    all-released-keep (released_in k id e_ok (Some second)) ids second (released-keep k id e_ok (Some second) ids was)

has-by : (there : Bool) (f : Flag) (at : ℕ) → has at f.waiters ≡ there → among at (all_released f) ≡ true → has at (plain f.waiters) ≡ true
has-by true f at is released = has-plain at f.waiters ∙ is
has-by false f at is released = absurd (false≢true (sym (released-there f.clears f.pattern at f.waiters is) ∙ released))

pub satisfied-keep : (k : KernelState) (id : ℕ) (found : Option Flag) → object_at k.flags id ≡ found → StandsIn [] k →
    StandsIn [] (with_satisfied_of k id found)
satisfied-keep k id None there was = was
satisfied-keep k id (Some f) there was =
    let new : KernelState = record k { flags = object_changed with_all_released k.flags id } in
    let list : List (QueueEntry Want) = (with_all_released f).waiters in
    let apart : AreApart f.waiters = apart-wanting f.waiters (subst (λ o. AreApart (flag_waiters o)) there (was.apart (reason.On kind.Flag id))) in
    all-released-keep new (all_released f) f.pattern
    (by-leaving-one (all_released f) k.tasks k.time (standing_for k) (standing_for new) (reason.On kind.Flag id) (plain list)
    (flag-rewrites with_all_released k id f there)
    (apart-plain list (apart-kept f.clears f.pattern f.waiters apart))
    (λ at released. ap (λ o. has at (flag_waiters o)) there ∙ has-by (has at f.waiters) f at refl released)
    (λ at. priority_in-plain at list ∙ priority_in-kept f.clears f.pattern at f.waiters apart
    ∙ ap (λ p. if among at (all_released f) then None else p)
    (sym (priority_in-plain at f.waiters) ∙ ap (λ o. priority_in at (flag_waiters o)) (sym there)))
    was)

-- Data queues.

queue-stays : (f : DataQueueState → DataQueueState) (k : KernelState) (id : ℕ) (q : DataQueueState) → object_at k.queues id ≡ Some q →
    (f q).senders ≡ q.senders → (f q).receivers ≡ q.receivers →
    StandsIn [] k → StandsIn [] (record k { queues = object_changed f k.queues id })
queue-stays f k id q there same also was =
    unchanged-keeps k (standing_for (record k { queues = object_changed f k.queues id })) (reason.On kind.Datum id) (f q).receivers
    (receiver-rewrites f k id q there same) (also ∙ ap receivers (sym there)) was

-- `q` is the queue with the room that is made, where a datum is forced in; `w` is the one that is there
handed-keep : (f : DataQueueState → DataQueueState) (k : KernelState) (id datum : ℕ) (q w : DataQueueState) (rs : List Plain) →
    object_at k.queues id ≡ Some w →
    f w ≡ sent_to datum q rs → q.senders ≡ w.senders → q.receivers ≡ w.receivers → w.receivers ≡ rs → StandsIn [] k →
    StandsIn [] (handed_over (record k { queues = object_changed f k.queues id }) datum (outcome_to q rs))
handed-keep f k id datum q w [] there is same also none was =
    let new : KernelState = record k { queues = object_changed f k.queues id } in
    let senders = either (λ (x : DataQueueState). x.senders ≡ q.senders) (has_room q) _ q refl refl in
    let receivers = either (λ (x : DataQueueState). x.receivers ≡ q.receivers) (has_room q) _ q refl refl in
    let stays : StandsIn [] new = queue-stays f k id w there (ap (λ x. x.senders) is ∙ senders ∙ same) (ap (λ x. x.receivers) is ∙ receivers ∙ also) was in
    either (λ (what : Sent). StandsIn [] (handed_over new datum what)) (has_room q) Stored Full stays stays
handed-keep f k id datum q w (first ∷ others) there is same also some was =
    let new : KernelState = record k { queues = object_changed f k.queues id } in
    released-keep new first.id e_ok (Some datum) []
    (first-out k (standing_for new) (reason.On kind.Datum id) first others
    (λ other. receiver-rewrites f k id w there (ap (λ x. x.senders) is ∙ same) other
    ∙ ap (λ x. if stands_in (reason.On kind.Datum id) other then x.receivers else standing_for k other) is)
    (ap receivers there ∙ some) was)

pub sent-keeps : (k : KernelState) (id datum : ℕ) (q : DataQueueState) → object_at k.queues id ≡ Some q → StandsIn [] k →
    StandsIn [] (handed_over (record k { queues = object_changed (sent datum) k.queues id }) datum (outcome q))
sent-keeps k id datum q there was = handed-keep (sent datum) k id datum q q q.receivers there refl refl refl refl was

unroomed-senders : (test : Bool) (q : DataQueueState) (stored : List ℕ) → (if test then q else record q { stored = stored }).senders ≡ q.senders
unroomed-senders true q stored = refl
unroomed-senders false q stored = refl

unroomed-receivers : (test : Bool) (q : DataQueueState) (stored : List ℕ) → (if test then q else record q { stored = stored }).receivers ≡ q.receivers
unroomed-receivers true q stored = refl
unroomed-receivers false q stored = refl

room-senders : (q : DataQueueState) (rs : List Plain) → (with_room_for q rs).senders ≡ q.senders
room-senders q [] = unroomed-senders (has_room q) q (drop 1 q.stored)
room-senders q (first ∷ others) = refl

room-receivers : (q : DataQueueState) (rs : List Plain) → (with_room_for q rs).receivers ≡ q.receivers
room-receivers q [] = unroomed-receivers (has_room q) q (drop 1 q.stored)
room-receivers q (first ∷ others) = refl

pub forced-keeps : (k : KernelState) (id datum : ℕ) (q : DataQueueState) → object_at k.queues id ≡ Some q → StandsIn [] k →
    StandsIn [] (handed_over (record k { queues = object_changed (forced datum) k.queues id }) datum (forced_outcome q))
forced-keeps k id datum q there was =
    handed-keep (forced datum) k id datum (with_room q) q (with_room q).receivers there refl (room-senders q q.receivers)
    (room-receivers q q.receivers)
    (sym (room-receivers q q.receivers)) was

both-are : (q : DataQueueState) (stored : List ℕ) (ss : List (QueueEntry ℕ)) → q.stored ≡ stored → q.senders ≡ ss → received q ≡ received_by q stored ss
both-are q stored ss stored_is senders_are = ap (λ l. received_by q l q.senders) stored_is ∙ ap (received_by q stored) senders_are

sender-leaves : (k : KernelState) (id : ℕ) (q : DataQueueState) (stored : List ℕ) (first : QueueEntry ℕ) (others : List (QueueEntry ℕ)) →
    object_at k.queues id ≡ Some q → q.stored ≡ stored → q.senders ≡ first ∷ others →
    (received_by q stored (first ∷ others)).senders ≡ others → (received_by q stored (first ∷ others)).receivers ≡ q.receivers → StandsIn [] k →
    StandsIn [] (released_in (record k { queues = object_changed received k.queues id }) first.id e_ok None)
sender-leaves k id q stored first others there stored_is senders_are left same was =
    let new : KernelState = record k { queues = object_changed received k.queues id } in
    let is : received q ≡ received_by q stored (first ∷ others) = both-are q stored (first ∷ others) stored_is senders_are in
    released-keep new first.id e_ok None []
    (first-out k (standing_for new) (reason.On kind.Room id) (record { id = first.id; priority = first.priority; wanted = tt }) (plain others)
    (λ other. sender-rewrites received k id q there (ap (λ x. x.receivers) is ∙ same) other
    ∙ ap (λ l. if stands_in (reason.On kind.Room id) other then plain l else standing_for k other) (ap (λ x. x.senders) is ∙ left))
    (ap senders there ∙ ap plain senders_are) was)

taken-from : (k : KernelState) (id : ℕ) (q : DataQueueState) (stored : List ℕ) (ss : List (QueueEntry ℕ)) →
    object_at k.queues id ≡ Some q → q.stored ≡ stored → q.senders ≡ ss → StandsIn [] k →
    IfSome (receipt_by stored ss) (λ it. StandsIn [] (with_released (record k { queues = object_changed received k.queues id }) it.sender))
taken-from k id q [] [] there stored_is senders_are was = tt
taken-from k id q [] (first ∷ others) there stored_is senders_are was = sender-leaves k id q [] first others there stored_is senders_are refl refl was
taken-from k id q (oldest ∷ newer) [] there stored_is senders_are was =
    queue-stays received k id q there (ap (λ x. x.senders) (both-are q (oldest ∷ newer) [] stored_is senders_are))
    (ap (λ x. x.receivers) (both-are q (oldest ∷ newer) [] stored_is senders_are)) was
taken-from k id q (oldest ∷ newer) (first ∷ others) there stored_is senders_are was =
    sender-leaves k id q (oldest ∷ newer) first others there stored_is senders_are refl refl was

pub received-keeps : (k : KernelState) (id : ℕ) (q : DataQueueState) (it : Received) → object_at k.queues id ≡ Some q → receipt q ≡ Some it → StandsIn [] k →
    StandsIn [] (with_released (record k { queues = object_changed received k.queues id }) it.sender)
received-keeps k id q it there is was =
    subst (λ what. IfSome what (λ (x : Received). StandsIn [] (with_released (record k { queues = object_changed received k.queues id }) x.sender))) is
    (taken-from k id q q.stored q.senders there refl refl was)
