-- What each operation on an object makes of its waiters: they stay in order, and none of them waits for what is there.
use Rattle.std.proofs.Common.{◌≡◌, ◌-◌, ℕ, List, [], ◌∷◌, ◌++◌, drop, length, refl, sym, ap, subst, ◌∙◌, arith, length-append}
use Rattle.std.specs.Prelude.{◌≢◌, ◌==◌, nat_lt, Bool, true, false, not, if◌then◌else◌, Option, None, Some, is_some}
use Rattle.std.proofs.lemmas.Bool.{true≢false, false≢true}
use Rattle.std.proofs.lemmas.Bool.Decides.{nat_tests}
use Rattle.brd_queue.specs.declared.entry.QueueEntry.{QueueEntry}
use Rattle.brd_queue.specs.declared.entry.QueueOrder.{QueueOrder}
use Rattle.brd_queue.specs.declared.entry.QueueOrder.TheVariants.{Arrival, Priority}
use Rattle.brd_queue.specs.Queue.{Plain, without, reordered, is_empty}
use Rattle.brd_queue.proofs.WantedLemmas.{want-implied, want-without, want-placed, want-reordered}
use Rattle.brd_objects.specs.declared.semaphore.Semaphore.{Semaphore}
use Rattle.brd_objects.specs.declared.flag.Flag.{Flag}
use Rattle.brd_objects.specs.declared.want.Want.{Want}
use Rattle.brd_objects.specs.declared.sent.Sent.{Sent}
use Rattle.brd_objects.specs.declared.sent.Sent.TheVariants.{Stored, Full}
use Rattle.brd_objects.specs.Semaphores.{returned_to, returned, has_one, taken, semaphore_awaited, semaphore_left, semaphore_reordered}
use Rattle.brd_objects.specs.Waiters.{satisfies}
use Rattle.brd_objects.specs.Flags.{joined, masked, pattern_left, pattern_for, taken_for, flag_awaited, flag_left, flag_reordered, with_all_released}
use Rattle.brd_objects.specs.DataQueues.{DataQueueState, has_room, sent_to, sent, outcome_to, outcome, with_room_for, with_room, forced, received_by, received, receipt_by, receipt, awaited_by_sender, awaited_by_receiver, data_queue_left, data_queue_reordered}
use Rattle.brd_objects.proofs.BitLemmas.{HasBits}
use Rattle.brd_kernel.specs.Waiting.{SemaphoreIsKept, FlagIsKept, QueueIsKept, MutexIsKept, PoolIsKept, MailboxIsKept}
use Rattle.brd_objects.specs.Pools.{PoolState, is_out, block_for, without_block, handed_out, back_to, given_back, pool_awaited, pool_left, pool_reordered}
use Rattle.brd_objects.specs.declared.message.Message.{Message}
use Rattle.brd_objects.specs.Mailboxes.{MailboxState, received_from, message_received, message_sent, first_message, next_message, mailbox_awaited, mailbox_left, mailbox_reordered}
use Rattle.brd_objects.specs.Mailboxes as mailboxes
use Rattle.brd_kernel.proofs.who_waits.ListLemmas.{either}
use Rattle.brd_kernel.proofs.nobody_waits.OrderLemmas.{in-placed, in-without, in-reordered, in-others, in-kept}
use Rattle.brd_kernel.proofs.nobody_waits.WantLemmas.{IsUnsatisfied, want-kept, want-none, fewer, unreleased}
use Rattle.brd_objects.specs.declared.mutex.Mutex.{Mutex}
use Rattle.brd_objects.specs.Mutexes.{protocol_order, owned, given_to, given, mutex_awaited, mutex_left, mutex_reordered}

not-both : {A : Type 0} → (x : A) (xs ys : List A) → ys ≡ x ∷ xs → ys ≡ [] → ⊥
not-both x xs ys some none = omega (arith, ap length some, ap length none)

-- where nobody stands, nobody does when a task is given a priority
nobody-reordered : {W : Type 0} → (order : QueueOrder) (id priority : ℕ) (xs : List (QueueEntry W)) → xs ≡ [] → reordered order id priority xs ≡ []
nobody-reordered Arrival id priority xs none = ap (reordered Arrival id priority) none
nobody-reordered Priority id priority xs none = ap (reordered Priority id priority) none

-- Semaphores.

returned-by : (s : Semaphore) (ws : List Plain) → s.waiters ≡ ws → SemaphoreIsKept s → SemaphoreIsKept (returned_to s ws)
returned-by s [] is was =
    either (λ x. SemaphoreIsKept x) (nat_lt s.count s.maximum) _ s (record { ordered = was.ordered; lacking = λ has. is }) was
returned-by s (first ∷ others) is was = record {
  ordered = in-others s.order first others (subst (λ ws. SemaphoreIsKept (record s { waiters = ws })) is was).ordered;
  lacking = λ has. absurd (not-both first others s.waiters is (was.lacking has));
}

pub returned-kept : (s : Semaphore) → SemaphoreIsKept s → SemaphoreIsKept (returned s)
returned-kept s was = returned-by s s.waiters refl was

taken-by : (none : Bool) (s : Semaphore) → (s.count == 0) ≡ none → SemaphoreIsKept s →
    SemaphoreIsKept (if none then s else record s { count = s.count - 1 })
taken-by true s test was = was
taken-by false s test was = record { ordered = was.ordered; lacking = λ has. was.lacking (ap not test) }

pub taken-kept : (s : Semaphore) → SemaphoreIsKept s → SemaphoreIsKept (taken s)
taken-kept s was = taken-by (s.count == 0) s refl was

pub semaphore-awaited : (id priority : ℕ) (s : Semaphore) → has_one s ≡ false → SemaphoreIsKept s → SemaphoreIsKept (semaphore_awaited id priority s)
semaphore-awaited id priority s none was = record {
  ordered = in-placed s.order (record { id = id; priority = priority; wanted = tt }) s.waiters was.ordered;
  lacking = λ has. absurd (true≢false (sym has ∙ none));
}

pub semaphore-left : (id : ℕ) (s : Semaphore) → SemaphoreIsKept s → SemaphoreIsKept (semaphore_left id s)
semaphore-left id s was =
    record { ordered = in-without s.order id s.waiters was.ordered; lacking = λ has. ap (without id) (was.lacking has) }

pub semaphore-reordered : (id priority : ℕ) (s : Semaphore) → SemaphoreIsKept s → SemaphoreIsKept (semaphore_reordered id priority s)
semaphore-reordered id priority s was = record {
  ordered = in-reordered s.order id priority s.waiters was.ordered;
  lacking = λ has. nobody-reordered s.order id priority s.waiters (was.lacking has);
}

-- Mutexes.

no-owner : (owner : Option ℕ) → is_some owner ≡ true → owner ≡ None → ⊥
no-owner owner held none = false≢true (sym (ap is_some none) ∙ held)

pub mutex-owned : (id : ℕ) (m : Mutex) → MutexIsKept m → MutexIsKept (owned id m)
mutex-owned id m was = record { ordered = was.ordered; lacking = λ none. absurd (no-owner (Some id) refl none) }

given-by : (m : Mutex) (ws : List Plain) → m.waiters ≡ ws → MutexIsKept m → MutexIsKept (given_to m ws)
given-by m [] is was = record { ordered = was.ordered; lacking = λ none. is }
given-by m (first ∷ others) is was = record {
  ordered = in-others (protocol_order m.protocol) first others (subst (λ ws. MutexIsKept (record m { waiters = ws })) is was).ordered;
  lacking = λ none. absurd (no-owner (Some first.id) refl none);
}

pub mutex-given : (m : Mutex) → MutexIsKept m → MutexIsKept (given m)
mutex-given m was = given-by m m.waiters refl was

pub mutex-awaited : (id priority : ℕ) (m : Mutex) → is_some m.owner ≡ true → MutexIsKept m → MutexIsKept (mutex_awaited id priority m)
mutex-awaited id priority m held was = record {
  ordered = in-placed (protocol_order m.protocol) (record { id = id; priority = priority; wanted = tt }) m.waiters was.ordered;
  lacking = λ none. absurd (no-owner m.owner held none);
}

pub mutex-left : (id : ℕ) (m : Mutex) → MutexIsKept m → MutexIsKept (mutex_left id m)
mutex-left id m was = record {
  ordered = in-without (protocol_order m.protocol) id m.waiters was.ordered;
  lacking = λ none. ap (without id) (was.lacking none);
}

pub mutex-reordered : (id priority : ℕ) (m : Mutex) → MutexIsKept m → MutexIsKept (mutex_reordered id priority m)
mutex-reordered id priority m was = record {
  ordered = in-reordered (protocol_order m.protocol) id priority m.waiters was.ordered;
  lacking = λ none. nobody-reordered (protocol_order m.protocol) id priority m.waiters (was.lacking none);
}

-- Fixed memory pools.

handed-by : (p : PoolState) (found : Option ℕ) → block_for p ≡ found → PoolIsKept p → PoolIsKept (without_block p found)
handed-by p None is was = was
handed-by p (Some block) is was = record { ordered = was.ordered; lacking = λ there. was.lacking (ap is_some is) }

pub pool-handed : (p : PoolState) → PoolIsKept p → PoolIsKept (handed_out p)
pool-handed p was = handed-by p (block_for p) refl was

back-by : (block : ℕ) (p : PoolState) (ws : List Plain) → p.waiters ≡ ws → PoolIsKept p → PoolIsKept (back_to block p ws)
back-by block p [] is was = record { ordered = was.ordered; lacking = λ there. is }
back-by block p (first ∷ others) is was = record {
  ordered = in-others p.order first others (subst (λ ws. PoolIsKept (record p { waiters = ws })) is was).ordered;
  lacking = λ there. absurd (not-both first others p.waiters is (was.lacking there));
}

pub pool-given : (block : ℕ) (p : PoolState) → PoolIsKept p → PoolIsKept (given_back block p)
pool-given block p was = either (λ x. PoolIsKept x) (is_out block p) _ p (back-by block p p.waiters refl was) was

pub pool-awaited : (id priority : ℕ) (p : PoolState) → block_for p ≡ None → PoolIsKept p → PoolIsKept (pool_awaited id priority p)
pool-awaited id priority p none was = record {
  ordered = in-placed p.order (record { id = id; priority = priority; wanted = tt }) p.waiters was.ordered;
  lacking = λ there. absurd (true≢false (sym there ∙ ap is_some none));
}

pub pool-left : (id : ℕ) (p : PoolState) → PoolIsKept p → PoolIsKept (pool_left id p)
pool-left id p was =
    record { ordered = in-without p.order id p.waiters was.ordered; lacking = λ there. ap (without id) (was.lacking there) }

pub pool-reordered : (id priority : ℕ) (p : PoolState) → PoolIsKept p → PoolIsKept (pool_reordered id priority p)
pool-reordered id priority p was = record {
  ordered = in-reordered p.order id priority p.waiters was.ordered;
  lacking = λ there. nobody-reordered p.order id priority p.waiters (was.lacking there);
}

-- Mailboxes.

message-by : (message : Message) (m : MailboxState) (ws : List Plain) → m.waiters ≡ ws → MailboxIsKept m → MailboxIsKept (mailboxes.sent_to message m ws)
message-by message m [] is was =
    either (λ x. MailboxIsKept x) (mailboxes.has_room m) _ m (record { ordered = was.ordered; lacking = λ there. is }) was
message-by message m (first ∷ others) is was = record {
  ordered = in-others m.order first others (subst (λ ws. MailboxIsKept (record m { waiters = ws })) is was).ordered;
  lacking = λ there. absurd (not-both first others m.waiters is (was.lacking there));
}

pub mailbox-sent : (message : Message) (m : MailboxState) → MailboxIsKept m → MailboxIsKept (message_sent message m)
mailbox-sent message m was = message-by message m m.waiters refl was

taken-from : (m : MailboxState) (messages : List Message) → m.messages ≡ messages → MailboxIsKept m → MailboxIsKept (received_from messages m)
taken-from m [] is was = was
taken-from m (first ∷ others) is was =
    record { ordered = was.ordered; lacking = λ there. was.lacking (ap (λ l. is_some (first_message l)) is) }

pub mailbox-received : (m : MailboxState) → MailboxIsKept m → MailboxIsKept (message_received m)
mailbox-received m was = taken-from m m.messages refl was

pub mailbox-awaited : (id priority : ℕ) (m : MailboxState) → next_message m ≡ None → MailboxIsKept m → MailboxIsKept (mailbox_awaited id priority m)
mailbox-awaited id priority m none was = record {
  ordered = in-placed m.order (record { id = id; priority = priority; wanted = tt }) m.waiters was.ordered;
  lacking = λ there. absurd (true≢false (sym there ∙ ap is_some none));
}

pub mailbox-left : (id : ℕ) (m : MailboxState) → MailboxIsKept m → MailboxIsKept (mailbox_left id m)
mailbox-left id m was =
    record { ordered = in-without m.order id m.waiters was.ordered; lacking = λ there. ap (without id) (was.lacking there) }

pub mailbox-reordered : (id priority : ℕ) (m : MailboxState) → MailboxIsKept m → MailboxIsKept (mailbox_reordered id priority m)
mailbox-reordered id priority m was = record {
  ordered = in-reordered m.order id priority m.waiters was.ordered;
  lacking = λ there. nobody-reordered m.order id priority m.waiters (was.lacking there);
}

-- Event flags.

pub masked-kept : (bits : ℕ) (f : Flag) → FlagIsKept f → FlagIsKept (masked bits f)
masked-kept bits f was = record {
  ordered = was.ordered;
  bits = was.bits;
  lacking = want-implied (IsUnsatisfied f.pattern) (IsUnsatisfied (masked bits f).pattern) f.waiters (fewer f.pattern bits) was.lacking;
}

left-by : (clears : Bool) (f : Flag) → FlagIsKept f → FlagIsKept (record f { pattern = pattern_left clears f.pattern })
left-by true f was = record { ordered = was.ordered; bits = was.bits; lacking = want-none f.waiters was.bits }
left-by false f was = record { ordered = was.ordered; bits = was.bits; lacking = was.lacking }

pub taken-for : (want : Want) (f : Flag) → FlagIsKept f → FlagIsKept (taken_for want f)
taken-for want f was = either (λ x. FlagIsKept x) (satisfies f.pattern want) _ f (left-by f.clears f was) was

unsatisfied-by : (test : Bool) (pattern : ℕ) → ◌≡◌ {A = Option ℕ} (if test then Some pattern else None) None → test ≡ false
unsatisfied-by true pattern is = let wrong : ⊥ = cc in absurd wrong
unsatisfied-by false pattern is = refl

pub flag-awaited : (id priority : ℕ) (want : Want) (f : Flag) → want.bits ≢ 0 → pattern_for want f ≡ None → FlagIsKept f →
    FlagIsKept (flag_awaited id priority want f)
flag-awaited id priority want f some none was =
    let e : QueueEntry Want = record { id = id; priority = priority; wanted = want } in
    let unsatisfied : satisfies f.pattern want ≡ false = unsatisfied-by (satisfies f.pattern want) f.pattern none in
    record {
      ordered = in-placed f.order e f.waiters was.ordered;
      bits = want-placed HasBits f.order e f.waiters some was.bits;
      lacking = want-placed (IsUnsatisfied f.pattern) f.order e f.waiters unsatisfied was.lacking;
    }

pub flag-left : (id : ℕ) (f : Flag) → FlagIsKept f → FlagIsKept (flag_left id f)
flag-left id f was = record {
  ordered = in-without f.order id f.waiters was.ordered;
  bits = want-without HasBits id f.waiters was.bits;
  lacking = want-without (IsUnsatisfied f.pattern) id f.waiters was.lacking;
}

pub flag-reordered : (id priority : ℕ) (f : Flag) → FlagIsKept f → FlagIsKept (flag_reordered id priority f)
flag-reordered id priority f was = record {
  ordered = in-reordered f.order id priority f.waiters was.ordered;
  bits = want-reordered HasBits f.order id priority f.waiters was.bits;
  lacking = want-reordered (IsUnsatisfied f.pattern) f.order id priority f.waiters was.lacking;
}

-- bits are set, and all are released whom they satisfy
pub set-kept : (bits : ℕ) (f : Flag) → FlagIsKept f → FlagIsKept (with_all_released (joined bits f))
set-kept bits f was =
    let pattern : ℕ = (joined bits f).pattern in
    record {
      ordered = in-kept f.order f.clears pattern f.waiters was.ordered;
      bits = want-kept HasBits f.clears pattern f.waiters was.bits;
      lacking = unreleased f.clears pattern f.waiters was.bits;
    }

-- Data queues.

-- nobody waits to receive
nobody : (q : DataQueueState) → q.receivers ≡ [] → {A : Type 0} → is_empty q.receivers ≡ false → A
nobody q none some = absurd (false≢true (sym some ∙ ap is_empty none))

stored-by : (room : Bool) (datum : ℕ) (q : DataQueueState) → has_room q ≡ room → q.receivers ≡ [] → QueueIsKept q →
    QueueIsKept (if room then record q { stored = q.stored ++ datum ∷ [] } else q)
stored-by true datum q test none was =
    record { ordered = was.ordered; room = λ has. was.room test; datum = λ some. nobody q none some }
stored-by false datum q test none was = was

sent-by : (datum : ℕ) (q : DataQueueState) (rs : List Plain) → q.receivers ≡ rs → QueueIsKept q → QueueIsKept (sent_to datum q rs)
sent-by datum q [] is was = stored-by (has_room q) datum q refl is was
sent-by datum q (first ∷ others) is was = record { ordered = was.ordered; room = was.room; datum = λ some. was.datum (ap is_empty is) }

pub sent-kept : (datum : ℕ) (q : DataQueueState) → QueueIsKept q → QueueIsKept (sent datum q)
sent-kept datum q was = sent-by datum q q.receivers refl was

still-full : (stored : List ℕ) (capacity datum : ℕ) → nat_lt (length stored) capacity ≡ false → nat_lt (length (drop 1 stored)) capacity ≡ true →
    nat_lt (length (drop 1 stored ++ datum ∷ [])) capacity ≡ false
still-full [] capacity datum full room = absurd (false≢true (sym full ∙ room))
still-full (oldest ∷ newer) capacity datum full room = grind (arith, nat_tests, full, length-append newer (datum ∷ []))

-- a full queue has given its oldest datum up
replaced-by : (room : Bool) (datum : ℕ) (q : DataQueueState) → has_room q ≡ false → q.receivers ≡ [] →
    nat_lt (length (drop 1 q.stored)) q.capacity ≡ room → QueueIsKept q →
    QueueIsKept (if room then record q { stored = drop 1 q.stored ++ datum ∷ [] } else record q { stored = drop 1 q.stored })
replaced-by true datum q full none test was = record {
  ordered = was.ordered;
  room = λ has. absurd (true≢false (sym has ∙ still-full q.stored q.capacity datum full test));
  datum = λ some. nobody q none some;
}
replaced-by false datum q full none test was =
    record { ordered = was.ordered; room = λ has. absurd (true≢false (sym has ∙ test)); datum = λ some. nobody q none some }

forced-full : (room : Bool) (datum : ℕ) (q : DataQueueState) → has_room q ≡ room → q.receivers ≡ [] → QueueIsKept q →
    QueueIsKept (sent_to datum (if room then q else record q { stored = drop 1 q.stored }) [])
forced-full true datum q test none was = stored-by (has_room q) datum q refl none was
forced-full false datum q test none was = replaced-by (nat_lt (length (drop 1 q.stored)) q.capacity) datum q test none refl was

forced-by : (datum : ℕ) (q : DataQueueState) (rs : List Plain) → q.receivers ≡ rs → QueueIsKept q →
    QueueIsKept (sent_to datum (with_room_for q rs) rs)
forced-by datum q [] is was = forced-full (has_room q) datum q refl is was
forced-by datum q (first ∷ others) is was = sent-by datum q (first ∷ others) is was

same-receivers : (q : DataQueueState) (rs : List Plain) → (with_room_for q rs).receivers ≡ q.receivers
same-receivers q [] = either (λ (x : DataQueueState). x.receivers ≡ q.receivers) (has_room q) q _ refl refl
same-receivers q (first ∷ others) = refl

pub forced-kept : (datum : ℕ) (q : DataQueueState) → QueueIsKept q → QueueIsKept (forced datum q)
forced-kept datum q was =
    subst (λ rs. QueueIsKept (sent_to datum (with_room q) rs)) (sym (same-receivers q q.receivers)) (forced-by datum q q.receivers refl was)

first-sent : (q : DataQueueState) (first : QueueEntry ℕ) (others : List (QueueEntry ℕ)) (stored : List ℕ) → q.senders ≡ first ∷ others →
    (has_room (record q { stored = stored }) ≡ true → has_room q ≡ true) → QueueIsKept q →
    QueueIsKept (record q { stored = stored; senders = others })
first-sent q first others stored is room was = record {
  ordered = in-others q.order first others (subst (λ ss. QueueIsKept (record q { senders = ss })) is was).ordered;
  room = λ has. absurd (not-both first others q.senders is (was.room (room has)));
  datum = λ some. absurd (not-both first others q.senders is (was.datum some).1);
}

as-long : (q : DataQueueState) (oldest : ℕ) (newer : List ℕ) (datum : ℕ) → q.stored ≡ oldest ∷ newer →
    nat_lt (length (newer ++ datum ∷ [])) q.capacity ≡ true →
    has_room q ≡ true
as-long q oldest newer datum is has = grind (arith, nat_tests, has, length-append newer (datum ∷ []), ap length is)

received-by : (q : DataQueueState) (stored : List ℕ) (ss : List (QueueEntry ℕ)) → q.stored ≡ stored → q.senders ≡ ss → QueueIsKept q →
    QueueIsKept (received_by q stored ss)
received-by q [] [] is senders was = was
received-by q [] (first ∷ others) is senders was = first-sent q first others q.stored senders (λ has. has) was
received-by q (oldest ∷ newer) [] is senders was = record {
  ordered = was.ordered;
  room = λ has. senders;
  datum = λ some. absurd (not-both oldest newer q.stored is (was.datum some).0);
}
received-by q (oldest ∷ newer) (first ∷ others) is senders was =
    first-sent q first others (newer ++ first.wanted ∷ []) senders (as-long q oldest newer first.wanted is) was

pub received-kept : (q : DataQueueState) → QueueIsKept q → QueueIsKept (received q)
received-kept q was = received-by q q.stored q.senders refl refl was

-- what a wait to send or to receive tells

record IsFull (q : DataQueueState) : Type 0 where
  none : q.receivers ≡ []
  full : has_room q ≡ false

full-if : (room : Bool) → ◌≡◌ {A = Sent} (if room then Stored else Full) Full → room ≡ false
full-if true is = let wrong : ⊥ = cc in absurd wrong
full-if false is = refl

full-by : (q : DataQueueState) (rs : List Plain) → q.receivers ≡ rs → outcome_to q rs ≡ Full → IsFull q
full-by q [] none is = record { none = none; full = full-if (has_room q) is }
full-by q (first ∷ others) some is = let wrong : ⊥ = cc in absurd wrong

pub sender-awaited : (id priority datum : ℕ) (q : DataQueueState) → outcome q ≡ Full → QueueIsKept q →
    QueueIsKept (awaited_by_sender id priority datum q)
sender-awaited id priority datum q is was =
    let full : IsFull q = full-by q q.receivers refl is in
    record {
      ordered = in-placed q.order (record { id = id; priority = priority; wanted = datum }) q.senders was.ordered;
      room = λ has. absurd (true≢false (sym has ∙ full.full));
      datum = λ some. nobody q full.none some;
    }

record HasNothing (q : DataQueueState) : Type 0 where
  stored : q.stored ≡ []
  senders : q.senders ≡ []

nothing-by : (q : DataQueueState) (stored : List ℕ) (ss : List (QueueEntry ℕ)) → q.stored ≡ stored → q.senders ≡ ss → receipt_by stored ss ≡ None →
    HasNothing q
nothing-by q [] [] is senders none = record { stored = is; senders = senders }
nothing-by q [] (first ∷ others) is senders none = let wrong : ⊥ = cc in absurd wrong
nothing-by q (oldest ∷ newer) [] is senders none = let wrong : ⊥ = cc in absurd wrong
nothing-by q (oldest ∷ newer) (first ∷ others) is senders none = let wrong : ⊥ = cc in absurd wrong

pub receiver-awaited : (id priority : ℕ) (q : DataQueueState) → receipt q ≡ None → QueueIsKept q → QueueIsKept (awaited_by_receiver id priority q)
receiver-awaited id priority q none was =
    let nothing : HasNothing q = nothing-by q q.stored q.senders refl refl none in
    record { ordered = was.ordered; room = was.room; datum = λ some. (nothing.stored, nothing.senders) }

-- who left a list left somebody there only if somebody was there
some-before : (change : List Plain → List Plain) (q : DataQueueState) → change [] ≡ [] → is_empty (change q.receivers) ≡ false →
    is_empty q.receivers ≡ false
some-before change q none some = before-by q.receivers refl
  where
    before-by : (rs : List Plain) → q.receivers ≡ rs → is_empty rs ≡ false
    before-by [] is = absurd (false≢true (sym some ∙ ap (λ l. is_empty (change l)) is ∙ ap is_empty none))
    before-by (first ∷ others) is = refl

pub queue-left : (id : ℕ) (q : DataQueueState) → QueueIsKept q → QueueIsKept (data_queue_left id q)
queue-left id q was = record {
  ordered = in-without q.order id q.senders was.ordered;
  room = λ has. ap (without id) (was.room has);
  datum = λ some. let lacking = was.datum (some-before (without id) q refl some) in (lacking.0, ap (without id) lacking.1);
}

pub queue-reordered : (id priority : ℕ) (q : DataQueueState) → QueueIsKept q → QueueIsKept (data_queue_reordered id priority q)
queue-reordered id priority q was = record {
  ordered = in-reordered q.order id priority q.senders was.ordered;
  room = λ has. nobody-reordered q.order id priority q.senders (was.room has);
  datum = λ some. let lacking = was.datum (some-before (reordered Arrival id priority) q refl some) in
      (lacking.0, nobody-reordered q.order id priority q.senders lacking.1);
}
