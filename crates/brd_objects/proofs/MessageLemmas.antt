-- Messages of a mailbox: their order, and that none is lost.
use Rattle.std.proofs.Common.{◌≡◌, ◌<◌, ◌≤◌, ℕ, List, [], ◌∷◌, map, length, refl, ap, arith}
use Rattle.std.specs.Prelude.{Bool, true, false, nat_lt, if◌then◌else◌, None, Some}
use Rattle.std.specs.List.{AllByRecursion}
use Rattle.std.proofs.lemmas.Bool.Decides.{nat_tests}
use Rattle.brd_queue.specs.Queue.{Plain}
use Rattle.brd_objects.specs.declared.message.Message.{Message}
use Rattle.brd_objects.specs.declared.sent.Sent.TheVariants.{Handed, Stored, Full}
use Rattle.brd_objects.specs.Mailboxes.{MailboxState, most_messages, behind_equals, with_message, sent_to, message_sent, outcome_to, message_outcome, received_from, message_received, first_message, next_message, AreByPriority, Comes}

-- The order.

all-below : (m x : Message) (xs : List Message) → m.priority < x.priority → AllByRecursion (λ other. x.priority ≤ other.priority) xs → AllByRecursion (λ other. m.priority < other.priority) xs
all-below m x [] lower all = tt
all-below m x (y ∷ ys) lower all = (omega (arith, lower, all.0), all-below m x ys lower all.1)

comes-by : (first : Bool) (m x : Message) (xs : List Message) → nat_lt m.priority x.priority ≡ first → AreByPriority (x ∷ xs) → Comes m xs (behind_equals m xs) → Comes m (x ∷ xs) (if first then m ∷ x ∷ xs else x ∷ behind_equals m xs)
comes-by true m x xs test ordered rest =
    let lower : m.priority < x.priority = grind (arith, nat_tests) in
    record { before = []; behind = x ∷ xs; was = refl; is = refl; not_below = tt; below = (lower, all-below m x xs lower ordered.0) }
comes-by false m x xs test ordered rest =
    let not_lower : x.priority ≤ m.priority = grind (arith, nat_tests) in
    record { before = x ∷ rest.before; behind = rest.behind; was = ap (λ l. x ∷ l) rest.was; is = ap (λ l. x ∷ l) rest.is; not_below = (not_lower, rest.not_below); below = rest.below }

pub comes : (m : Message) (xs : List Message) → AreByPriority xs → Comes m xs (behind_equals m xs)
comes m [] ordered = record { before = []; behind = []; was = refl; is = refl; not_below = tt; below = tt }
comes m (x ∷ xs) ordered = comes-by (nat_lt m.priority x.priority) m x xs refl ordered (comes m xs ordered.1)

all-with : (n : ℕ) (m : Message) (xs : List Message) → n ≤ m.priority → AllByRecursion (λ other. n ≤ other.priority) xs → AllByRecursion (λ other. n ≤ other.priority) (behind_equals m xs)
all-with n m [] own all = (own, tt)
all-with n m (x ∷ xs) own all = grind (arith, nat_tests, own, all.0, all.1, all-with n m xs own all.1)

all-from : (m x : Message) (xs : List Message) → m.priority < x.priority → AllByRecursion (λ other. x.priority ≤ other.priority) xs → AllByRecursion (λ other. m.priority ≤ other.priority) xs
all-from m x [] lower all = tt
all-from m x (y ∷ ys) lower all = (omega (arith, lower, all.0), all-from m x ys lower all.1)

ordered-by : (first : Bool) (m x : Message) (xs : List Message) → nat_lt m.priority x.priority ≡ first → AreByPriority (x ∷ xs) → AreByPriority (behind_equals m xs) → AreByPriority (if first then m ∷ x ∷ xs else x ∷ behind_equals m xs)
ordered-by true m x xs test ordered rest =
    let lower : m.priority < x.priority = grind (arith, nat_tests) in
    ((omega (arith, lower), all-from m x xs lower ordered.0), ordered)
ordered-by false m x xs test ordered rest =
    let not_lower : x.priority ≤ m.priority = grind (arith, nat_tests) in
    (all-with x.priority m xs not_lower ordered.0, rest)

pub ordered-with : (m : Message) (xs : List Message) → AreByPriority xs → AreByPriority (behind_equals m xs)
ordered-with m [] ordered = (tt, tt)
ordered-with m (x ∷ xs) ordered = ordered-by (nat_lt m.priority x.priority) m x xs refl ordered (ordered-with m xs ordered.1)

-- None is lost.

received-of : (m : MailboxState) (messages : List Message) (address : ℕ) → first_message messages ≡ Some address → map (λ x. x.address) messages ≡ address ∷ map (λ x. x.address) (received_from messages m).messages
received-of m [] address is = let wrong : ⊥ = cc in absurd wrong
received-of m (first ∷ others) address is =
    let one : first.address ≡ address = cc in
    ap (λ n. n ∷ map (λ x. x.address) others) one

pub received-first : (m : MailboxState) (address : ℕ) → next_message m ≡ Some address → map (λ x. x.address) m.messages ≡ address ∷ map (λ x. x.address) (message_received m).messages
received-first m address is = received-of m m.messages address is

empty-of : (m : MailboxState) (messages : List Message) → first_message messages ≡ None → (messages ≡ []) × (received_from messages m ≡ m)
empty-of m [] is = (refl, refl)
empty-of m (first ∷ others) is = let wrong : ⊥ = cc in absurd wrong

pub empty : (m : MailboxState) → next_message m ≡ None → (m.messages ≡ []) × (message_received m ≡ m)
empty m is = empty-of m m.messages is

-- what a message that was sent has become
abbrev sent-by : (m : MailboxState) (room : Bool) (message : Message) → MailboxState
sent-by m room message = if room then record m { messages = with_message m.message_order message m.messages } else m

kept-by : (m : MailboxState) (room : Bool) (message : Message) → (if room then Stored else Full) ≡ Stored → (sent-by m room message).messages ≡ with_message m.message_order message m.messages
kept-by m true message is = refl
kept-by m false message is = let wrong : ⊥ = cc in absurd wrong

kept-of : (m : MailboxState) (waiters : List Plain) (message : Message) → outcome_to m waiters ≡ Stored → (sent_to message m waiters).messages ≡ with_message m.message_order message m.messages
kept-of m [] message is = kept-by m (nat_lt (length m.messages) most_messages) message is
kept-of m (first ∷ others) message is = let wrong : ⊥ = cc in absurd wrong

pub kept : (m : MailboxState) (message : Message) → message_outcome m ≡ Stored → (message_sent message m).messages ≡ with_message m.message_order message m.messages
kept m message is = kept-of m m.waiters message is

handed-by : (m : MailboxState) (room : Bool) (message : Message) (id : ℕ) → (if room then Stored else Full) ≡ Handed id → (sent-by m room message).messages ≡ m.messages
handed-by m true message id is = let wrong : ⊥ = cc in absurd wrong
handed-by m false message id is = let wrong : ⊥ = cc in absurd wrong

handed-of : (m : MailboxState) (waiters : List Plain) (message : Message) (id : ℕ) → outcome_to m waiters ≡ Handed id → (sent_to message m waiters).messages ≡ m.messages
handed-of m [] message id is = handed-by m (nat_lt (length m.messages) most_messages) message id is
handed-of m (first ∷ others) message id is = refl

pub handed : (m : MailboxState) (message : Message) (id : ℕ) → message_outcome m ≡ Handed id → (message_sent message m).messages ≡ m.messages
handed m message id is = handed-of m m.waiters message id is

full-by : (m : MailboxState) (room : Bool) (message : Message) → (if room then Stored else Full) ≡ Full → sent-by m room message ≡ m
full-by m true message is = let wrong : ⊥ = cc in absurd wrong
full-by m false message is = refl

full-of : (m : MailboxState) (waiters : List Plain) (message : Message) → outcome_to m waiters ≡ Full → sent_to message m waiters ≡ m
full-of m [] message is = full-by m (nat_lt (length m.messages) most_messages) message is
full-of m (first ∷ others) message is = let wrong : ⊥ = cc in absurd wrong

pub full : (m : MailboxState) (message : Message) → message_outcome m ≡ Full → message_sent message m ≡ m
full m message is = full-of m m.waiters message is
