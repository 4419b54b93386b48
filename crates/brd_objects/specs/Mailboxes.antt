-- Mailboxes (uITRON 4.0 specification, "Mailboxes"): the addresses of messages, in the order in which they are
-- received, and the tasks that wait for one. What stands in a message isn't said here.
use Rattle.std.specs.Prelude.{◌≡◌, ◌<◌, ◌≤◌, ℕ, nat_lt, Bool, not, ◌&&◌, if◌then◌else◌, List, [], ◌∷◌, ◌++◌, length}
use Rattle.std.specs.Prelude.{Option, None, Some}
use Rattle.std.specs.List.{AllByRecursion}
use Rattle.brd_config.specs.declared.objects.MailboxConfig.{MailboxConfig}
use Rattle.brd_queue.specs.declared.entry.QueueOrder.{QueueOrder}
use Rattle.brd_queue.specs.declared.entry.QueueOrder.TheVariants.{Arrival, Priority}
use Rattle.brd_queue.specs.Queue.{Plain, without, placed, reordered, is_empty}
use Rattle.brd_objects.specs.QueueOrder.{has_attribute, order_of}
use Rattle.brd_objects.specs.Table.{Table, made_below}
use Rattle.brd_objects.specs.declared.sent.Sent.{Sent}
use Rattle.brd_objects.specs.declared.sent.Sent.TheVariants.{Handed, Stored, Full}
use Rattle.brd_objects.specs.declared.message.Message.{Message}

pub record MailboxState : Type 0 where
  pub priorities : ℕ  -- how many priorities its messages have, where they have one
  pub order : QueueOrder  -- in which tasks wait
  pub message_order : QueueOrder  -- in which messages are received
  pub messages : List Message  -- the one that is received next first
  pub waiters : List Plain

-- TA_MPRI: messages are received by priority, else by arrival (TA_MFIFO)
abbrev pub ta_mpri : ℕ
ta_mpri = 2

abbrev pub message_order_of : ℕ → QueueOrder
message_order_of attributes = if has_attribute attributes ta_mpri then Priority else Arrival

-- as the configuration says it: no message is there, and nobody waits
abbrev pub mailbox_of : MailboxConfig → MailboxState
mailbox_of config =
    record {
      priorities = config.priorities;
      order = order_of config.attributes.0;
      message_order = message_order_of config.attributes.0;
      messages = [];
      waiters = [];
    }

abbrev pub made_mailboxes : List MailboxConfig → Table MailboxState
made_mailboxes configs = made_below (λ config. config.id) mailbox_of configs 256

-- how many messages a mailbox keeps
abbrev pub most_messages : ℕ
most_messages = 256

abbrev pub has_room : MailboxState → Bool
has_room m = nat_lt (length m.messages) most_messages

-- one more message is refused: nobody waits for it, and there is no room
abbrev pub has_no_place : MailboxState → Bool
has_no_place m = is_empty m.waiters && not (has_room m)

-- a message stands before the first of lower priority, which is a higher number: after its equals
abbrev pub behind_equals : Message → List Message → List Message
behind_equals message [] = message ∷ []
behind_equals message (x ∷ xs) =
    if nat_lt message.priority x.priority then message ∷ x ∷ xs else x ∷ behind_equals message xs

-- messages with one more
abbrev pub with_message : QueueOrder → Message → List Message → List Message
with_message Arrival message xs = xs ++ message ∷ []
with_message Priority message xs = behind_equals message xs

-- A message is sent: the first waiter leaves with it, else it is kept, where there is room.

abbrev pub sent_to : Message → MailboxState → List Plain → MailboxState
sent_to message m [] =
    if has_room m then record m { messages = with_message m.message_order message m.messages } else m
sent_to message m (first ∷ others) = record m { waiters = others }

abbrev pub message_sent : Message → MailboxState → MailboxState
message_sent message m = sent_to message m m.waiters

-- what became of it

abbrev pub outcome_to : MailboxState → List Plain → Sent
outcome_to m [] = if has_room m then Stored else Full
outcome_to m (first ∷ others) = Handed first.id

abbrev pub message_outcome : MailboxState → Sent
message_outcome m = outcome_to m m.waiters

-- A message is received, where one is there: which, and the mailbox after it.

abbrev pub received_from : List Message → MailboxState → MailboxState
received_from [] m = m
received_from (first ∷ others) m = record m { messages = others }

abbrev pub message_received : MailboxState → MailboxState
message_received m = received_from m.messages m

abbrev pub first_message : List Message → Option ℕ
first_message [] = None
first_message (first ∷ others) = Some first.address

abbrev pub next_message : MailboxState → Option ℕ
next_message m = first_message m.messages

-- a task waits
abbrev pub mailbox_awaited : ℕ → ℕ → MailboxState → MailboxState
mailbox_awaited id priority m =
    record m { waiters = placed m.order (record { id = id; priority = priority; wanted = tt }) m.waiters }

-- a task no longer waits
abbrev pub mailbox_left : ℕ → MailboxState → MailboxState
mailbox_left id m = record m { waiters = without id m.waiters }

-- a task that waits is given a priority: by arrival it keeps its place, by priority it comes after its equals
abbrev pub mailbox_reordered : ℕ → ℕ → MailboxState → MailboxState
mailbox_reordered id priority m = record m { waiters = reordered m.order id priority m.waiters }

-- The order of messages that are received by priority: higher priority, which is a lower number, before lower, and of
-- equal priority whichever was sent earlier.

-- no message stands before one of higher priority
abbrev pub AreByPriority : List Message → Type 0
AreByPriority [] = Unit {0}
AreByPriority (x ∷ xs) = AllByRecursion (λ other. x.priority ≤ other.priority) xs × AreByPriority xs

-- A message came: the others stand as they stood, all that have its priority or a higher one before it, the rest after
-- it.
pub record Comes (message : Message) (old new : List Message) : Type 0 where
  pub before : List Message
  pub behind : List Message
  pub was : old ≡ before ++ behind
  pub is : new ≡ before ++ message ∷ behind
  pub not_below : AllByRecursion (λ other. other.priority ≤ message.priority) before
  pub below : AllByRecursion (λ other. message.priority < other.priority) behind

-- Of a mailbox that may not be there.

abbrev pub message_outcome_in : Option MailboxState → Sent
message_outcome_in None = Full
message_outcome_in (Some m) = message_outcome m

abbrev pub next_message_in : Option MailboxState → Option ℕ
next_message_in None = None
next_message_in (Some m) = next_message m
