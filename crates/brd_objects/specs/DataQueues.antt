-- Data queues (uITRON 4.0 specification, "Data Queues"): data in the order in which they were stored, the tasks that
-- wait to send one, each with it, and the tasks that wait to receive one.
use Rattle.std.specs.Prelude.{ℕ, ◌<◌, nat_lt, Bool, if◌then◌else◌, List, [], ◌∷◌, ◌++◌, length, map, drop, Option, None}
use Rattle.std.specs.Prelude.{Some, IfSome}
use Rattle.brd_config.specs.declared.objects.QueueConfig.{QueueConfig}
use Rattle.brd_queue.specs.declared.entry.QueueEntry.{QueueEntry}
use Rattle.brd_queue.specs.declared.entry.QueueOrder.{QueueOrder}
use Rattle.brd_queue.specs.declared.entry.QueueOrder.TheVariants.{Arrival}
use Rattle.brd_queue.specs.Queue.{Plain, without, placed, reordered}
use Rattle.brd_objects.specs.QueueOrder.{order_of}
use Rattle.brd_objects.specs.Table.{Table, made_below}
use Rattle.brd_objects.specs.declared.sent.Sent.{Sent}
use Rattle.brd_objects.specs.declared.sent.Sent.TheVariants.{Handed, Stored, Full}
use Rattle.brd_objects.specs.declared.sent.Received.{Received}

pub record DataQueueState : Type 0 where
  pub capacity : ℕ  -- how many data it stores
  pub order : QueueOrder  -- in which senders wait; receivers always wait by arrival
  pub stored : List ℕ  -- the oldest first
  pub senders : List (QueueEntry ℕ)  -- each with its datum
  pub receivers : List Plain

-- as the configuration says it: empty, and nobody waits
abbrev pub data_queue_of : QueueConfig → DataQueueState
data_queue_of config =
    record {
      capacity = config.capacity;
      order = order_of config.attributes.0;
      stored = [];
      senders = [];
      receivers = [];
    }

abbrev pub made_queues : List QueueConfig → Table DataQueueState
made_queues configs = made_below (λ config. config.id) data_queue_of configs 256

abbrev pub has_room : DataQueueState → Bool
has_room q = nat_lt (length q.stored) q.capacity

-- A datum is sent: the first receiver leaves with it, else it is stored, where there is room.

abbrev pub sent_to : ℕ → DataQueueState → List Plain → DataQueueState
sent_to datum q [] = if has_room q then record q { stored = q.stored ++ datum ∷ [] } else q
sent_to datum q (first ∷ others) = record q { receivers = others }

abbrev pub sent : ℕ → DataQueueState → DataQueueState
sent datum q = sent_to datum q q.receivers

-- what became of it

abbrev pub outcome_to : DataQueueState → List Plain → Sent
outcome_to q [] = if has_room q then Stored else Full
outcome_to q (first ∷ others) = Handed first.id

abbrev pub outcome : DataQueueState → Sent
outcome q = outcome_to q q.receivers

-- A datum is forced in: the first receiver leaves with it, else it is stored, and a full queue gives its oldest datum
-- up for it.

abbrev pub with_room_for : DataQueueState → List Plain → DataQueueState
with_room_for q [] = if has_room q then q else record q { stored = drop 1 q.stored }
with_room_for q (first ∷ others) = q

abbrev pub with_room : DataQueueState → DataQueueState
with_room q = with_room_for q q.receivers

abbrev pub forced : ℕ → DataQueueState → DataQueueState
forced datum q = sent datum (with_room q)

abbrev pub forced_outcome : DataQueueState → Sent
forced_outcome q = outcome (with_room q)

-- A datum is received: the oldest one, and the datum of the first sender takes the free place; where none is stored,
-- the first sender's.

abbrev pub received_by : DataQueueState → List ℕ → List (QueueEntry ℕ) → DataQueueState
received_by q [] [] = q
received_by q [] (first ∷ others) = record q { senders = others }
received_by q (oldest ∷ newer) [] = record q { stored = newer }
received_by q (oldest ∷ newer) (first ∷ others) = record q { stored = newer ++ first.wanted ∷ []; senders = others }

abbrev pub received : DataQueueState → DataQueueState
received q = received_by q q.stored q.senders

-- what is received, and who no longer waits to send

abbrev pub receipt_by : List ℕ → List (QueueEntry ℕ) → Option Received
receipt_by [] [] = None
receipt_by [] (first ∷ others) = Some (record { datum = first.wanted; sender = Some first.id })
receipt_by (oldest ∷ newer) [] = Some (record { datum = oldest; sender = None })
receipt_by (oldest ∷ newer) (first ∷ others) = Some (record { datum = oldest; sender = Some first.id })

abbrev pub receipt : DataQueueState → Option Received
receipt q = receipt_by q.stored q.senders

-- a task waits to send a datum, or to receive one

abbrev pub awaited_by_sender : ℕ → ℕ → ℕ → DataQueueState → DataQueueState
awaited_by_sender id priority datum q =
    record q { senders = placed q.order (record { id = id; priority = priority; wanted = datum }) q.senders }

abbrev pub awaited_by_receiver : ℕ → ℕ → DataQueueState → DataQueueState
awaited_by_receiver id priority q =
    record q { receivers = placed Arrival (record { id = id; priority = priority; wanted = tt }) q.receivers }

-- a task no longer waits, and its datum goes with it
abbrev pub data_queue_left : ℕ → DataQueueState → DataQueueState
data_queue_left id q = record q { senders = without id q.senders; receivers = without id q.receivers }

-- a task that waits is given a priority: by arrival it keeps its place, by priority it comes after its equals
abbrev pub data_queue_reordered : ℕ → ℕ → DataQueueState → DataQueueState
data_queue_reordered id priority q =
    record q {
      senders = reordered q.order id priority q.senders;
      receivers = reordered Arrival id priority q.receivers;
    }

-- the IDs of the tasks that are named are below 256

abbrev pub IsToTask : Sent → Type 0
IsToTask (Handed id) = id < 256
IsToTask Stored = Unit {0}
IsToTask Full = Unit {0}

abbrev pub IsFromTask : Received → Type 0
IsFromTask it = IfSome it.sender (λ id. id < 256)

-- all data that a queue has: those that are stored, and after them the senders'
abbrev pub contents : DataQueueState → List ℕ
contents q = q.stored ++ map (λ e. e.wanted) q.senders

-- Of a queue that may not be there.

abbrev pub outcome_in : Option DataQueueState → Sent
outcome_in None = Full
outcome_in (Some q) = outcome q

abbrev pub forced_outcome_in : Option DataQueueState → Sent
forced_outcome_in None = Full
forced_outcome_in (Some q) = forced_outcome q

abbrev pub receipt_in : Option DataQueueState → Option Received
receipt_in None = None
receipt_in (Some q) = receipt q
