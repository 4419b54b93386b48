-- Mutexes (uITRON 4.0 specification, "Mutexes"): who has one, and the tasks that wait for it. What they do to
-- priorities isn't said here.
use Rattle.std.specs.Prelude.{ℕ, ◌==◌, Bool, false, List, [], ◌∷◌, Option, None, Some}
use Rattle.brd_config.specs.declared.objects.MutexConfig.{MutexConfig}
use Rattle.brd_config.specs.declared.objects.Protocol.{Protocol}
use Rattle.brd_config.specs.declared.objects.Protocol.TheVariants as protocol
use Rattle.brd_queue.specs.declared.entry.QueueOrder.{QueueOrder}
use Rattle.brd_queue.specs.declared.entry.QueueOrder.TheVariants as order
use Rattle.brd_queue.specs.Queue.{Plain, without, placed, reordered}
use Rattle.brd_objects.specs.Table.{Table, made_below}
use Rattle.brd_objects.specs.Waiters.{first_in}
use Rattle.brd_objects.specs.declared.mutex.Mutex.{Mutex}

-- the order in which tasks wait
abbrev pub protocol_order : Protocol → QueueOrder
protocol_order protocol.Arrival = order.Arrival
protocol_order protocol.Priority = order.Priority
protocol_order protocol.Inherit = order.Priority
protocol_order protocol.Ceiling = order.Priority

-- as the configuration says it: nobody has it
abbrev pub mutex_of : MutexConfig → Mutex
mutex_of config = record { owner = None; protocol = config.protocol; ceiling = config.ceiling; waiters = [] }

abbrev pub made_mutexes : List MutexConfig → Table Mutex
made_mutexes configs = made_below (λ config. config.id) mutex_of configs 256

abbrev pub is_owner : ℕ → Option ℕ → Bool
is_owner id None = false
is_owner id (Some owner) = owner == id

-- a task has it
abbrev pub is_owned_by : ℕ → Mutex → Bool
is_owned_by id m = is_owner id m.owner

-- a task takes it
abbrev pub owned : ℕ → Mutex → Mutex
owned id m = record m { owner = Some id }

-- It is given back: the first waiter leaves with it, else nobody has it.

abbrev pub given_to : Mutex → List Plain → Mutex
given_to m [] = record m { owner = None }
given_to m (first ∷ others) = record m { owner = Some first.id; waiters = others }

abbrev pub given : Mutex → Mutex
given m = given_to m m.waiters

-- who has it then
abbrev pub next_owner : Mutex → Option ℕ
next_owner m = first_in m.waiters

-- a task waits
abbrev pub mutex_awaited : ℕ → ℕ → Mutex → Mutex
mutex_awaited id priority m =
    record m {
      waiters = placed (protocol_order m.protocol) (record { id = id; priority = priority; wanted = tt }) m.waiters;
    }

-- a task no longer waits
abbrev pub mutex_left : ℕ → Mutex → Mutex
mutex_left id m = record m { waiters = without id m.waiters }

-- a task that waits is given a priority: by arrival it keeps its place, by priority it comes after its equals
abbrev pub mutex_reordered : ℕ → ℕ → Mutex → Mutex
mutex_reordered id priority m = record m { waiters = reordered (protocol_order m.protocol) id priority m.waiters }

-- Of a mutex that may not be there.
abbrev pub next_owner_in : Option Mutex → Option ℕ
next_owner_in None = None
next_owner_in (Some m) = next_owner m
