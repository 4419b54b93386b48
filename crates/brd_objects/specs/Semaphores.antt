-- Semaphores (uITRON 4.0 specification, "Semaphores"): a count, and the tasks that wait for one.
use Rattle.std.specs.Prelude.{ℕ, ◌+◌, ◌-◌, ◌==◌, nat_le, nat_lt, Bool, false, not, ◌&&◌, if◌then◌else◌, List, [], ◌∷◌}
use Rattle.std.specs.Prelude.{Option, None, Some}
use Rattle.std.specs.Option.{option_map}
use Rattle.brd_config.specs.declared.objects.SemaphoreConfig.{SemaphoreConfig}
use Rattle.brd_queue.specs.Queue.{Plain, without, placed, reordered, is_empty, first_of}
use Rattle.brd_objects.specs.QueueOrder.{order_of}
use Rattle.brd_objects.specs.Table.{Table, made_below}
use Rattle.brd_objects.specs.declared.semaphore.Semaphore.{Semaphore}

-- as the configuration says it: nobody waits
abbrev pub semaphore_of : SemaphoreConfig → Semaphore
semaphore_of config =
    record { count = config.initial; maximum = config.maximum; order = order_of config.attributes.0; waiters = [] }

abbrev pub made_semaphores : List SemaphoreConfig → Table Semaphore
made_semaphores configs = made_below (λ config. config.id) semaphore_of configs 256

-- One is returned: the first waiter leaves with it, else it is counted, up to the maximum.

abbrev pub returned_to : Semaphore → List Plain → Semaphore
returned_to s [] = if nat_lt s.count s.maximum then record s { count = s.count + 1 } else s
returned_to s (first ∷ others) = record s { waiters = others }

abbrev pub returned : Semaphore → Semaphore
returned s = returned_to s s.waiters

-- the task that waits first
abbrev pub first_waiter : Semaphore → Option ℕ
first_waiter s = option_map (λ e. e.id) (first_of s.waiters)

-- one more is refused: nobody waits for it, and the count is the maximum
abbrev pub is_full : Semaphore → Bool
is_full s = is_empty s.waiters && nat_le s.maximum s.count

-- one can be taken
abbrev pub has_one : Semaphore → Bool
has_one s = not (s.count == 0)

-- one is taken, where there is one
abbrev pub taken : Semaphore → Semaphore
taken s = if s.count == 0 then s else record s { count = s.count - 1 }

-- a task waits
abbrev pub semaphore_awaited : ℕ → ℕ → Semaphore → Semaphore
semaphore_awaited id priority s =
    record s { waiters = placed s.order (record { id = id; priority = priority; wanted = tt }) s.waiters }

-- a task no longer waits
abbrev pub semaphore_left : ℕ → Semaphore → Semaphore
semaphore_left id s = record s { waiters = without id s.waiters }

-- a task that waits is given a priority: by arrival it keeps its place, by priority it comes after its equals
abbrev pub semaphore_reordered : ℕ → ℕ → Semaphore → Semaphore
semaphore_reordered id priority s = record s { waiters = reordered s.order id priority s.waiters }

-- Of a semaphore that may not be there.

abbrev pub first_waiter_in : Option Semaphore → Option ℕ
first_waiter_in None = None
first_waiter_in (Some s) = first_waiter s

abbrev pub has_one_in : Option Semaphore → Bool
has_one_in None = false
has_one_in (Some s) = has_one s
