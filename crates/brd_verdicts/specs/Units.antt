-- Which tasks have units of semaphores, and mutexes, and which semaphores serve as locks.
use Rattle.std.specs.Prelude.{ℕ, ◌%◌, ◌==◌, Bool, false, not, ◌&&◌, if◌then◌else◌, List, [], ◌∷◌, ◌++◌, remove}
use Rattle.std.specs.Prelude.{Option, None, Some}
use Rattle.std.specs.List.{filter, list_any, position}
use Rattle.brd_kernel.specs.declared.call.Call.{Call}
use Rattle.brd_kernel.specs.declared.call.Call.TheVariants as call
use Rattle.brd_board.specs.Board.{BoardState, mutex_owner_of}
use Rattle.brd_verdicts.specs.declared.units.{Lock.Lock, Unit.Unit, Units.Units}
use Rattle.brd_verdicts.specs.declared.units.Lock.TheVariants.{Semaphore, Mutex}

-- both are the same lock
abbrev pub is_same : Lock → Lock → Bool
is_same (Semaphore a) (Semaphore b) = a == b
is_same (Mutex a) (Mutex b) = a == b
is_same (Semaphore a) (Mutex b) = false
is_same (Mutex a) (Semaphore b) = false

-- A semaphore serves as a lock: nobody has given it but tasks that had a unit of it.
abbrev pub is_lock : Units → ℕ → Bool
is_lock units semaphore = not (list_any (λ other. other == semaphore) units.others)

-- a mutex that somebody has, or nobody, is a task's
abbrev pub is_owner : Option ℕ → ℕ → Bool
is_owner None task = false
is_owner (Some owner) task = owner == task

-- What a task has taken is its own on a board: a unit of a semaphore that serves as a lock, and a mutex where the board
-- says that this task has it.

abbrev pub has_lock : Units → BoardState → Lock → ℕ → Bool
has_lock units board (Semaphore semaphore) task = is_lock units semaphore
has_lock units board (Mutex mutex) task = is_owner (mutex_owner_of board (mutex % 65536)) task

abbrev pub is_own : Units → BoardState → Unit → Bool
is_own units board unit = has_lock units board unit.lock unit.task

-- what tasks have taken and not given back: the units of those semaphores, and the mutexes
abbrev pub lock_units : Units → BoardState → List Unit
lock_units units board = filter (is_own units board) units.taken

-- ---- a unit is taken

-- of a semaphore
abbrev pub takes : ℕ → Unit → Units → Units
takes semaphore unit units =
    if is_lock units semaphore then record { taken = units.taken ++ unit ∷ []; others = units.others } else units

-- what is left when a mutex is another task's
abbrev pub without_mutex : ℕ → List Unit → List Unit
without_mutex mutex units = filter (λ unit. not (is_same (Mutex mutex) unit.lock)) units

-- a mutex, which nobody else has then
abbrev pub takes_mutex : ℕ → Unit → Units → Units
takes_mutex mutex unit units =
    record { taken = without_mutex mutex units.taken ++ unit ∷ []; others = units.others }

-- ---- a unit is given

-- a task has taken this unit of a semaphore
abbrev pub is_unit_of : ℕ → ℕ → Unit → Bool
is_unit_of semaphore task unit = is_same (Semaphore semaphore) unit.lock && unit.task == task

-- where among these the first unit is that a task has of a semaphore
abbrev pub unit_of : ℕ → Option ℕ → List Unit → Option ℕ
unit_of semaphore None units = None
unit_of semaphore (Some task) units = position (is_unit_of semaphore task) units

-- a task gives that one back; a handler, or a task that has none, gives it otherwise than a lock
abbrev pub given_at : ℕ → Option ℕ → Units → Units
given_at semaphore None units = record { taken = units.taken; others = units.others ++ semaphore ∷ [] }
given_at semaphore (Some at) units = record { taken = remove units.taken at; others = units.others }

abbrev pub gives : ℕ → Option ℕ → Units → Units
gives semaphore task units =
    if is_lock units semaphore then given_at semaphore (unit_of semaphore task units.taken) units else units

-- ---- a call that was answered with E_OK, of a task or a handler, in the event of a position

-- A mutex that is given back, by unl_mtx or by the end of its task, needs nothing here: the board says who has it.
abbrev pub units_by : ℕ → Option ℕ → Option Call → Units → Units
units_by position task (Some (call.SigSem semaphore)) units = gives semaphore task units
units_by position (Some task) (Some (call.TwaiSem semaphore timeout)) units =
    takes semaphore (record { lock = Semaphore semaphore; task = task; position = position }) units
units_by position (Some task) (Some (call.TlocMtx mutex timeout)) units =
    takes_mutex mutex (record { lock = Mutex mutex; task = task; position = position }) units
units_by position task other units = units
