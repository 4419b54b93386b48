-- What the processors did in a list of events, and when that leaves a processor a reservation of a word.
use Rattle.std.specs.Prelude.{◌≡◌, ℕ, nat_lt, ◌==◌, Bool, false, not, ◌&&◌, ◌||◌, if◌then◌else◌, List, [], ◌∷◌, ◌++◌}
use Rattle.std.specs.Prelude.{Option, Some, None}
use Rattle.std.specs.List.{AllByRecursion}
use Rattle.brd_link.specs.LinkSet.{is_same_block, without}
use Rattle.brd_exec.specs.Step.{ran}
use Rattle.brd_exec.specs.Did.{Did, LoadedLinked, StoredAt, Conditional, Passed, Ended, did}
use Rattle.brd_exec.specs.declared.outcome.Outcome.{Outcome}
use Rattle.brd_exec.specs.declared.outcome.Outcome.TheVariants.{Done, Syscall, Exception}
use Rattle.brd_time.specs.Time.{last_count, advanced}
use Rattle.brd_kernel.specs.declared.processor.Processor.{Processor}
use Rattle.brd_kernel.specs.declared.processor.Executor.{Executor}
use Rattle.brd_kernel.specs.Kernel.{processor_at, executor_on, context_of, deliverable, accepted_line}
use Rattle.brd_board.specs.Executing.{executed_by}
use Rattle.brd_kernel.specs.Waits.{ticked_on}
use Rattle.brd_kernel.specs.Dispatch.{dispatched, changed_processors}
use Rattle.brd_board.specs.declared.event.Event.{Event}
use Rattle.brd_board.specs.declared.event.Event.TheVariants.{Step, Tick, Raise}
use Rattle.brd_board.specs.Board.{BoardState, with_executed, with_call, with_fault, happens}

-- a processor, and what it did
pub record Move : Type 0 where
  pub processor : ℕ
  pub did : Did

-- The moves of each event, in the cases of `happens`.

-- an end for each of these processors
abbrev pub ends_of : List ℕ → List Move
ends_of [] = []
ends_of (cpu ∷ cpus) = (record { processor = cpu; did = Ended }) ∷ ends_of cpus

-- a dispatch of a board: an end for each processor whose running task becomes another
abbrev pub moves_dispatched : BoardState → List Move
moves_dispatched b = ends_of (changed_processors b.kernel (dispatched b.kernel))

-- An instruction, by how it ended; the board is the one after it. A SYSCALL is served, which is an end. An instruction
-- that raised an exception did what it did before that: an SC that raises is still an SC.
abbrev pub moves_done : BoardState → ℕ → Did → Outcome → List Move
moves_done b cpu what Done = (record { processor = cpu; did = what }) ∷ []
moves_done b cpu what Syscall = (record { processor = cpu; did = Ended }) ∷ moves_dispatched (with_call b cpu)
moves_done b cpu what (Exception code epc bd) =
    (record { processor = cpu; did = what })
    ∷ moves_dispatched (with_fault b cpu (record { code = code; epc = epc; bd = bd }))

-- nobody executes, or the handler or the running task does one instruction
abbrev pub moves_executing : BoardState → ℕ → Option Executor → List Move
moves_executing b cpu None = []
moves_executing b cpu (Some who) =
    let s = context_of b.kernel cpu who in
    let left = ran cpu s b.memory b.links in
    moves_done (with_executed b (executed_by b.kernel cpu who s.pc left)) cpu (did cpu s b.memory b.links) left.outcome

-- an interrupt is accepted, which is an end; or an instruction is executed
abbrev pub moves_accepting : BoardState → ℕ → Option ℕ → List Move
moves_accepting b cpu (Some line) =
    (record { processor = cpu; did = Ended })
    ∷ moves_dispatched (record b { kernel = accepted_line b.kernel cpu line; links = without b.links cpu })
moves_accepting b cpu None = moves_executing b cpu (executor_on b.kernel cpu)

abbrev pub moves_stepping : BoardState → ℕ → Option Processor → List Move
moves_stepping b cpu None = []
moves_stepping b cpu (Some p) = if p.stopped then [] else moves_accepting b cpu (deliverable b.kernel cpu)

-- a tick may end waits, and so change who runs; a line that is raised changes nobody
abbrev pub moves_on : BoardState → Event → List Move
moves_on b (Step cpu) = moves_stepping b cpu (processor_at b.kernel cpu)
moves_on b Tick =
    if nat_lt b.kernel.time.count last_count
    then moves_dispatched (record b { kernel = ticked_on b.kernel (advanced b.kernel.time) })
    else []
moves_on b (Raise line) = []

-- what the processors do in an event; nothing on a board that is off
unfoldable pub moves : BoardState → Event → List Move
moves b event = if b.kernel.off then [] else moves_on b event

-- what the processors did in a list of events
abbrev pub history : BoardState → List Event → List Move
history b [] = []
history b (event ∷ events) = moves b event ++ history (happens b event).board events

-- Reservations.

-- whether what processor `by` did ends a reservation of `cpu` of the word at an address
abbrev pub ends_if : ℕ → ℕ → ℕ → Did → Bool
ends_if cpu address by (LoadedLinked other word) = by == cpu
ends_if cpu address by (StoredAt other) = not (by == cpu) && is_same_block address other
ends_if cpu address by (Conditional other stored) = by == cpu || (stored && is_same_block address other)
ends_if cpu address by Passed = false
ends_if cpu address by Ended = by == cpu

abbrev pub ends : ℕ → ℕ → Move → Bool
ends cpu address move = ends_if cpu address move.processor move.did

-- none of these moves ends a reservation of the processor of the word at the address
abbrev pub Kept : ℕ → ℕ → List Move → Type 0
Kept cpu address moves = AllByRecursion (λ (move : Move). ends cpu address move ≡ false) moves

-- The processor has completed an LL of the word at the address, which loaded `word`, and nothing since has ended that.
pub record IsReserved (cpu address word : ℕ) (moves : List Move) : Type 0 where
  pub before : List Move
  pub between : List Move
  pub split : moves ≡ before ++ (record { processor = cpu; did = LoadedLinked address word }) ∷ between
  pub kept : Kept cpu address between

abbrev pub HasReserved : ℕ → ℕ → List Move → Type 0
HasReserved cpu address moves = (word : ℕ) × IsReserved cpu address word moves

-- whether it was a store into the block of an address, by a store or by an SC that stores
abbrev pub does_store : ℕ → Did → Bool
does_store address (LoadedLinked other word) = false
does_store address (StoredAt other) = is_same_block address other
does_store address (Conditional other stored) = stored && is_same_block address other
does_store address Passed = false
does_store address Ended = false

-- none of these moves is a store of the processor into the block
abbrev pub Untouched : ℕ → ℕ → List Move → Type 0
Untouched cpu address moves =
    AllByRecursion (λ (move : Move). (move.processor == cpu && does_store address move.did) ≡ false) moves
