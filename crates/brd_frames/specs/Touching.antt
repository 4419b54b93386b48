-- Which bytes of RAM an event touches: it fetches, loads or stores them. And which changes of RAM are clear of them.
use Rattle.std.specs.Prelude.{◌≡◌, ℕ, ◌+◌, ◌-◌, ◌≤◌, nat_le, nat_lt, Bool, true, false, ◌&&◌, ◌||◌, if◌then◌else◌}
use Rattle.std.specs.Prelude.{List, [], ◌∷◌, length, slice_index, slice_set, Option, None, Some, is_some, Result, Ok}
use Rattle.std.specs.Prelude.{Err}
use Rattle.brd_base.specs.Space.{base}
use Rattle.brd_isa.specs.declared.instruction.{Insn.Insn, LoadOp.LoadOp, StoreOp.StoreOp}
use Rattle.brd_isa.specs.declared.shape.AccessSize.{AccessSize}
use Rattle.brd_isa.specs.Shapes.{load_size, store_size}
use Rattle.brd_mem.specs.Memory.{Memory, size_of, byte_at}
use Rattle.brd_exec.specs.declared.outcome.ExceptionCode.{ExceptionCode}
use Rattle.brd_exec.specs.State.{State}
use Rattle.brd_exec.specs.Unaligned.{aligned}
use Rattle.brd_exec.specs.Action.{Action, action}
use Rattle.brd_exec.specs.Step.{next_instruction}
use Rattle.brd_kernel.specs.Kernel.{deliverable, context_on}
use Rattle.brd_board.specs.declared.event.Event.{Event}
use Rattle.brd_board.specs.declared.event.Event.TheVariants.{Step, Tick, Raise}
use Rattle.brd_board.specs.Board.{BoardState, Happened, happens, after}

-- Instructions.

-- an address is one of this many, from the first one on
abbrev pub is_among : ℕ → ℕ → ℕ → Bool
is_among first count address = nat_le first address && nat_lt address (first + count)

-- the addresses of an access of a size; of a part of an unaligned word all of the aligned word that holds it
abbrev pub covers : AccessSize → ℕ → ℕ → Bool
covers AccessSize.Byte address = is_among address 1
covers AccessSize.Halfword address = is_among address 2
covers AccessSize.Word address = is_among address 4
covers AccessSize.LeftPart address = is_among (aligned address) 4
covers AccessSize.RightPart address = is_among (aligned address) 4

-- the addresses from which a load loads, and to which a store stores
abbrev pub loads_at : LoadOp → ℕ → ℕ → Bool
loads_at op = covers (load_size op)

abbrev pub stores_at : StoreOp → ℕ → ℕ → Bool
stores_at op = covers (store_size op)

-- the addresses from which an instruction loads, or to which it stores
abbrev pub accesses : Action → ℕ → Bool
accesses (Action.Local after) address = false
accesses (Action.MayStop outcome) address = false
accesses (Action.Loads op rt at) address = loads_at op at address
accesses (Action.Stores op rt at) address = stores_at op at address
accesses (Action.LoadsLinked rt at) address = is_among at 4 address
accesses (Action.StoresIfLinked rt at) address = is_among at 4 address

abbrev pub accesses_next : State → ℕ → Result Insn ExceptionCode → Bool
accesses_next s address (Ok insn) = accesses (action insn s) address
accesses_next s address (Err code) = false

-- whether the next instruction of a context touches an address: its word is fetched there, or it accesses it
unfoldable pub touches : State → Memory → ℕ → Bool
touches s memory address = is_among s.pc 4 address || accesses_next s address (next_instruction s memory)

-- the addresses to which an instruction stores
abbrev pub stores_by : Action → ℕ → Bool
stores_by (Action.Local after) address = false
stores_by (Action.MayStop outcome) address = false
stores_by (Action.Loads op rt at) address = false
stores_by (Action.Stores op rt at) address = stores_at op at address
stores_by (Action.LoadsLinked rt at) address = false
stores_by (Action.StoresIfLinked rt at) address = is_among at 4 address

abbrev pub stores_next : State → ℕ → Result Insn ExceptionCode → Bool
stores_next s address (Ok insn) = stores_by (action insn s) address
stores_next s address (Err code) = false

-- whether the next instruction of a context stores to an address (an SC, if its processor is linked)
unfoldable pub stores : State → Memory → ℕ → Bool
stores s memory address = stores_next s address (next_instruction s memory)

-- Two memories agree on some addresses: they have one size and one byte order, and there the same bytes.
pub record Agree (touched : ℕ → Bool) (one two : Memory) : Type 0 where
  pub order : two.order ≡ one.order
  pub size : size_of two ≡ size_of one
  pub bytes : (address : ℕ) → base ≤ address → touched address ≡ true →
      slice_index two.bytes (address - base) ≡ slice_index one.bytes (address - base)

-- Events.

-- the context in which an event executes an instruction, if it does
unfoldable pub executing : BoardState → Event → Option State
executing b (Step cpu) =
    if b.kernel.off || is_some (deliverable b.kernel cpu) then None else context_on b.kernel cpu
executing b Tick = None
executing b (Raise line) = None

abbrev pub touched_in : Option State → Memory → ℕ → Bool
touched_in None memory address = false
touched_in (Some s) memory address = touches s memory address

abbrev pub stored_in : Option State → Memory → ℕ → Bool
stored_in None memory address = false
stored_in (Some s) memory address = stores s memory address

-- whether an event touches an address
abbrev pub is_touched : BoardState → Event → ℕ → Bool
is_touched b event address = touched_in (executing b event) b.memory address

-- whether it stores to one
abbrev pub is_stored : BoardState → Event → ℕ → Bool
is_stored b event address = stored_in (executing b event) b.memory address

-- An event leaves the bytes to which it doesn't store.
abbrev pub StoreLaw : Type 0
StoreLaw =
    (b : BoardState) (event : Event) (address : ℕ) → is_stored b event address ≡ false →
    byte_at (happens b event).board.memory address ≡ byte_at b.memory address

-- Changes of RAM's bytes.

abbrev pub Change : Type 0
Change = List ℕ → List ℕ

-- the memory, and the board, after a change
abbrev pub changed : Memory → Change → Memory
changed memory change = record memory { bytes = change memory.bytes }

abbrev pub with_change : BoardState → Change → BoardState
with_change b change = record b { memory = changed b.memory change }

abbrev pub happened_changed : Happened → Change → Happened
happened_changed done change = record done { board = with_change done.board change }

-- A change leaves a place of RAM alone: its byte stays, whatever it is; and whatever is put there, the change does the
-- same elsewhere.
pub record LeavesAlone (change : Change) (at : ℕ) : Type 0 where
  pub keeps : (bytes : List ℕ) → slice_index (change bytes) at ≡ slice_index bytes at
  pub ignores : (bytes : List ℕ) (byte : ℕ) → change (slice_set bytes at byte) ≡ slice_set (change bytes) at byte

-- A change is clear of these addresses: there are as many bytes after it, and it leaves alone each of RAM's places that
-- has one of the addresses.
pub record IsClearOf (change : Change) (touched : ℕ → Bool) : Type 0 where
  pub size : (bytes : List ℕ) → length (change bytes) ≡ length bytes
  pub alone : (address : ℕ) → base ≤ address → touched address ≡ true → LeavesAlone change (address - base)

-- a change is clear of each of these events, where it happens
abbrev pub AreClear : BoardState → List Event → Change → Type 0
AreClear b [] change = Unit {0}
AreClear b (event ∷ events) change =
    IsClearOf change (is_touched b event) × AreClear (happens b event).board events change

-- An event does the same after a change that is clear of what it touches; and the change may as well come after it.
abbrev pub FootprintLaw : Type 0
FootprintLaw =
    (b : BoardState) (event : Event) (change : Change) → IsClearOf change (is_touched b event) →
    happens (with_change b change) event ≡ happened_changed (happens b event) change

abbrev pub FootprintsLaw : Type 0
FootprintsLaw =
    (b : BoardState) (events : List Event) (change : Change) → AreClear b events change →
    after (with_change b change) events ≡ with_change (after b events) change

-- bytes that are put from a place on
abbrev pub put_at : ℕ → List ℕ → Change
put_at at [] bytes = bytes
put_at at (byte ∷ more) bytes = slice_set (put_at (at + 1) more bytes) at byte

-- Bytes that are put elsewhere are a change that is clear of addresses.
abbrev pub ClearLaw : Type 0
ClearLaw =
    (first : ℕ) (bytes : List ℕ) (touched : ℕ → Bool) → base ≤ first →
    ((address : ℕ) → is_among first (length bytes) address ≡ true → touched address ≡ false) →
    IsClearOf (put_at (first - base) bytes) touched
