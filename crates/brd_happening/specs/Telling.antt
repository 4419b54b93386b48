-- What the happening of an instruction tells is all that the instruction has changed.
use Rattle.std.specs.Prelude.{◌≡◌, ℕ, Bool, false, List, slice_set, Option, None, Some}
use Rattle.brd_isa.specs.declared.instruction.Insn.{Insn}
use Rattle.brd_mem.specs.Memory.{Memory}
use Rattle.brd_exec.specs.State.{State}
use Rattle.brd_exec.specs.Step.{Effect}
use Rattle.brd_happening.specs.declared.found.Found.{Found}
use Rattle.brd_happening.specs.declared.instruction.{Change.Change, Written.Written, Instruction.Instruction}
use Rattle.brd_happening.specs.declared.instruction.AccessKind.{AccessKind}
use Rattle.brd_happening.specs.Instruction.{instruction_of, kind_of, has_stored}

-- the registers with the one that was written
abbrev pub with_written : List ℕ → Option Written → List ℕ
with_written registers None = registers
with_written registers (Some it) = slice_set registers it.register it.word.new

-- a word with what became of it
abbrev pub with_change : ℕ → Option Change → ℕ
with_change word None = word
with_change word (Some it) = it.new

-- the registers, HI and LO after an instruction are those before it with what is told
pub record TellsRegisters (before after : State) (told : Instruction) : Type 0 where
  pub registers : after.registers ≡ with_written before.registers told.register
  pub hi : after.hi ≡ with_change before.hi told.hi
  pub lo : after.lo ≡ with_change before.lo told.lo

-- of an instruction that is done, by what it does
abbrev pub TellsEffect : Insn → Found → Option ℕ → Effect → Type 0
TellsEffect insn found held (Effect.Goes after memory links) =
    TellsRegisters found.context after (instruction_of insn found after held)
TellsEffect insn found held (Effect.Stops stop links) = Unit {0}

-- Which instructions are told to store: where none is, memory is as it was.

abbrev pub is_stored : Option AccessKind → Bool
is_stored None = false
is_stored (Some kind) = has_stored kind

abbrev pub stores_by : Insn → Bool → Bool
stores_by insn linked = is_stored (kind_of insn linked)

abbrev pub KeepsMemory : Memory → Effect → Type 0
KeepsMemory memory (Effect.Goes after stored links) = stored ≡ memory
KeepsMemory memory (Effect.Stops stop links) = Unit {0}
