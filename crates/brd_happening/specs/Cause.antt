-- Why an instruction raised an exception, by the exception's code.
use Rattle.std.specs.Prelude.{ℕ, ◌%◌, ◌==◌, if◌then◌else◌, Option, None, Some}
use Rattle.brd_word.specs.Words.{sign_extended16}
use Rattle.brd_isa.specs.declared.instruction.Insn.{Insn}
use Rattle.brd_isa.specs.declared.shape.MemoryAccess.{MemoryAccess}
use Rattle.brd_isa.specs.Shapes.{shape_of, does_load}
use Rattle.brd_exec.specs.declared.outcome.ExceptionCode.{ExceptionCode}
use Rattle.brd_exec.specs.State.{State, read}
use Rattle.brd_exec.specs.Accessed.{address_in}
use Rattle.brd_happening.specs.declared.found.Found.{Found}
use Rattle.brd_happening.specs.declared.cause.Cause.{Cause}
use Rattle.brd_happening.specs.declared.cause.Cause.TheVariants.{Fetch, Load, Store, Break, NoInstruction, JumpInSlot}
use Rattle.brd_happening.specs.declared.cause.Cause.TheVariants.{Operands, Unknown}

-- a fetch from the address of the instruction; $ra leads to where a wrong jump may have come from
abbrev pub fetch_cause : State → Cause
fetch_cause s = Fetch s.pc (read s 31)

-- a word that stands for no instruction, else a branch or a jump in a delay slot
abbrev pub reserved_cause : Option Insn → Option ℕ → Cause
reserved_cause insn None = Unknown
reserved_cause None (Some word) = NoInstruction word
reserved_cause (Some insn) (Some word) = JumpInSlot

-- Of an instruction that accesses no memory: its code, or the words that it adds, subtracts or compares. An immediate
-- has its sign extended.
abbrev pub computing_cause : Insn → State → Cause
computing_cause (Insn.Break code) s = Break code
computing_cause (Insn.ThreeRegisters op rd rs rt) s = Operands (read s rs) (read s rt)
computing_cause (Insn.WithImmediate op rt rs immediate) s = Operands (read s rs) (sign_extended16 immediate)
computing_cause (Insn.Trap op rs rt code) s = Operands (read s rs) (read s rt)
computing_cause (Insn.TrapImmediate op rs immediate) s = Operands (read s rs) (sign_extended16 immediate)
computing_cause _ s = Unknown

-- of an access to memory: the address that it names
abbrev pub access_cause : MemoryAccess → State → Cause
access_cause access s = if does_load access.transfer then Load (address_in s access) else Store (address_in s access)

abbrev pub cause_with : Option MemoryAccess → Insn → State → Cause
cause_with None insn s = computing_cause insn s
cause_with (Some access) insn s = access_cause access s

-- what an instruction does that may raise an exception
abbrev pub cause_by : Insn → State → Cause
cause_by insn s = cause_with (shape_of insn).access insn s

abbrev pub instruction_cause : Option Insn → State → Cause
instruction_cause None s = Unknown
instruction_cause (Some insn) s = cause_by insn s

-- why the instruction that was found raised an exception of this code; of an address error the fetch is tested first
abbrev pub cause_of : ExceptionCode → Found → Cause
cause_of ExceptionCode.AdEL found =
    if found.context.pc % 4 == 0 then instruction_cause found.insn found.context else fetch_cause found.context
cause_of ExceptionCode.AdES found = instruction_cause found.insn found.context
cause_of ExceptionCode.IBE found = fetch_cause found.context
cause_of ExceptionCode.DBE found = instruction_cause found.insn found.context
cause_of ExceptionCode.Bp found = instruction_cause found.insn found.context
cause_of ExceptionCode.RI found = reserved_cause found.insn found.word
cause_of ExceptionCode.Ov found = instruction_cause found.insn found.context
cause_of ExceptionCode.Tr found = instruction_cause found.insn found.context
