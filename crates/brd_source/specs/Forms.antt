-- Which operands each mnemonic and each shorthand takes: a line a form.
use Rattle.std.specs.Prelude.{ℕ, Bool, true, false, ◌&&◌, if◌then◌else◌, Option, Some, None}
use Rattle.brd_isa.specs.declared.instruction.ShiftOp.TheVariants.{Sll}
use Rattle.brd_isa.specs.declared.instruction.RegisterOp.TheVariants.{Addu}
use Rattle.brd_isa.specs.declared.instruction.BranchOp.TheVariants.{Beq, Bne}
use Rattle.brd_isa.specs.declared.instruction.BranchRegimmOp.TheVariants.{Bgezal}
use Rattle.brd_isa.specs.declared.mnemonic.Mnemonic.{Mnemonic}
use Rattle.brd_isa.specs.declared.mnemonic.Mnemonic.TheVariants as mnemonic
use Rattle.brd_source.specs.declared.forms.Kind.{Kind}
use Rattle.brd_source.specs.declared.forms.Kind.TheVariants.{Nothing, Register, Link, Number, Code, Value, Address}
use Rattle.brd_source.specs.declared.operations.Shorthand.{Shorthand}
use Rattle.brd_source.specs.declared.operations.Shorthand.TheVariants as shorthand
use Rattle.brd_source.specs.Statement.{SourceOperand, Operands, Instruction, zero_expression}
use Rattle.brd_source.specs.Statement.Immediate.{Whole}
use Rattle.brd_source.specs.Statement.SourceOperand.{Absent, Register as ARegister, Value as AValue}
use Rattle.brd_source.specs.Statement.SourceOperand.{Address as AnAddress}

-- ---- the tables

-- what the operands of a mnemonic are, in the order in which they are written
abbrev pub form_of : Mnemonic → Kind × Kind × Kind
form_of (mnemonic.Shift op) = (Register, Register, Number)
form_of (mnemonic.ShiftVariable op) = (Register, Register, Register)
form_of (mnemonic.ThreeRegisters op) = (Register, Register, Register)
form_of mnemonic.Multiply = (Register, Register, Register)
form_of mnemonic.JumpRegister = (Register, Nothing, Nothing)
form_of mnemonic.JumpLinkRegister = (Link, Register, Nothing)
form_of mnemonic.Syscall = (Code, Nothing, Nothing)
form_of mnemonic.Break = (Code, Nothing, Nothing)
form_of mnemonic.Sync = (Nothing, Nothing, Nothing)
form_of (mnemonic.MoveFrom op) = (Register, Nothing, Nothing)
form_of (mnemonic.MoveTo op) = (Register, Nothing, Nothing)
form_of (mnemonic.Product op) = (Register, Register, Nothing)
form_of (mnemonic.Accumulate op) = (Register, Register, Nothing)
form_of (mnemonic.Count op) = (Register, Register, Nothing)
form_of (mnemonic.Trap op) = (Register, Register, Code)
form_of (mnemonic.TrapImmediate op) = (Register, Value, Nothing)
form_of (mnemonic.Jump op) = (Number, Nothing, Nothing)
form_of (mnemonic.Branch op) = (Register, Register, Number)
form_of (mnemonic.BranchZero op) = (Register, Number, Nothing)
form_of (mnemonic.BranchRegimm op) = (Register, Number, Nothing)
form_of (mnemonic.WithImmediate op) = (Register, Register, Value)
form_of mnemonic.LoadUpper = (Register, Value, Nothing)
form_of (mnemonic.Load op) = (Register, Address, Nothing)
form_of (mnemonic.Store op) = (Register, Address, Nothing)
form_of (mnemonic.Linked op) = (Register, Address, Nothing)
form_of mnemonic.Prefetch = (Number, Address, Nothing)

-- what the operands of a shorthand are
abbrev pub short_form_of : Shorthand → Kind × Kind × Kind
short_form_of shorthand.Nop = (Nothing, Nothing, Nothing)
short_form_of shorthand.Move = (Register, Register, Nothing)
short_form_of shorthand.Branch = (Number, Nothing, Nothing)
short_form_of shorthand.BranchIfZero = (Register, Number, Nothing)
short_form_of shorthand.BranchUnlessZero = (Register, Number, Nothing)
short_form_of shorthand.BranchAndLink = (Number, Nothing, Nothing)

abbrev pub register : ℕ → SourceOperand
register r = ARegister r

abbrev pub zero : SourceOperand
zero = AValue (Whole zero_expression)

abbrev pub instruction : Mnemonic → Operands → Instruction
instruction m os = record { mnemonic = m; operands = os }

-- the instruction that a shorthand with these operands stands for
abbrev pub stands_for : Shorthand → Operands → Instruction
stands_for shorthand.Nop os = instruction (mnemonic.Shift Sll) (register 0, register 0, zero)
stands_for shorthand.Move os = instruction (mnemonic.ThreeRegisters Addu) (os.0, os.1, register 0)
stands_for shorthand.Branch os = instruction (mnemonic.Branch Beq) (register 0, register 0, os.0)
stands_for shorthand.BranchIfZero os = instruction (mnemonic.Branch Beq) (os.0, register 0, os.1)
stands_for shorthand.BranchUnlessZero os = instruction (mnemonic.Branch Bne) (os.0, register 0, os.1)
stands_for shorthand.BranchAndLink os = instruction (mnemonic.BranchRegimm Bgezal) (register 0, os.0, Absent)

-- ---- their use

-- Link may be left out alone: then it is register 31
abbrev pub is_unlinked : Kind → SourceOperand → Bool
is_unlinked Link Absent = true
is_unlinked _ _ = false

abbrev pub linked : Kind → Operands → Operands
linked kind os = if is_unlinked kind os.1 then (register 31, os.0, os.2) else os

-- Code may be left out: then it is 0
abbrev pub is_left_out : Kind → SourceOperand → Bool
is_left_out Code Absent = true
is_left_out _ _ = false

abbrev pub filled : Kind → SourceOperand → SourceOperand
filled kind o = if is_left_out kind o then zero else o

-- whether an operand is of a kind
abbrev pub is_of : Kind → SourceOperand → Bool
is_of Nothing Absent = true
is_of Register (ARegister r) = true
is_of Link (ARegister r) = true
is_of Number (AValue (Whole e)) = true
is_of Code (AValue (Whole e)) = true
is_of Value (AValue i) = true
is_of Address (AnAddress i r) = true
is_of _ _ = false

abbrev pub are_of : Kind × Kind × Kind → Operands → Bool
are_of form os = is_of form.0 os.0 && is_of form.1 os.1 && is_of form.2 os.2

-- the operands with those that are left out
abbrev pub completed : Kind × Kind × Kind → Operands → Operands
completed form os = (filled form.0 os.0, filled form.1 os.1, filled form.2 os.2)

-- the operands of this form that are written so, none left out
unfoldable pub taken : Kind × Kind × Kind → Operands → Option Operands
taken form os =
    if are_of form (completed form (linked form.0 os)) then Some (completed form (linked form.0 os)) else None
