-- What a line of assembler source says, in lists and whole numbers: names are lists of bytes. The kinds of statements
-- are those of the code's types.
use Rattle.std.specs.Prelude.{ℕ, ◌%◌, ◌^◌, ℤ, pos, List, Option, None}
use Rattle.brd_isa.specs.declared.mnemonic.Mnemonic.{Mnemonic}
use Rattle.brd_word.specs.declared.order.Order.{Order}
use Rattle.brd_source.specs.declared.statement.Width.{Width}

-- the value of a name, if there is one, plus a number
pub record Expression : Type 0 where
  pub name : Option (List ℕ)
  pub number : ℤ

abbrev pub zero_expression : Expression
zero_expression = record { name = None; number = pos 0 }

-- an immediate or an offset: the value itself, %hi of it, or %lo of it
pub data Immediate : Type 0 where
  Whole : Expression → Immediate
  High : Expression → Immediate
  Low : Expression → Immediate

-- an operand: none at all, a register from 0 to 31, a value, or an offset and the register that it is from
pub data SourceOperand : Type 0 where
  Absent : SourceOperand
  Register : ℕ → SourceOperand
  Value : Immediate → SourceOperand
  Address : Immediate → ℕ → SourceOperand

-- up to three; those that are absent stand after the others
abbrev pub Operands : Type 0
Operands = SourceOperand × SourceOperand × SourceOperand

-- The register of an operand, by the low five bits of its number, its value, and the expression that is its value. 0
-- stands for what it hasn't.
abbrev pub register_in : SourceOperand → ℕ
register_in (Register r) = r % 2 ^ 5
register_in (Address i r) = r % 2 ^ 5
register_in _ = 0

abbrev pub immediate_in : SourceOperand → Immediate
immediate_in (Value i) = i
immediate_in (Address i r) = i
immediate_in _ = Whole zero_expression

abbrev pub expression_in : SourceOperand → Expression
expression_in (Value (Whole e)) = e
expression_in _ = zero_expression

pub record Instruction : Type 0 where
  pub mnemonic : Mnemonic
  pub operands : Operands

-- What stands after a line's labels: nothing at all, what has no effect, the byte order of the source, an instruction,
-- and so on.
pub data Statement : Type 0 where
  Nothing : Statement
  WithoutEffect : Statement
  ByteOrder : Order → Statement
  Instruct : Instruction → Statement
  Org : Expression → Statement
  Align : Expression → Statement
  Space : Expression → Statement
  Data : Width → List Expression → Statement
  Text : List ℕ → Statement
  Equal : List ℕ → Expression → Statement

-- the labels in order, and the statement after them
pub record Line : Type 0 where
  pub labels : List (List ℕ)
  pub statement : Statement
