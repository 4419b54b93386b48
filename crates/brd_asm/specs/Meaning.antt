-- What the pieces of a source mean, with all names known. Of one line first the names count, then the ranges of its
-- operands, then the alignment of a target.
use Rattle.std.specs.Prelude.{ℕ, ◌+◌, ◌-◌, ◌*◌, ◌/◌, ◌^◌, ℤ, pos, negsuc, ◌-ℤ◌, ◌==◌, if◌then◌else◌, List, [], ◌∷◌}
use Rattle.std.specs.Prelude.{◌++◌, replicate, Result, Ok, Err}
use Rattle.std.specs.Int.{int_div_euclid}
use Rattle.brd_text.specs.Faults.{◌>>=◌}
use Rattle.brd_word.specs.Words.{bytes_of_half, bytes_of_word}
use Rattle.brd_isa.specs.declared.instruction.Insn.{Insn}
use Rattle.brd_isa.specs.declared.instruction.Insn.TheVariants as insn
use Rattle.brd_isa.specs.declared.instruction.ImmediateOp.{ImmediateOp}
use Rattle.brd_isa.specs.declared.instruction.ImmediateOp.TheVariants.{Andi, Ori, Xori}
use Rattle.brd_isa.specs.declared.mnemonic.Mnemonic.{Mnemonic}
use Rattle.brd_isa.specs.declared.mnemonic.Mnemonic.TheVariants as mnemonic
use Rattle.brd_word.specs.declared.order.Order.{Order}
use Rattle.brd_source.specs.declared.statement.Width.{Width}
use Rattle.brd_source.specs.declared.statement.Width.TheVariants.{Byte, Half, Word}
use Rattle.brd_source.specs.Statement.{Expression, SourceOperand, Instruction, register_in, expression_in, immediate_in}
use Rattle.brd_asm.specs.declared.fault.AsmFault.{AsmFault}
use Rattle.brd_asm.specs.declared.fault.AsmFault.TheVariants as fault
use Rattle.brd_asm.specs.Values.{Name, value_of, modulo, signed_value, unsigned_value, known, within, up_to}
use Rattle.brd_asm.specs.Layout.{Content, Piece}
use Rattle.brd_asm.specs.Layout.Content.{Code, Values, Bytes, Zeros}

-- a number from 0 to high: a shift amount or a code
unfoldable pub number_in : ℕ → List Name → ℕ → SourceOperand → Result ℕ AsmFault
number_in line names high operand = do
  v ← known line (value_of names (expression_in operand))
  up_to line high v

-- the sixteen bits of a value from -32,768 to 32,767
unfoldable pub signed_field : ℕ → ℤ → Result ℕ AsmFault
signed_field line v = do
  x ← within line (negsuc 32767) (pos 32767) v
  Ok (modulo x (2 ^ 16))

-- the field of an immediate or offset that is read as signed
unfoldable pub signed_in : ℕ → List Name → SourceOperand → Result ℕ AsmFault
signed_in line names operand = do
  v ← known line (signed_value names (immediate_in operand))
  signed_field line v

-- the field of an immediate that isn't
unfoldable pub unsigned_in : ℕ → List Name → SourceOperand → Result ℕ AsmFault
unsigned_in line names operand = do
  v ← known line (unsigned_value names (immediate_in operand))
  up_to line 65535 v

-- the logical operations have an unsigned immediate
abbrev pub field_in : ImmediateOp → ℕ → List Name → SourceOperand → Result ℕ AsmFault
field_in Andi line names operand = unsigned_in line names operand
field_in Ori line names operand = unsigned_in line names operand
field_in Xori line names operand = unsigned_in line names operand
field_in _ line names operand = signed_in line names operand

-- a target that is a multiple of 4
unfoldable pub aligned : ℕ → ℤ → Result ℤ AsmFault
aligned line v = if modulo v 4 == 0 then Ok v else Err (fault.Misaligned line)

-- The offset of a branch at a place: from its slot, which is 4 bytes after it, -32,768 to 32,767 words.
unfoldable pub offset_to : ℕ → ℕ → List Name → SourceOperand → Result ℕ AsmFault
offset_to line place names target = do
  v ← known line (value_of names (expression_in target))
  distance ← within line (negsuc 131071) (pos 131068) (v -ℤ pos (place + 4))
  x ← aligned line v
  Ok (modulo (int_div_euclid distance (pos 4)) (2 ^ 16))

-- the first of the addresses that have the top four bits of this one
abbrev pub region_of : ℕ → ℕ
region_of address = address / 2 ^ 28 * 2 ^ 28

-- The index of a jump at a place. The target has the top four bits of the slot's address.
unfoldable pub index_to : ℕ → ℕ → List Name → SourceOperand → Result ℕ AsmFault
index_to line place names target = do
  v ← known line (value_of names (expression_in target))
  x ← within line (pos (region_of (place + 4))) (pos (region_of (place + 4) + (2 ^ 28 - 1))) v
  y ← aligned line v
  Ok (modulo (int_div_euclid y (pos 4)) (2 ^ 26))

-- The hint and the offset of a prefetch. The names of both count before their ranges.
unfoldable pub prefetch_in : ℕ → List Name → SourceOperand → SourceOperand → Result (ℕ × ℕ) AsmFault
prefetch_in line names hint offset = do
  h ← known line (value_of names (expression_in hint))
  v ← known line (signed_value names (immediate_in offset))
  n ← up_to line 31 h
  x ← signed_field line v
  Ok (n, x)

-- The instruction, with its numbers, that stands at a place: a line a form. A register is an operand or the base of an
-- address.
abbrev pub insn_of : ℕ → ℕ → List Name → Mnemonic → SourceOperand → SourceOperand → SourceOperand → Result Insn AsmFault
insn_of line place names (mnemonic.Shift op) a b c =
    number_in line names 31 c >>= λ n. Ok (insn.Shift op (register_in a) (register_in b) n)
insn_of line place names (mnemonic.ShiftVariable op) a b c =
    Ok (insn.ShiftVariable op (register_in a) (register_in b) (register_in c))
insn_of line place names (mnemonic.ThreeRegisters op) a b c =
    Ok (insn.ThreeRegisters op (register_in a) (register_in b) (register_in c))
insn_of line place names mnemonic.Multiply a b c = Ok (insn.Multiply (register_in a) (register_in b) (register_in c))
insn_of line place names mnemonic.JumpRegister a b c = Ok (insn.JumpRegister (register_in a))
insn_of line place names mnemonic.JumpLinkRegister a b c = Ok (insn.JumpLinkRegister (register_in a) (register_in b))
insn_of line place names mnemonic.Syscall a b c = number_in line names 1048575 a >>= λ n. Ok (insn.Syscall n)
insn_of line place names mnemonic.Break a b c = number_in line names 1048575 a >>= λ n. Ok (insn.Break n)
insn_of line place names mnemonic.Sync a b c = Ok insn.Sync
insn_of line place names (mnemonic.MoveFrom op) a b c = Ok (insn.MoveFrom op (register_in a))
insn_of line place names (mnemonic.MoveTo op) a b c = Ok (insn.MoveTo op (register_in a))
insn_of line place names (mnemonic.Product op) a b c = Ok (insn.Product op (register_in a) (register_in b))
insn_of line place names (mnemonic.Accumulate op) a b c = Ok (insn.Accumulate op (register_in a) (register_in b))
insn_of line place names (mnemonic.Count op) a b c = Ok (insn.Count op (register_in a) (register_in b))
insn_of line place names (mnemonic.Trap op) a b c =
    number_in line names 1023 c >>= λ n. Ok (insn.Trap op (register_in a) (register_in b) n)
insn_of line place names (mnemonic.TrapImmediate op) a b c =
    signed_in line names b >>= λ n. Ok (insn.TrapImmediate op (register_in a) n)
insn_of line place names (mnemonic.Jump op) a b c = index_to line place names a >>= λ n. Ok (insn.Jump op n)
insn_of line place names (mnemonic.Branch op) a b c =
    offset_to line place names c >>= λ n. Ok (insn.Branch op (register_in a) (register_in b) n)
insn_of line place names (mnemonic.BranchZero op) a b c =
    offset_to line place names b >>= λ n. Ok (insn.BranchZero op (register_in a) n)
insn_of line place names (mnemonic.BranchRegimm op) a b c =
    offset_to line place names b >>= λ n. Ok (insn.BranchRegimm op (register_in a) n)
insn_of line place names (mnemonic.WithImmediate op) a b c =
    field_in op line names c >>= λ n. Ok (insn.WithImmediate op (register_in a) (register_in b) n)
insn_of line place names mnemonic.LoadUpper a b c =
    unsigned_in line names b >>= λ n. Ok (insn.LoadUpper (register_in a) n)
insn_of line place names (mnemonic.Load op) a b c =
    signed_in line names b >>= λ n. Ok (insn.Load op (register_in a) (register_in b) n)
insn_of line place names (mnemonic.Store op) a b c =
    signed_in line names b >>= λ n. Ok (insn.Store op (register_in a) (register_in b) n)
insn_of line place names (mnemonic.Linked op) a b c =
    signed_in line names b >>= λ n. Ok (insn.Linked op (register_in a) (register_in b) n)
insn_of line place names mnemonic.Prefetch a b c =
    prefetch_in line names a b >>= λ n. Ok (insn.Prefetch n.0 (register_in b) n.1)

unfoldable pub instruction_of : ℕ → ℕ → List Name → Instruction → Result Insn AsmFault
instruction_of line place names i = insn_of line place names i.mnemonic i.operands.0 i.operands.1 i.operands.2

-- the least and the greatest value of each width
abbrev pub least_of : Width → ℤ
least_of Byte = negsuc 127
least_of Half = negsuc 32767
least_of Word = negsuc 2147483647

abbrev pub greatest_of : Width → ℤ
greatest_of Byte = pos 255
greatest_of Half = pos 65535
greatest_of Word = pos 4294967295

-- the bytes of a value, in the source's order
abbrev pub bytes_of : Order → Width → ℤ → List ℕ
bytes_of order Byte v = modulo v (2 ^ 8) ∷ []
bytes_of order Half v = bytes_of_half order (modulo v (2 ^ 16))
bytes_of order Word v = bytes_of_word order (modulo v (2 ^ 32))

-- the values of some expressions, unless a name in one of them has none
abbrev pub values_of : ℕ → List Name → List Expression → Result (List ℤ) AsmFault
values_of line names [] = Ok []
values_of line names (e ∷ es) = do
  v ← known line (value_of names e)
  vs ← values_of line names es
  Ok (v ∷ vs)

-- the bytes of some values, each of which has to be in range
abbrev pub data_of : Order → ℕ → Width → List ℤ → Result (List ℕ) AsmFault
data_of order line width [] = Ok []
data_of order line width (v ∷ vs) = do
  x ← within line (least_of width) (greatest_of width) v
  bytes ← data_of order line width vs
  Ok (bytes_of order width x ++ bytes)

-- an instruction, or bytes
pub data Meaning : Type 0 where
  Means : Insn → Meaning
  Is : List ℕ → Meaning

pub record Placed : Type 0 where
  pub place : ℕ
  pub meaning : Meaning

unfoldable pub content_meaning : Order → ℕ → ℕ → List Name → Content → Result Meaning AsmFault
content_meaning order line place names (Code instruction) = do
  i ← instruction_of line place names instruction
  Ok (Means i)
content_meaning order line place names (Values width es) = do
  vs ← values_of line names es
  bytes ← data_of order line width vs
  Ok (Is bytes)
content_meaning order line place names (Bytes bytes) = Ok (Is bytes)
content_meaning order line place names (Zeros n) = Ok (Is (replicate n 0))

-- what stands at the places of pieces, in their order
abbrev pub meanings : Order → List Name → List Piece → Result (List Placed) AsmFault
meanings order names [] = Ok []
meanings order names (piece ∷ pieces) = do
  meaning ← content_meaning order piece.line piece.place names piece.content
  others ← meanings order names pieces
  Ok (record { place = piece.place; meaning = meaning } ∷ others)
