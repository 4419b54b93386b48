-- How an instruction at an address is written in the assembler's source.
use Rattle.std.specs.Prelude.{◌≡◌, ℕ, ◌+◌, ◌-◌, ◌*◌, ◌/◌, ◌%◌, ◌^◌, ◌==◌, nat_lt, Bool, false, ◌&&◌, if◌then◌else◌}
use Rattle.std.specs.Prelude.{List, [], ◌∷◌, ◌++◌, codes, Some, slice_index_or}
use Rattle.std.specs.Bool.{MatchBool}
use Rattle.std.specs.Fmt.{decimal}
use Rattle.brd_word.specs.Words.{sign_extended16}
use Rattle.brd_isa.specs.declared.instruction.{Insn.Insn, ShiftOp.ShiftOp, ImmediateOp.ImmediateOp}
use Rattle.brd_isa.specs.declared.mnemonic.Mnemonic.{Mnemonic}
use Rattle.brd_isa.specs.Names.{mnemonic_named}
use Rattle.brd_isa.specs.Registers.{register_names}
use Rattle.brd_text.specs.Hex.{hex_of}
use Rattle.brd_listing.specs.declared.operand.ListedOperand.{ListedOperand}
use Rattle.brd_listing.specs.declared.operand.ListedOperand.TheVariants.{Nothing, Register, Signed, Bits, Number}
use Rattle.brd_listing.specs.declared.operand.ListedOperand.TheVariants.{Target}
use Rattle.brd_listing.specs.declared.operand.ListedOperand.TheVariants.{Address}
use Rattle.brd_listing.specs.Places.{short_hex}

-- which instruction it is, without its operands
abbrev pub mnemonic_of : Insn → Mnemonic
mnemonic_of (Insn.Shift op rd rt sa) = Mnemonic.Shift op
mnemonic_of (Insn.ShiftVariable op rd rt rs) = Mnemonic.ShiftVariable op
mnemonic_of (Insn.ThreeRegisters op rd rs rt) = Mnemonic.ThreeRegisters op
mnemonic_of (Insn.Multiply rd rs rt) = Mnemonic.Multiply
mnemonic_of (Insn.JumpRegister rs) = Mnemonic.JumpRegister
mnemonic_of (Insn.JumpLinkRegister rd rs) = Mnemonic.JumpLinkRegister
mnemonic_of (Insn.Syscall code) = Mnemonic.Syscall
mnemonic_of (Insn.Break code) = Mnemonic.Break
mnemonic_of Insn.Sync = Mnemonic.Sync
mnemonic_of (Insn.MoveFrom op rd) = Mnemonic.MoveFrom op
mnemonic_of (Insn.MoveTo op rs) = Mnemonic.MoveTo op
mnemonic_of (Insn.Product op rs rt) = Mnemonic.Product op
mnemonic_of (Insn.Accumulate op rs rt) = Mnemonic.Accumulate op
mnemonic_of (Insn.Count op rd rs) = Mnemonic.Count op
mnemonic_of (Insn.Trap op rs rt code) = Mnemonic.Trap op
mnemonic_of (Insn.TrapImmediate op rs immediate) = Mnemonic.TrapImmediate op
mnemonic_of (Insn.Jump op index) = Mnemonic.Jump op
mnemonic_of (Insn.Branch op rs rt offset) = Mnemonic.Branch op
mnemonic_of (Insn.BranchZero op rs offset) = Mnemonic.BranchZero op
mnemonic_of (Insn.BranchRegimm op rs offset) = Mnemonic.BranchRegimm op
mnemonic_of (Insn.WithImmediate op rt rs immediate) = Mnemonic.WithImmediate op
mnemonic_of (Insn.LoadUpper rt immediate) = Mnemonic.LoadUpper
mnemonic_of (Insn.Load op rt base offset) = Mnemonic.Load op
mnemonic_of (Insn.Store op rt base offset) = Mnemonic.Store op
mnemonic_of (Insn.Linked op rt base offset) = Mnemonic.Linked op
mnemonic_of (Insn.Prefetch hint base offset) = Mnemonic.Prefetch

-- a code, which is left out where it is 0
abbrev pub code_of : ℕ → ListedOperand
code_of code = if code == 0 then Nothing else Number code

-- the immediate of an operation: the logical ones read it as unsigned
abbrev pub immediate_of : ImmediateOp → ℕ → ListedOperand
immediate_of ImmediateOp.Andi immediate = Bits immediate
immediate_of ImmediateOp.Ori immediate = Bits immediate
immediate_of ImmediateOp.Xori immediate = Bits immediate
immediate_of _ immediate = Signed immediate

-- where a branch at an address leads: its offset counts words from the delay slot, and is signed
abbrev pub branch_target : ℕ → ℕ → ℕ
branch_target address offset = ((address + 4) % 2 ^ 32 + 4 * sign_extended16 offset % 2 ^ 32) % 2 ^ 32

-- where a jump at an address leads: in the region of 2 to the 28th bytes in which its delay slot lies
abbrev pub jump_target : ℕ → ℕ → ℕ
jump_target address words = (address + 4) % 2 ^ 32 / 2 ^ 28 * 2 ^ 28 + 4 * words

abbrev pub three : ListedOperand → ListedOperand → ListedOperand → List ListedOperand
three first second third = first ∷ second ∷ third ∷ []

-- the operands of an instruction at an address, in the order in which they are written; those that are absent stand
-- after the others
abbrev pub operands_of : Insn → ℕ → List ListedOperand
operands_of (Insn.Shift op rd rt sa) address = three (Register rd) (Register rt) (Number sa)
operands_of (Insn.ShiftVariable op rd rt rs) address = three (Register rd) (Register rt) (Register rs)
operands_of (Insn.ThreeRegisters op rd rs rt) address = three (Register rd) (Register rs) (Register rt)
operands_of (Insn.Multiply rd rs rt) address = three (Register rd) (Register rs) (Register rt)
operands_of (Insn.JumpRegister rs) address = three (Register rs) Nothing Nothing
operands_of (Insn.JumpLinkRegister rd rs) address = three (Register rd) (Register rs) Nothing
operands_of (Insn.Syscall code) address = three (code_of code) Nothing Nothing
operands_of (Insn.Break code) address = three (code_of code) Nothing Nothing
operands_of Insn.Sync address = three Nothing Nothing Nothing
operands_of (Insn.MoveFrom op rd) address = three (Register rd) Nothing Nothing
operands_of (Insn.MoveTo op rs) address = three (Register rs) Nothing Nothing
operands_of (Insn.Product op rs rt) address = three (Register rs) (Register rt) Nothing
operands_of (Insn.Accumulate op rs rt) address = three (Register rs) (Register rt) Nothing
operands_of (Insn.Count op rd rs) address = three (Register rd) (Register rs) Nothing
operands_of (Insn.Trap op rs rt code) address = three (Register rs) (Register rt) (code_of code)
operands_of (Insn.TrapImmediate op rs immediate) address = three (Register rs) (Signed immediate) Nothing
operands_of (Insn.Jump op index) address = three (Target (jump_target address index)) Nothing Nothing
operands_of (Insn.Branch op rs rt offset) address =
    three (Register rs) (Register rt) (Target (branch_target address offset))
operands_of (Insn.BranchZero op rs offset) address =
    three (Register rs) (Target (branch_target address offset)) Nothing
operands_of (Insn.BranchRegimm op rs offset) address =
    three (Register rs) (Target (branch_target address offset)) Nothing
operands_of (Insn.WithImmediate op rt rs immediate) address =
    three (Register rt) (Register rs) (immediate_of op immediate)
operands_of (Insn.LoadUpper rt immediate) address = three (Register rt) (Bits immediate) Nothing
operands_of (Insn.Load op rt base offset) address = three (Register rt) (Address offset base) Nothing
operands_of (Insn.Store op rt base offset) address = three (Register rt) (Address offset base) Nothing
operands_of (Insn.Linked op rt base offset) address = three (Register rt) (Address offset base) Nothing
operands_of (Insn.Prefetch hint base offset) address = three (Number hint) (Address offset base) Nothing

-- the name of a register, with the $
abbrev pub register_text : ℕ → List ℕ
register_text register = 36 ∷ slice_index_or register_names register []

-- the number that sixteen bits are as a signed one
abbrev pub signed_text : ℕ → List ℕ
signed_text bits = if nat_lt bits (2 ^ 15) then decimal bits else 45 ∷ decimal (2 ^ 16 - bits)

abbrev pub target_text : ℕ → List ℕ
target_text address = codes "0x" ++ hex_of address

-- offset(base)
abbrev pub address_text : ℕ → ℕ → List ℕ
address_text offset base = signed_text offset ++ 40 ∷ register_text base ++ 41 ∷ []

-- an operand, where there is one, behind what parts it from what is there
abbrev pub operand_text : List ℕ → ListedOperand → List ℕ
operand_text between Nothing = []
operand_text between (Register register) = between ++ register_text register
operand_text between (Signed bits) = between ++ signed_text bits
operand_text between (Bits bits) = between ++ short_hex bits
operand_text between (Number number) = between ++ decimal number
operand_text between (Target address) = between ++ target_text address
operand_text between (Address offset base) = between ++ address_text offset base

abbrev pub operands_text : List ListedOperand → List ℕ
operands_text (first ∷ second ∷ third ∷ []) =
    operand_text (codes " ") first ++ operand_text (codes ", ") second ++ operand_text (codes ", ") third
operands_text _ = []

-- SLL of register 0 by 0 into register 0
abbrev pub is_nop : Insn → Bool
is_nop (Insn.Shift ShiftOp.Sll rd rt sa) = (rd == 0) && (rt == 0) && (sa == 0)
is_nop _ = false

-- a text is the name of an instruction and its operands
pub record IsSpelled (insn : Insn) (address : ℕ) (text : List ℕ) : Type 0 where
  pub name : List ℕ
  pub named : mnemonic_named name ≡ Some (mnemonic_of insn)
  pub is : text ≡ name ++ operands_text (operands_of insn address)

-- A text is that of an instruction at an address: its name and its operands, or `nop`.
abbrev pub IsListed : Insn → ℕ → List ℕ → Type 0
IsListed insn address text = MatchBool (is_nop insn) (text ≡ codes "nop") (IsSpelled insn address text)

-- a text of this kind was put at the end
pub record IsBehind (IsIt : List ℕ → Type 0) (old new : List ℕ) : Type 0 where
  pub text : List ℕ
  pub is_it : IsIt text
  pub behind : new ≡ old ++ text
