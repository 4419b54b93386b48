-- Which instruction an entry stands for: one line an entry.
use Rattle.std.specs.Prelude.{◌≡◌, ℕ, ◌+◌, ◌*◌, ◌%◌, ◌^◌, false, Option, Some}
use Rattle.brd_isa.specs.declared.instruction.{Insn.Insn, ShiftOp.ShiftOp, ShiftVariableOp.ShiftVariableOp}
use Rattle.brd_isa.specs.declared.instruction.{RegisterOp.RegisterOp, MoveFromOp.MoveFromOp, MoveToOp.MoveToOp}
use Rattle.brd_isa.specs.declared.instruction.{ProductOp.ProductOp, BranchRegimmOp.BranchRegimmOp}
use Rattle.brd_isa.specs.declared.instruction.{AccumulateOp.AccumulateOp, CountOp.CountOp, JumpOp.JumpOp}
use Rattle.brd_isa.specs.declared.instruction.{BranchOp.BranchOp, BranchZeroOp.BranchZeroOp, ImmediateOp.ImmediateOp}
use Rattle.brd_isa.specs.declared.instruction.{LoadOp.LoadOp, StoreOp.StoreOp}
use Rattle.brd_word.specs.Words.{sign_extended16}
use Rattle.brd_exec.specs.State.{State, advanced}
use Rattle.brd_exec.specs.Action.{Action, action}
use Rattle.brd_exec.specs.Step.{has_slot}
use Rattle.brd_entries.specs.declared.entry.CodeEntry.{CodeEntry}

-- an instruction that goes on to the next one and changes nothing else, whatever the context is
pub record OnlyGoesOn (insn : Insn) : Type 0 where
  pub on : (s : State) → action insn s ≡ Action.Local (advanced s)
  pub slot : has_slot insn ≡ false

-- the word is one that stands for such an instruction
abbrev pub IsNop : Option Insn → Type 0
IsNop decoded = (insn : Insn) × (decoded ≡ Some insn) × OnlyGoesOn insn

-- how many words a branch's target is ahead of the branch: its offset counts from the delay slot
abbrev pub reach_of : ℕ → ℕ
reach_of offset = (sign_extended16 offset + 1) % 2 ^ 32

-- the instruction with an immediate or an offset of 16 bits, of which the entry has the sign-extended word
abbrev pub Extends : (ℕ → Insn) → ℕ → Option Insn → Type 0
Extends insn_with word decoded = (n : ℕ) × (decoded ≡ Some (insn_with n)) × (word ≡ sign_extended16 n)

-- the instruction with an immediate of 16 bits, of which the entry has the word with that high half
abbrev pub InHighHalf : (ℕ → Insn) → ℕ → Option Insn → Type 0
InHighHalf insn_with word decoded = (n : ℕ) × (decoded ≡ Some (insn_with n)) × (word ≡ n * 2 ^ 16)

-- the branch with an offset of which the entry has the reach
abbrev pub Reaches : (ℕ → Insn) → ℕ → Option Insn → Type 0
Reaches insn_with word decoded = (n : ℕ) × (decoded ≡ Some (insn_with n)) × (word ≡ reach_of n)

abbrev pub Means : CodeEntry → Option Insn → Type 0
Means CodeEntry.Slow decoded = Unit {0}
Means CodeEntry.Nop decoded = IsNop decoded
Means (CodeEntry.Sll rd rt sa) decoded = decoded ≡ Some (Insn.Shift ShiftOp.Sll rd rt sa)
Means (CodeEntry.Srl rd rt sa) decoded = decoded ≡ Some (Insn.Shift ShiftOp.Srl rd rt sa)
Means (CodeEntry.Sra rd rt sa) decoded = decoded ≡ Some (Insn.Shift ShiftOp.Sra rd rt sa)
Means (CodeEntry.Sllv rd rt rs) decoded = decoded ≡ Some (Insn.ShiftVariable ShiftVariableOp.Sllv rd rt rs)
Means (CodeEntry.Srlv rd rt rs) decoded = decoded ≡ Some (Insn.ShiftVariable ShiftVariableOp.Srlv rd rt rs)
Means (CodeEntry.Srav rd rt rs) decoded = decoded ≡ Some (Insn.ShiftVariable ShiftVariableOp.Srav rd rt rs)
Means (CodeEntry.Movz rd rs rt) decoded = decoded ≡ Some (Insn.ThreeRegisters RegisterOp.Movz rd rs rt)
Means (CodeEntry.Movn rd rs rt) decoded = decoded ≡ Some (Insn.ThreeRegisters RegisterOp.Movn rd rs rt)
Means (CodeEntry.Add rd rs rt) decoded = decoded ≡ Some (Insn.ThreeRegisters RegisterOp.Add rd rs rt)
Means (CodeEntry.Addu rd rs rt) decoded = decoded ≡ Some (Insn.ThreeRegisters RegisterOp.Addu rd rs rt)
Means (CodeEntry.Sub rd rs rt) decoded = decoded ≡ Some (Insn.ThreeRegisters RegisterOp.Sub rd rs rt)
Means (CodeEntry.Subu rd rs rt) decoded = decoded ≡ Some (Insn.ThreeRegisters RegisterOp.Subu rd rs rt)
Means (CodeEntry.And rd rs rt) decoded = decoded ≡ Some (Insn.ThreeRegisters RegisterOp.And rd rs rt)
Means (CodeEntry.Or rd rs rt) decoded = decoded ≡ Some (Insn.ThreeRegisters RegisterOp.Or rd rs rt)
Means (CodeEntry.Xor rd rs rt) decoded = decoded ≡ Some (Insn.ThreeRegisters RegisterOp.Xor rd rs rt)
Means (CodeEntry.Nor rd rs rt) decoded = decoded ≡ Some (Insn.ThreeRegisters RegisterOp.Nor rd rs rt)
Means (CodeEntry.Slt rd rs rt) decoded = decoded ≡ Some (Insn.ThreeRegisters RegisterOp.Slt rd rs rt)
Means (CodeEntry.Sltu rd rs rt) decoded = decoded ≡ Some (Insn.ThreeRegisters RegisterOp.Sltu rd rs rt)
Means (CodeEntry.Mul rd rs rt) decoded = decoded ≡ Some (Insn.Multiply rd rs rt)
Means (CodeEntry.Addi rt rs word) decoded = Extends (λ n. Insn.WithImmediate ImmediateOp.Addi rt rs n) word decoded
Means (CodeEntry.Addiu rt rs word) decoded = Extends (λ n. Insn.WithImmediate ImmediateOp.Addiu rt rs n) word decoded
Means (CodeEntry.Slti rt rs word) decoded = Extends (λ n. Insn.WithImmediate ImmediateOp.Slti rt rs n) word decoded
Means (CodeEntry.Sltiu rt rs word) decoded = Extends (λ n. Insn.WithImmediate ImmediateOp.Sltiu rt rs n) word decoded
Means (CodeEntry.Andi rt rs immediate) decoded = decoded ≡ Some (Insn.WithImmediate ImmediateOp.Andi rt rs immediate)
Means (CodeEntry.Ori rt rs immediate) decoded = decoded ≡ Some (Insn.WithImmediate ImmediateOp.Ori rt rs immediate)
Means (CodeEntry.Xori rt rs immediate) decoded = decoded ≡ Some (Insn.WithImmediate ImmediateOp.Xori rt rs immediate)
Means (CodeEntry.Lui rt word) decoded = InHighHalf (λ n. Insn.LoadUpper rt n) word decoded
Means (CodeEntry.Mfhi rd) decoded = decoded ≡ Some (Insn.MoveFrom MoveFromOp.Mfhi rd)
Means (CodeEntry.Mflo rd) decoded = decoded ≡ Some (Insn.MoveFrom MoveFromOp.Mflo rd)
Means (CodeEntry.Mthi rs) decoded = decoded ≡ Some (Insn.MoveTo MoveToOp.Mthi rs)
Means (CodeEntry.Mtlo rs) decoded = decoded ≡ Some (Insn.MoveTo MoveToOp.Mtlo rs)
Means (CodeEntry.Mult rs rt) decoded = decoded ≡ Some (Insn.Product ProductOp.Mult rs rt)
Means (CodeEntry.Multu rs rt) decoded = decoded ≡ Some (Insn.Product ProductOp.Multu rs rt)
Means (CodeEntry.Div rs rt) decoded = decoded ≡ Some (Insn.Product ProductOp.Div rs rt)
Means (CodeEntry.Divu rs rt) decoded = decoded ≡ Some (Insn.Product ProductOp.Divu rs rt)
Means (CodeEntry.Madd rs rt) decoded = decoded ≡ Some (Insn.Accumulate AccumulateOp.Madd rs rt)
Means (CodeEntry.Maddu rs rt) decoded = decoded ≡ Some (Insn.Accumulate AccumulateOp.Maddu rs rt)
Means (CodeEntry.Msub rs rt) decoded = decoded ≡ Some (Insn.Accumulate AccumulateOp.Msub rs rt)
Means (CodeEntry.Msubu rs rt) decoded = decoded ≡ Some (Insn.Accumulate AccumulateOp.Msubu rs rt)
Means (CodeEntry.Clz rd rs) decoded = decoded ≡ Some (Insn.Count CountOp.Clz rd rs)
Means (CodeEntry.Clo rd rs) decoded = decoded ≡ Some (Insn.Count CountOp.Clo rd rs)
Means (CodeEntry.Lb rt base word) decoded = Extends (λ n. Insn.Load LoadOp.Lb rt base n) word decoded
Means (CodeEntry.Lh rt base word) decoded = Extends (λ n. Insn.Load LoadOp.Lh rt base n) word decoded
Means (CodeEntry.Lwl rt base word) decoded = Extends (λ n. Insn.Load LoadOp.Lwl rt base n) word decoded
Means (CodeEntry.Lw rt base word) decoded = Extends (λ n. Insn.Load LoadOp.Lw rt base n) word decoded
Means (CodeEntry.Lbu rt base word) decoded = Extends (λ n. Insn.Load LoadOp.Lbu rt base n) word decoded
Means (CodeEntry.Lhu rt base word) decoded = Extends (λ n. Insn.Load LoadOp.Lhu rt base n) word decoded
Means (CodeEntry.Lwr rt base word) decoded = Extends (λ n. Insn.Load LoadOp.Lwr rt base n) word decoded
Means (CodeEntry.Sb rt base word) decoded = Extends (λ n. Insn.Store StoreOp.Sb rt base n) word decoded
Means (CodeEntry.Sh rt base word) decoded = Extends (λ n. Insn.Store StoreOp.Sh rt base n) word decoded
Means (CodeEntry.Swl rt base word) decoded = Extends (λ n. Insn.Store StoreOp.Swl rt base n) word decoded
Means (CodeEntry.Sw rt base word) decoded = Extends (λ n. Insn.Store StoreOp.Sw rt base n) word decoded
Means (CodeEntry.Swr rt base word) decoded = Extends (λ n. Insn.Store StoreOp.Swr rt base n) word decoded
Means (CodeEntry.J index) decoded = decoded ≡ Some (Insn.Jump JumpOp.J index)
Means (CodeEntry.Jal index) decoded = decoded ≡ Some (Insn.Jump JumpOp.Jal index)
Means (CodeEntry.Jr rs) decoded = decoded ≡ Some (Insn.JumpRegister rs)
Means (CodeEntry.Jalr rd rs) decoded = decoded ≡ Some (Insn.JumpLinkRegister rd rs)
Means (CodeEntry.Beq rs rt word) decoded = Reaches (λ n. Insn.Branch BranchOp.Beq rs rt n) word decoded
Means (CodeEntry.Bne rs rt word) decoded = Reaches (λ n. Insn.Branch BranchOp.Bne rs rt n) word decoded
Means (CodeEntry.Beql rs rt word) decoded = Reaches (λ n. Insn.Branch BranchOp.Beql rs rt n) word decoded
Means (CodeEntry.Bnel rs rt word) decoded = Reaches (λ n. Insn.Branch BranchOp.Bnel rs rt n) word decoded
Means (CodeEntry.Blez rs word) decoded = Reaches (λ n. Insn.BranchZero BranchZeroOp.Blez rs n) word decoded
Means (CodeEntry.Bgtz rs word) decoded = Reaches (λ n. Insn.BranchZero BranchZeroOp.Bgtz rs n) word decoded
Means (CodeEntry.Blezl rs word) decoded = Reaches (λ n. Insn.BranchZero BranchZeroOp.Blezl rs n) word decoded
Means (CodeEntry.Bgtzl rs word) decoded = Reaches (λ n. Insn.BranchZero BranchZeroOp.Bgtzl rs n) word decoded
Means (CodeEntry.Bltz rs word) decoded = Reaches (λ n. Insn.BranchRegimm BranchRegimmOp.Bltz rs n) word decoded
Means (CodeEntry.Bgez rs word) decoded = Reaches (λ n. Insn.BranchRegimm BranchRegimmOp.Bgez rs n) word decoded
Means (CodeEntry.Bltzl rs word) decoded = Reaches (λ n. Insn.BranchRegimm BranchRegimmOp.Bltzl rs n) word decoded
Means (CodeEntry.Bgezl rs word) decoded = Reaches (λ n. Insn.BranchRegimm BranchRegimmOp.Bgezl rs n) word decoded
Means (CodeEntry.Bltzal rs word) decoded = Reaches (λ n. Insn.BranchRegimm BranchRegimmOp.Bltzal rs n) word decoded
Means (CodeEntry.Bgezal rs word) decoded = Reaches (λ n. Insn.BranchRegimm BranchRegimmOp.Bgezal rs n) word decoded
Means (CodeEntry.Bltzall rs word) decoded = Reaches (λ n. Insn.BranchRegimm BranchRegimmOp.Bltzall rs n) word decoded
Means (CodeEntry.Bgezall rs word) decoded = Reaches (λ n. Insn.BranchRegimm BranchRegimmOp.Bgezall rs n) word decoded
