-- The code of each operation (MD00086, appendix A, "Instruction Bit Encodings"): one line a mnemonic. A form of
-- operands that has one mnemonic alone has its code in the table.
use Rattle.std.specs.Prelude.{ℕ}
use Rattle.brd_isa.specs.declared.instruction.{ShiftOp.ShiftOp, ShiftVariableOp.ShiftVariableOp}
use Rattle.brd_isa.specs.declared.instruction.{RegisterOp.RegisterOp, MoveFromOp.MoveFromOp, MoveToOp.MoveToOp}
use Rattle.brd_isa.specs.declared.instruction.{ProductOp.ProductOp, TrapOp.TrapOp, BranchRegimmOp.BranchRegimmOp}
use Rattle.brd_isa.specs.declared.instruction.{TrapImmediateOp.TrapImmediateOp, AccumulateOp.AccumulateOp}
use Rattle.brd_isa.specs.declared.instruction.{CountOp.CountOp, JumpOp.JumpOp, BranchOp.BranchOp}
use Rattle.brd_isa.specs.declared.instruction.{BranchZeroOp.BranchZeroOp, ImmediateOp.ImmediateOp, LoadOp.LoadOp}
use Rattle.brd_isa.specs.declared.instruction.{StoreOp.StoreOp, LinkedOp.LinkedOp}

-- the function field under the opcode SPECIAL, 0x00
abbrev pub shift_funct : ShiftOp → ℕ
shift_funct ShiftOp.Sll = 0x00
shift_funct ShiftOp.Srl = 0x02
shift_funct ShiftOp.Sra = 0x03

abbrev pub shift_variable_funct : ShiftVariableOp → ℕ
shift_variable_funct ShiftVariableOp.Sllv = 0x04
shift_variable_funct ShiftVariableOp.Srlv = 0x06
shift_variable_funct ShiftVariableOp.Srav = 0x07

abbrev pub register_funct : RegisterOp → ℕ
register_funct RegisterOp.Movz = 0x0a
register_funct RegisterOp.Movn = 0x0b
register_funct RegisterOp.Add = 0x20
register_funct RegisterOp.Addu = 0x21
register_funct RegisterOp.Sub = 0x22
register_funct RegisterOp.Subu = 0x23
register_funct RegisterOp.And = 0x24
register_funct RegisterOp.Or = 0x25
register_funct RegisterOp.Xor = 0x26
register_funct RegisterOp.Nor = 0x27
register_funct RegisterOp.Slt = 0x2a
register_funct RegisterOp.Sltu = 0x2b

abbrev pub move_from_funct : MoveFromOp → ℕ
move_from_funct MoveFromOp.Mfhi = 0x10
move_from_funct MoveFromOp.Mflo = 0x12

abbrev pub move_to_funct : MoveToOp → ℕ
move_to_funct MoveToOp.Mthi = 0x11
move_to_funct MoveToOp.Mtlo = 0x13

abbrev pub product_funct : ProductOp → ℕ
product_funct ProductOp.Mult = 0x18
product_funct ProductOp.Multu = 0x19
product_funct ProductOp.Div = 0x1a
product_funct ProductOp.Divu = 0x1b

abbrev pub trap_funct : TrapOp → ℕ
trap_funct TrapOp.Tge = 0x30
trap_funct TrapOp.Tgeu = 0x31
trap_funct TrapOp.Tlt = 0x32
trap_funct TrapOp.Tltu = 0x33
trap_funct TrapOp.Teq = 0x34
trap_funct TrapOp.Tne = 0x36

-- the field rt under the opcode REGIMM, 0x01
abbrev pub branch_regimm_rt : BranchRegimmOp → ℕ
branch_regimm_rt BranchRegimmOp.Bltz = 0x00
branch_regimm_rt BranchRegimmOp.Bgez = 0x01
branch_regimm_rt BranchRegimmOp.Bltzl = 0x02
branch_regimm_rt BranchRegimmOp.Bgezl = 0x03
branch_regimm_rt BranchRegimmOp.Bltzal = 0x10
branch_regimm_rt BranchRegimmOp.Bgezal = 0x11
branch_regimm_rt BranchRegimmOp.Bltzall = 0x12
branch_regimm_rt BranchRegimmOp.Bgezall = 0x13

abbrev pub trap_immediate_rt : TrapImmediateOp → ℕ
trap_immediate_rt TrapImmediateOp.Tgei = 0x08
trap_immediate_rt TrapImmediateOp.Tgeiu = 0x09
trap_immediate_rt TrapImmediateOp.Tlti = 0x0a
trap_immediate_rt TrapImmediateOp.Tltiu = 0x0b
trap_immediate_rt TrapImmediateOp.Teqi = 0x0c
trap_immediate_rt TrapImmediateOp.Tnei = 0x0e

-- the function field under the opcode SPECIAL2, 0x1c
abbrev pub accumulate_funct : AccumulateOp → ℕ
accumulate_funct AccumulateOp.Madd = 0x00
accumulate_funct AccumulateOp.Maddu = 0x01
accumulate_funct AccumulateOp.Msub = 0x04
accumulate_funct AccumulateOp.Msubu = 0x05

abbrev pub count_funct : CountOp → ℕ
count_funct CountOp.Clz = 0x20
count_funct CountOp.Clo = 0x21

-- the opcode
abbrev pub jump_opcode : JumpOp → ℕ
jump_opcode JumpOp.J = 0x02
jump_opcode JumpOp.Jal = 0x03

abbrev pub branch_opcode : BranchOp → ℕ
branch_opcode BranchOp.Beq = 0x04
branch_opcode BranchOp.Bne = 0x05
branch_opcode BranchOp.Beql = 0x14
branch_opcode BranchOp.Bnel = 0x15

abbrev pub branch_zero_opcode : BranchZeroOp → ℕ
branch_zero_opcode BranchZeroOp.Blez = 0x06
branch_zero_opcode BranchZeroOp.Bgtz = 0x07
branch_zero_opcode BranchZeroOp.Blezl = 0x16
branch_zero_opcode BranchZeroOp.Bgtzl = 0x17

abbrev pub immediate_opcode : ImmediateOp → ℕ
immediate_opcode ImmediateOp.Addi = 0x08
immediate_opcode ImmediateOp.Addiu = 0x09
immediate_opcode ImmediateOp.Slti = 0x0a
immediate_opcode ImmediateOp.Sltiu = 0x0b
immediate_opcode ImmediateOp.Andi = 0x0c
immediate_opcode ImmediateOp.Ori = 0x0d
immediate_opcode ImmediateOp.Xori = 0x0e

abbrev pub load_opcode : LoadOp → ℕ
load_opcode LoadOp.Lb = 0x20
load_opcode LoadOp.Lh = 0x21
load_opcode LoadOp.Lwl = 0x22
load_opcode LoadOp.Lw = 0x23
load_opcode LoadOp.Lbu = 0x24
load_opcode LoadOp.Lhu = 0x25
load_opcode LoadOp.Lwr = 0x26

abbrev pub store_opcode : StoreOp → ℕ
store_opcode StoreOp.Sb = 0x28
store_opcode StoreOp.Sh = 0x29
store_opcode StoreOp.Swl = 0x2a
store_opcode StoreOp.Sw = 0x2b
store_opcode StoreOp.Swr = 0x2e

abbrev pub linked_opcode : LinkedOp → ℕ
linked_opcode LinkedOp.Ll = 0x30
linked_opcode LinkedOp.Sc = 0x38
