-- Each mnemonic has a name.
use Rattle.std.proofs.Common.{ℕ, List, [], ◌∷◌, refl}
use Rattle.std.specs.Prelude.{◌==◌, if◌then◌else◌, codes}
use Rattle.brd_isa.specs.declared.instruction.{ShiftOp.ShiftOp, ShiftVariableOp.ShiftVariableOp}
use Rattle.brd_isa.specs.declared.instruction.{RegisterOp.RegisterOp, MoveFromOp.MoveFromOp, MoveToOp.MoveToOp}
use Rattle.brd_isa.specs.declared.instruction.{ProductOp.ProductOp, TrapOp.TrapOp, BranchRegimmOp.BranchRegimmOp}
use Rattle.brd_isa.specs.declared.instruction.{TrapImmediateOp.TrapImmediateOp, AccumulateOp.AccumulateOp}
use Rattle.brd_isa.specs.declared.instruction.{CountOp.CountOp, JumpOp.JumpOp, BranchOp.BranchOp}
use Rattle.brd_isa.specs.declared.instruction.{BranchZeroOp.BranchZeroOp, ImmediateOp.ImmediateOp, LoadOp.LoadOp}
use Rattle.brd_isa.specs.declared.instruction.{StoreOp.StoreOp, LinkedOp.LinkedOp}
use Rattle.brd_isa.specs.declared.mnemonic.Mnemonic.{Mnemonic}
use Rattle.brd_isa.specs.Codes as code
use Rattle.brd_isa.specs.Names.{HasName, computing_named, other_named, mnemonic_named, shift_names}
use Rattle.brd_isa.specs.Names.{shift_variable_names, register_names, move_from_names, move_to_names, product_names}
use Rattle.brd_isa.specs.Names.{trap_names, branch_regimm_names, trap_immediate_names, accumulate_names, count_names}
use Rattle.brd_isa.specs.Names.{jump_names, branch_names, branch_zero_names, immediate_names, load_names, store_names}
use Rattle.brd_isa.specs.Names.{linked_names}

-- the name of the operation with this code
abbrev coded : {A : Type 0} → List (List ℕ × A) → (A → ℕ) → ℕ → List ℕ
coded [] code_of n = []
coded (row ∷ rows) code_of n = if n == code_of row.1 then row.0 else coded rows code_of n

-- each of a form's operations has one: the first by itself, so that the line after it is read for each of the others

shift_name : (op : ShiftOp) → HasName (Mnemonic.Shift op)
unfolding mnemonic_named computing_named other_named
shift_name ShiftOp.Sll = (coded shift_names code.shift_funct (code.shift_funct ShiftOp.Sll), refl)
shift_name op = (coded shift_names code.shift_funct (code.shift_funct op), refl)

shift_variable_name : (op : ShiftVariableOp) → HasName (Mnemonic.ShiftVariable op)
unfolding mnemonic_named computing_named other_named
shift_variable_name ShiftVariableOp.Sllv = (coded shift_variable_names code.shift_variable_funct (code.shift_variable_funct ShiftVariableOp.Sllv), refl)
shift_variable_name op = (coded shift_variable_names code.shift_variable_funct (code.shift_variable_funct op), refl)

register_name : (op : RegisterOp) → HasName (Mnemonic.ThreeRegisters op)
unfolding mnemonic_named computing_named other_named
register_name RegisterOp.Movz = (coded register_names code.register_funct (code.register_funct RegisterOp.Movz), refl)
register_name op = (coded register_names code.register_funct (code.register_funct op), refl)

move_from_name : (op : MoveFromOp) → HasName (Mnemonic.MoveFrom op)
unfolding mnemonic_named computing_named other_named
move_from_name MoveFromOp.Mfhi = (coded move_from_names code.move_from_funct (code.move_from_funct MoveFromOp.Mfhi), refl)
move_from_name op = (coded move_from_names code.move_from_funct (code.move_from_funct op), refl)

move_to_name : (op : MoveToOp) → HasName (Mnemonic.MoveTo op)
unfolding mnemonic_named computing_named other_named
move_to_name MoveToOp.Mthi = (coded move_to_names code.move_to_funct (code.move_to_funct MoveToOp.Mthi), refl)
move_to_name op = (coded move_to_names code.move_to_funct (code.move_to_funct op), refl)

product_name : (op : ProductOp) → HasName (Mnemonic.Product op)
unfolding mnemonic_named computing_named other_named
product_name ProductOp.Mult = (coded product_names code.product_funct (code.product_funct ProductOp.Mult), refl)
product_name op = (coded product_names code.product_funct (code.product_funct op), refl)

accumulate_name : (op : AccumulateOp) → HasName (Mnemonic.Accumulate op)
unfolding mnemonic_named computing_named other_named
accumulate_name AccumulateOp.Madd = (coded accumulate_names code.accumulate_funct (code.accumulate_funct AccumulateOp.Madd), refl)
accumulate_name op = (coded accumulate_names code.accumulate_funct (code.accumulate_funct op), refl)

count_name : (op : CountOp) → HasName (Mnemonic.Count op)
unfolding mnemonic_named computing_named other_named
count_name CountOp.Clz = (coded count_names code.count_funct (code.count_funct CountOp.Clz), refl)
count_name op = (coded count_names code.count_funct (code.count_funct op), refl)

immediate_name : (op : ImmediateOp) → HasName (Mnemonic.WithImmediate op)
unfolding mnemonic_named computing_named other_named
immediate_name ImmediateOp.Addi = (coded immediate_names code.immediate_opcode (code.immediate_opcode ImmediateOp.Addi), refl)
immediate_name op = (coded immediate_names code.immediate_opcode (code.immediate_opcode op), refl)

trap_name : (op : TrapOp) → HasName (Mnemonic.Trap op)
unfolding mnemonic_named computing_named other_named
trap_name TrapOp.Tge = (coded trap_names code.trap_funct (code.trap_funct TrapOp.Tge), refl)
trap_name op = (coded trap_names code.trap_funct (code.trap_funct op), refl)

trap_immediate_name : (op : TrapImmediateOp) → HasName (Mnemonic.TrapImmediate op)
unfolding mnemonic_named computing_named other_named
trap_immediate_name TrapImmediateOp.Tgei = (coded trap_immediate_names code.trap_immediate_rt (code.trap_immediate_rt TrapImmediateOp.Tgei), refl)
trap_immediate_name op = (coded trap_immediate_names code.trap_immediate_rt (code.trap_immediate_rt op), refl)

jump_name : (op : JumpOp) → HasName (Mnemonic.Jump op)
unfolding mnemonic_named computing_named other_named
jump_name JumpOp.J = (coded jump_names code.jump_opcode (code.jump_opcode JumpOp.J), refl)
jump_name op = (coded jump_names code.jump_opcode (code.jump_opcode op), refl)

branch_name : (op : BranchOp) → HasName (Mnemonic.Branch op)
unfolding mnemonic_named computing_named other_named
branch_name BranchOp.Beq = (coded branch_names code.branch_opcode (code.branch_opcode BranchOp.Beq), refl)
branch_name op = (coded branch_names code.branch_opcode (code.branch_opcode op), refl)

branch_zero_name : (op : BranchZeroOp) → HasName (Mnemonic.BranchZero op)
unfolding mnemonic_named computing_named other_named
branch_zero_name BranchZeroOp.Blez = (coded branch_zero_names code.branch_zero_opcode (code.branch_zero_opcode BranchZeroOp.Blez), refl)
branch_zero_name op = (coded branch_zero_names code.branch_zero_opcode (code.branch_zero_opcode op), refl)

branch_regimm_name : (op : BranchRegimmOp) → HasName (Mnemonic.BranchRegimm op)
unfolding mnemonic_named computing_named other_named
branch_regimm_name BranchRegimmOp.Bltz = (coded branch_regimm_names code.branch_regimm_rt (code.branch_regimm_rt BranchRegimmOp.Bltz), refl)
branch_regimm_name op = (coded branch_regimm_names code.branch_regimm_rt (code.branch_regimm_rt op), refl)

load_name : (op : LoadOp) → HasName (Mnemonic.Load op)
unfolding mnemonic_named computing_named other_named
load_name LoadOp.Lb = (coded load_names code.load_opcode (code.load_opcode LoadOp.Lb), refl)
load_name op = (coded load_names code.load_opcode (code.load_opcode op), refl)

store_name : (op : StoreOp) → HasName (Mnemonic.Store op)
unfolding mnemonic_named computing_named other_named
store_name StoreOp.Sb = (coded store_names code.store_opcode (code.store_opcode StoreOp.Sb), refl)
store_name op = (coded store_names code.store_opcode (code.store_opcode op), refl)

linked_name : (op : LinkedOp) → HasName (Mnemonic.Linked op)
unfolding mnemonic_named computing_named other_named
linked_name LinkedOp.Ll = (coded linked_names code.linked_opcode (code.linked_opcode LinkedOp.Ll), refl)
linked_name op = (coded linked_names code.linked_opcode (code.linked_opcode op), refl)

pub name_of : (mnemonic : Mnemonic) → HasName mnemonic
unfolding mnemonic_named computing_named other_named
name_of (Mnemonic.Shift op) = shift_name op
name_of (Mnemonic.ShiftVariable op) = shift_variable_name op
name_of (Mnemonic.ThreeRegisters op) = register_name op
name_of (Mnemonic.MoveFrom op) = move_from_name op
name_of (Mnemonic.MoveTo op) = move_to_name op
name_of (Mnemonic.Product op) = product_name op
name_of (Mnemonic.Accumulate op) = accumulate_name op
name_of (Mnemonic.Count op) = count_name op
name_of (Mnemonic.WithImmediate op) = immediate_name op
name_of (Mnemonic.Trap op) = trap_name op
name_of (Mnemonic.TrapImmediate op) = trap_immediate_name op
name_of (Mnemonic.Jump op) = jump_name op
name_of (Mnemonic.Branch op) = branch_name op
name_of (Mnemonic.BranchZero op) = branch_zero_name op
name_of (Mnemonic.BranchRegimm op) = branch_regimm_name op
name_of (Mnemonic.Load op) = load_name op
name_of (Mnemonic.Store op) = store_name op
name_of (Mnemonic.Linked op) = linked_name op
name_of Mnemonic.Multiply = (codes "mul", refl)
name_of Mnemonic.JumpRegister = (codes "jr", refl)
name_of Mnemonic.JumpLinkRegister = (codes "jalr", refl)
name_of Mnemonic.Syscall = (codes "syscall", refl)
name_of Mnemonic.Break = (codes "break", refl)
name_of Mnemonic.Sync = (codes "sync", refl)
name_of Mnemonic.LoadUpper = (codes "lui", refl)
name_of Mnemonic.Prefetch = (codes "pref", refl)
