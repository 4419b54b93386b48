-- The instruction table: which words stand for an instruction. Each form of operands has one line, with the
-- code of its operation from Codes and 0 where the manual has a field of zeros (own choice: a word with such a
-- field that isn't 0 stands for nothing, nor does a CLZ or CLO whose rt isn't its rd). The hints of JR and JALR
-- and the stype of SYNC, in the field sa, are ignored, so several words stand for one of these.
use Rattle.std.specs.Prelude.{ℕ}
use Rattle.brd_isa.specs.declared.instruction.Insn.{Insn}
use Rattle.brd_isa.specs.Fields.{RType, AnySaType, IType, JType, LongCodeType, ShortCodeType}
use Rattle.brd_isa.specs.Codes.{shift_funct, shift_variable_funct, register_funct, move_from_funct, move_to_funct}
use Rattle.brd_isa.specs.Codes.{product_funct, trap_funct, branch_regimm_rt, trap_immediate_rt, accumulate_funct}
use Rattle.brd_isa.specs.Codes.{count_funct, jump_opcode, branch_opcode, branch_zero_opcode, immediate_opcode}
use Rattle.brd_isa.specs.Codes.{load_opcode, store_opcode, linked_opcode}

abbrev pub StandsFor : ℕ → Insn → Type 0
StandsFor word (Insn.Shift op rd rt sa) = RType word 0x00 0 rt rd sa (shift_funct op)
StandsFor word (Insn.ShiftVariable op rd rt rs) = RType word 0x00 rs rt rd 0 (shift_variable_funct op)
StandsFor word (Insn.ThreeRegisters op rd rs rt) = RType word 0x00 rs rt rd 0 (register_funct op)
StandsFor word (Insn.Multiply rd rs rt) = RType word 0x1c rs rt rd 0 0x02
StandsFor word (Insn.JumpRegister rs) = AnySaType word 0x00 rs 0 0 0x08
StandsFor word (Insn.JumpLinkRegister rd rs) = AnySaType word 0x00 rs 0 rd 0x09
StandsFor word (Insn.Syscall code) = LongCodeType word 0x00 code 0x0c
StandsFor word (Insn.Break code) = LongCodeType word 0x00 code 0x0d
StandsFor word Insn.Sync = AnySaType word 0x00 0 0 0 0x0f
StandsFor word (Insn.MoveFrom op rd) = RType word 0x00 0 0 rd 0 (move_from_funct op)
StandsFor word (Insn.MoveTo op rs) = RType word 0x00 rs 0 0 0 (move_to_funct op)
StandsFor word (Insn.Product op rs rt) = RType word 0x00 rs rt 0 0 (product_funct op)
StandsFor word (Insn.Accumulate op rs rt) = RType word 0x1c rs rt 0 0 (accumulate_funct op)
StandsFor word (Insn.Count op rd rs) = RType word 0x1c rs rd rd 0 (count_funct op)
StandsFor word (Insn.Trap op rs rt code) = ShortCodeType word 0x00 rs rt code (trap_funct op)
StandsFor word (Insn.TrapImmediate op rs immediate) = IType word 0x01 rs (trap_immediate_rt op) immediate
StandsFor word (Insn.Jump op index) = JType word (jump_opcode op) index
StandsFor word (Insn.Branch op rs rt offset) = IType word (branch_opcode op) rs rt offset
StandsFor word (Insn.BranchZero op rs offset) = IType word (branch_zero_opcode op) rs 0 offset
StandsFor word (Insn.BranchRegimm op rs offset) = IType word 0x01 rs (branch_regimm_rt op) offset
StandsFor word (Insn.WithImmediate op rt rs immediate) = IType word (immediate_opcode op) rs rt immediate
StandsFor word (Insn.LoadUpper rt immediate) = IType word 0x0f 0 rt immediate
StandsFor word (Insn.Load op rt base offset) = IType word (load_opcode op) base rt offset
StandsFor word (Insn.Store op rt base offset) = IType word (store_opcode op) base rt offset
StandsFor word (Insn.Linked op rt base offset) = IType word (linked_opcode op) base rt offset
StandsFor word (Insn.Prefetch hint base offset) = IType word 0x33 base hint offset

-- the instructions for which the field sa says nothing
abbrev pub IgnoresSa : Insn → Type 0
IgnoresSa (Insn.JumpRegister rs) = Unit {0}
IgnoresSa (Insn.JumpLinkRegister rd rs) = Unit {0}
IgnoresSa Insn.Sync = Unit {0}
IgnoresSa _ = ⊥
