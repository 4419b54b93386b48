-- The shape of an instruction: which registers it reads and which it writes, what it accesses of memory, and where it
-- leads, whatever the registers hold (MD00086, the "Operation" of its entry). One line a form of operands, and one an
-- operation where those of a form differ.
use Rattle.std.specs.Prelude.{ℕ, ◌==◌, Bool, true, false, if◌then◌else◌, Option, None, Some}
use Rattle.brd_isa.specs.declared.instruction.{Insn.Insn, RegisterOp.RegisterOp, ImmediateOp.ImmediateOp}
use Rattle.brd_isa.specs.declared.instruction.{MoveFromOp.MoveFromOp, MoveToOp.MoveToOp, JumpOp.JumpOp}
use Rattle.brd_isa.specs.declared.instruction.{BranchRegimmOp.BranchRegimmOp, LoadOp.LoadOp, StoreOp.StoreOp}
use Rattle.brd_isa.specs.declared.instruction.{LinkedOp.LinkedOp}
use Rattle.brd_isa.specs.declared.shape.{Reads.Reads, Writes.Writes, Transfer.Transfer, AccessSize.AccessSize}
use Rattle.brd_isa.specs.declared.shape.{MemoryAccess.MemoryAccess, Flow.Flow, Shape.Shape}

-- ---- registers

-- nothing, the register in rs (or the base), the one in rt, both
abbrev pub reads_none : Reads
reads_none = record { rs = None; rt = None; rd = None; hi = false; lo = false }

abbrev pub reads_rs : ℕ → Reads
reads_rs rs = record { rs = Some rs; rt = None; rd = None; hi = false; lo = false }

abbrev pub reads_rt : ℕ → Reads
reads_rt rt = record { rs = None; rt = Some rt; rd = None; hi = false; lo = false }

abbrev pub reads_both : ℕ → ℕ → Reads
reads_both rs rt = record { rs = Some rs; rt = Some rt; rd = None; hi = false; lo = false }

-- both, HI and LO
abbrev pub reads_product : ℕ → ℕ → Reads
reads_product rs rt = record { rs = Some rs; rt = Some rt; rd = None; hi = true; lo = true }

-- MOVZ and MOVN may keep rd's word
abbrev pub reads_three : ℕ → ℕ → ℕ → Reads
reads_three rd rs rt = record { rs = Some rs; rt = Some rt; rd = Some rd; hi = false; lo = false }

abbrev pub register_reads : RegisterOp → ℕ → ℕ → ℕ → Reads
register_reads RegisterOp.Movz rd rs rt = reads_three rd rs rt
register_reads RegisterOp.Movn rd rs rt = reads_three rd rs rt
register_reads RegisterOp.Add rd rs rt = reads_both rs rt
register_reads RegisterOp.Addu rd rs rt = reads_both rs rt
register_reads RegisterOp.Sub rd rs rt = reads_both rs rt
register_reads RegisterOp.Subu rd rs rt = reads_both rs rt
register_reads RegisterOp.And rd rs rt = reads_both rs rt
register_reads RegisterOp.Or rd rs rt = reads_both rs rt
register_reads RegisterOp.Xor rd rs rt = reads_both rs rt
register_reads RegisterOp.Nor rd rs rt = reads_both rs rt
register_reads RegisterOp.Slt rd rs rt = reads_both rs rt
register_reads RegisterOp.Sltu rd rs rt = reads_both rs rt

abbrev pub moved_from : MoveFromOp → Reads
moved_from MoveFromOp.Mfhi = record { rs = None; rt = None; rd = None; hi = true; lo = false }
moved_from MoveFromOp.Mflo = record { rs = None; rt = None; rd = None; hi = false; lo = true }

-- nothing, a general register, HI and LO
abbrev pub writes_none : Writes
writes_none = record { register = None; hi = false; lo = false }

abbrev pub writes_to : ℕ → Writes
writes_to register = record { register = Some register; hi = false; lo = false }

abbrev pub writes_product : Writes
writes_product = record { register = None; hi = true; lo = true }

abbrev pub moved_to : MoveToOp → Writes
moved_to MoveToOp.Mthi = record { register = None; hi = true; lo = false }
moved_to MoveToOp.Mtlo = record { register = None; hi = false; lo = true }

-- the return address of a call, in $ra
abbrev pub return_register : Bool → Option ℕ
return_register calls = if calls then Some 31 else None

abbrev pub return_address : Bool → Writes
return_address calls = record { register = return_register calls; hi = false; lo = false }

-- ---- memory

abbrev pub access : Transfer → AccessSize → ℕ → ℕ → MemoryAccess
access transfer size base offset = record { transfer = transfer; size = size; base = base; offset = offset }

abbrev pub load_size : LoadOp → AccessSize
load_size LoadOp.Lb = AccessSize.Byte
load_size LoadOp.Lh = AccessSize.Halfword
load_size LoadOp.Lwl = AccessSize.LeftPart
load_size LoadOp.Lw = AccessSize.Word
load_size LoadOp.Lbu = AccessSize.Byte
load_size LoadOp.Lhu = AccessSize.Halfword
load_size LoadOp.Lwr = AccessSize.RightPart

abbrev pub store_size : StoreOp → AccessSize
store_size StoreOp.Sb = AccessSize.Byte
store_size StoreOp.Sh = AccessSize.Halfword
store_size StoreOp.Swl = AccessSize.LeftPart
store_size StoreOp.Sw = AccessSize.Word
store_size StoreOp.Swr = AccessSize.RightPart

abbrev pub linked_transfer : LinkedOp → Transfer
linked_transfer LinkedOp.Ll = Transfer.LoadLinked
linked_transfer LinkedOp.Sc = Transfer.StoreConditional

-- a load of a part keeps the rest of rt's word
abbrev pub load_reads : AccessSize → ℕ → ℕ → Reads
load_reads AccessSize.Byte rt base = reads_rs base
load_reads AccessSize.Halfword rt base = reads_rs base
load_reads AccessSize.Word rt base = reads_rs base
load_reads AccessSize.LeftPart rt base = reads_both base rt
load_reads AccessSize.RightPart rt base = reads_both base rt

abbrev pub linked_reads : LinkedOp → ℕ → ℕ → Reads
linked_reads LinkedOp.Ll rt base = reads_rs base
linked_reads LinkedOp.Sc rt base = reads_both base rt

-- ---- where it leads

-- ADD, SUB and ADDI may raise Ov
abbrev pub register_flow : RegisterOp → Flow
register_flow RegisterOp.Movz = Flow.Next
register_flow RegisterOp.Movn = Flow.Next
register_flow RegisterOp.Add = Flow.NextUnlessRaised
register_flow RegisterOp.Addu = Flow.Next
register_flow RegisterOp.Sub = Flow.NextUnlessRaised
register_flow RegisterOp.Subu = Flow.Next
register_flow RegisterOp.And = Flow.Next
register_flow RegisterOp.Or = Flow.Next
register_flow RegisterOp.Xor = Flow.Next
register_flow RegisterOp.Nor = Flow.Next
register_flow RegisterOp.Slt = Flow.Next
register_flow RegisterOp.Sltu = Flow.Next

abbrev pub immediate_flow : ImmediateOp → Flow
immediate_flow ImmediateOp.Addi = Flow.NextUnlessRaised
immediate_flow ImmediateOp.Addiu = Flow.Next
immediate_flow ImmediateOp.Slti = Flow.Next
immediate_flow ImmediateOp.Sltiu = Flow.Next
immediate_flow ImmediateOp.Andi = Flow.Next
immediate_flow ImmediateOp.Ori = Flow.Next
immediate_flow ImmediateOp.Xori = Flow.Next

-- whether `op target` writes the return address, and whether `op rs, target` under REGIMM does
abbrev pub is_jump_calling : JumpOp → Bool
is_jump_calling JumpOp.J = false
is_jump_calling JumpOp.Jal = true

abbrev pub is_regimm_branch_calling : BranchRegimmOp → Bool
is_regimm_branch_calling BranchRegimmOp.Bltz = false
is_regimm_branch_calling BranchRegimmOp.Bgez = false
is_regimm_branch_calling BranchRegimmOp.Bltzl = false
is_regimm_branch_calling BranchRegimmOp.Bgezl = false
is_regimm_branch_calling BranchRegimmOp.Bltzal = true
is_regimm_branch_calling BranchRegimmOp.Bgezal = true
is_regimm_branch_calling BranchRegimmOp.Bltzall = true
is_regimm_branch_calling BranchRegimmOp.Bgezall = true

abbrev pub jump_flow : Bool → Flow
jump_flow calls = if calls then Flow.JumpAndLink else Flow.Jump

abbrev pub branch_flow : Bool → Flow
branch_flow calls = if calls then Flow.BranchAndLink else Flow.Branch

-- JR
abbrev pub register_target : ℕ → Flow
register_target rs = if rs == 31 then Flow.Return else Flow.Jump

-- ---- all of it

-- an instruction that touches registers alone, and one that accesses memory
abbrev pub computes : Reads → Writes → Flow → Shape
computes reads writes flow = record { reads = reads; writes = writes; access = None; flow = flow }

abbrev pub accesses : Reads → Writes → MemoryAccess → Shape
accesses reads writes access = record { reads = reads; writes = writes; access = Some access; flow = Flow.Next }

abbrev pub shape_of : Insn → Shape
shape_of (Insn.Shift op rd rt sa) = computes (reads_rt rt) (writes_to rd) Flow.Next
shape_of (Insn.ShiftVariable op rd rt rs) = computes (reads_both rs rt) (writes_to rd) Flow.Next
shape_of (Insn.ThreeRegisters op rd rs rt) = computes (register_reads op rd rs rt) (writes_to rd) (register_flow op)
shape_of (Insn.Multiply rd rs rt) = computes (reads_both rs rt) (writes_to rd) Flow.Next
shape_of (Insn.JumpRegister rs) = computes (reads_rs rs) writes_none (register_target rs)
shape_of (Insn.JumpLinkRegister rd rs) = computes (reads_rs rs) (writes_to rd) Flow.JumpAndLink
shape_of (Insn.Syscall code) = computes reads_none writes_none Flow.ServiceCall
shape_of (Insn.Break code) = computes reads_none writes_none Flow.Exception
shape_of Insn.Sync = computes reads_none writes_none Flow.Next
shape_of (Insn.MoveFrom op rd) = computes (moved_from op) (writes_to rd) Flow.Next
shape_of (Insn.MoveTo op rs) = computes (reads_rs rs) (moved_to op) Flow.Next
shape_of (Insn.Product op rs rt) = computes (reads_both rs rt) writes_product Flow.Next
shape_of (Insn.Accumulate op rs rt) = computes (reads_product rs rt) writes_product Flow.Next
shape_of (Insn.Count op rd rs) = computes (reads_rs rs) (writes_to rd) Flow.Next
shape_of (Insn.Trap op rs rt code) = computes (reads_both rs rt) writes_none Flow.NextUnlessRaised
shape_of (Insn.TrapImmediate op rs immediate) = computes (reads_rs rs) writes_none Flow.NextUnlessRaised
shape_of (Insn.Jump op index) =
    computes reads_none (return_address (is_jump_calling op)) (jump_flow (is_jump_calling op))
shape_of (Insn.Branch op rs rt offset) = computes (reads_both rs rt) writes_none Flow.Branch
shape_of (Insn.BranchZero op rs offset) = computes (reads_rs rs) writes_none Flow.Branch
shape_of (Insn.BranchRegimm op rs offset) =
    computes (reads_rs rs) (return_address (is_regimm_branch_calling op)) (branch_flow (is_regimm_branch_calling op))
shape_of (Insn.WithImmediate op rt rs immediate) = computes (reads_rs rs) (writes_to rt) (immediate_flow op)
shape_of (Insn.LoadUpper rt immediate) = computes reads_none (writes_to rt) Flow.Next
shape_of (Insn.Load op rt base offset) =
    accesses (load_reads (load_size op) rt base) (writes_to rt) (access Transfer.Load (load_size op) base offset)
shape_of (Insn.Store op rt base offset) =
    accesses (reads_both base rt) writes_none (access Transfer.Store (store_size op) base offset)
shape_of (Insn.Linked op rt base offset) =
    accesses (linked_reads op rt base) (writes_to rt) (access (linked_transfer op) AccessSize.Word base offset)
shape_of (Insn.Prefetch hint base offset) = computes reads_none writes_none Flow.Next

-- ---- what follows

abbrev pub does_load : Transfer → Bool
does_load Transfer.Load = true
does_load Transfer.Store = false
does_load Transfer.LoadLinked = true
does_load Transfer.StoreConditional = false

-- SC among the stores, also where it doesn't store
abbrev pub does_store : Transfer → Bool
does_store Transfer.Load = false
does_store Transfer.Store = true
does_store Transfer.LoadLinked = false
does_store Transfer.StoreConditional = true

-- LL or SC
abbrev pub is_linked : Transfer → Bool
is_linked Transfer.Load = false
is_linked Transfer.Store = false
is_linked Transfer.LoadLinked = true
is_linked Transfer.StoreConditional = true
