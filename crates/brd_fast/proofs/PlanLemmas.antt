-- An entry's plan is its instruction's action.
use Rattle.std.proofs.Common.{◌≡◌, ℕ, ◌+◌, ◌-◌, ◌*◌, ◌%◌, ◌^◌, Bool, true, false, not, Option, Some, refl, sym, ap, ◌∙◌, arith}
use Rattle.std.specs.Prelude.{◌==◌, nat_lt}
use Rattle.brd_isa.specs.declared.instruction.{Insn.Insn, ShiftOp.ShiftOp, ShiftVariableOp.ShiftVariableOp, RegisterOp.RegisterOp, ProductOp.ProductOp}
use Rattle.brd_isa.specs.declared.instruction.{AccumulateOp.AccumulateOp, CountOp.CountOp, LoadOp.LoadOp, MoveFromOp.MoveFromOp, MoveToOp.MoveToOp}
use Rattle.brd_isa.specs.declared.instruction.{StoreOp.StoreOp, JumpOp.JumpOp, BranchOp.BranchOp, BranchZeroOp.BranchZeroOp, ImmediateOp.ImmediateOp}
use Rattle.brd_isa.specs.declared.instruction.BranchRegimmOp.{BranchRegimmOp}
use Rattle.brd_word.specs.Words.{sum_overflows, sign_extended16}
use Rattle.brd_exec.specs.State.{State, read, with_register, jumped, branched, branched_likely}
use Rattle.brd_exec.specs.Values.{sum_of, unless_overflow, one_if, is_below, is_zero_branch_taken, is_regimm_branch_taken}
use Rattle.brd_exec.specs.Action.{Action, with_word, action}
use Rattle.brd_exec.specs.Step.{has_slot}
use Rattle.brd_entries.specs.declared.entry.CodeEntry.{CodeEntry}
use Rattle.brd_entries.specs.Means.{Means, reach_of}
use Rattle.brd_fast.specs.Place.{reached}
use Rattle.brd_fast.specs.Plans.{Plan, branched_by, calling, planned}

-- a plan for what a word is decoded to
abbrev pub Stands : Plan → Option Insn → State → Type 0
Stands Plan.Declines found s = Unit {0}
Stands (Plan.Does act) found s = (insn : Insn) × (found ≡ Some insn) × (action insn s ≡ act) × (has_slot insn ≡ false)
Stands (Plan.Jumps after) found s = (insn : Insn) × (found ≡ Some insn) × (action insn s ≡ Action.Local after)

reach-ahead : (npc ahead : ℕ) → (npc + 4 * ((ahead + 1) % 2 ^ 32) + (2 ^ 32 - 4)) % 2 ^ 32 ≡ (npc + 4 * ahead) % 2 ^ 32
reach-ahead npc ahead = omega arith

reaches : (npc n reach : ℕ) → reach ≡ reach_of n → reached npc reach ≡ (npc + 4 * sign_extended16 n) % 2 ^ 32
reaches npc n reach is = ap (reached npc) is ∙ reach-ahead npc (sign_extended16 n)

unlikely : (taken : Bool) (s : State) (n reach : ℕ) → reach ≡ reach_of n →
    Action.Local (branched s taken n) ≡ Action.Local (branched_by s false taken (reached s.npc reach))
unlikely true s n reach is = ap (λ target. Action.Local (jumped s target)) (sym (reaches s.npc n reach is))
unlikely false s n reach is = refl

likely : (taken : Bool) (s : State) (n reach : ℕ) → reach ≡ reach_of n →
    Action.Local (branched_likely s taken n) ≡ Action.Local (branched_by s true taken (reached s.npc reach))
likely true s n reach is = ap (λ target. Action.Local (jumped s target)) (sym (reaches s.npc n reach is))
likely false s n reach is = refl

pub stands : (entry : CodeEntry) (found : Option Insn) (s : State) → Means entry found → Stands (planned entry s) found s
stands CodeEntry.Slow found s is = tt
stands CodeEntry.Nop found s is = (is.0, is.1, is.2.on s, is.2.slot)
stands (CodeEntry.Sll rd rt sa) found s is =
    (Insn.Shift ShiftOp.Sll rd rt sa, is, refl, refl)
stands (CodeEntry.Srl rd rt sa) found s is =
    (Insn.Shift ShiftOp.Srl rd rt sa, is, refl, refl)
stands (CodeEntry.Sra rd rt sa) found s is =
    (Insn.Shift ShiftOp.Sra rd rt sa, is, refl, refl)
stands (CodeEntry.Sllv rd rt rs) found s is =
    (Insn.ShiftVariable ShiftVariableOp.Sllv rd rt rs, is, refl, refl)
stands (CodeEntry.Srlv rd rt rs) found s is =
    (Insn.ShiftVariable ShiftVariableOp.Srlv rd rt rs, is, refl, refl)
stands (CodeEntry.Srav rd rt rs) found s is =
    (Insn.ShiftVariable ShiftVariableOp.Srav rd rt rs, is, refl, refl)
stands (CodeEntry.Movz rd rs rt) found s is =
    (Insn.ThreeRegisters RegisterOp.Movz rd rs rt, is, refl, refl)
stands (CodeEntry.Movn rd rs rt) found s is =
    (Insn.ThreeRegisters RegisterOp.Movn rd rs rt, is, refl, refl)
stands (CodeEntry.Add rd rs rt) found s is =
    (Insn.ThreeRegisters RegisterOp.Add rd rs rt, is, refl, refl)
stands (CodeEntry.Addu rd rs rt) found s is =
    (Insn.ThreeRegisters RegisterOp.Addu rd rs rt, is, refl, refl)
stands (CodeEntry.Sub rd rs rt) found s is =
    (Insn.ThreeRegisters RegisterOp.Sub rd rs rt, is, refl, refl)
stands (CodeEntry.Subu rd rs rt) found s is =
    (Insn.ThreeRegisters RegisterOp.Subu rd rs rt, is, refl, refl)
stands (CodeEntry.And rd rs rt) found s is =
    (Insn.ThreeRegisters RegisterOp.And rd rs rt, is, refl, refl)
stands (CodeEntry.Or rd rs rt) found s is =
    (Insn.ThreeRegisters RegisterOp.Or rd rs rt, is, refl, refl)
stands (CodeEntry.Xor rd rs rt) found s is =
    (Insn.ThreeRegisters RegisterOp.Xor rd rs rt, is, refl, refl)
stands (CodeEntry.Nor rd rs rt) found s is =
    (Insn.ThreeRegisters RegisterOp.Nor rd rs rt, is, refl, refl)
stands (CodeEntry.Slt rd rs rt) found s is =
    (Insn.ThreeRegisters RegisterOp.Slt rd rs rt, is, refl, refl)
stands (CodeEntry.Sltu rd rs rt) found s is =
    (Insn.ThreeRegisters RegisterOp.Sltu rd rs rt, is, refl, refl)
stands (CodeEntry.Mul rd rs rt) found s is =
    (Insn.Multiply rd rs rt, is, refl, refl)
stands (CodeEntry.Addi rt rs immediate) found s is =
    (Insn.WithImmediate ImmediateOp.Addi rt rs is.0, is.1, ap (λ x. Action.MayStop (with_word s rt (unless_overflow (sum_overflows (read s rs) x) (sum_of (read s rs) x)))) (sym is.2), refl)
stands (CodeEntry.Addiu rt rs immediate) found s is =
    (Insn.WithImmediate ImmediateOp.Addiu rt rs is.0, is.1, ap (λ x. Action.Local (with_register s rt (sum_of (read s rs) x))) (sym is.2), refl)
stands (CodeEntry.Slti rt rs immediate) found s is =
    (Insn.WithImmediate ImmediateOp.Slti rt rs is.0, is.1, ap (λ x. Action.Local (with_register s rt (one_if (is_below (read s rs) x)))) (sym is.2), refl)
stands (CodeEntry.Sltiu rt rs immediate) found s is =
    (Insn.WithImmediate ImmediateOp.Sltiu rt rs is.0, is.1, ap (λ x. Action.Local (with_register s rt (one_if (nat_lt (read s rs) x)))) (sym is.2), refl)
stands (CodeEntry.Andi rt rs immediate) found s is =
    (Insn.WithImmediate ImmediateOp.Andi rt rs immediate, is, refl, refl)
stands (CodeEntry.Ori rt rs immediate) found s is =
    (Insn.WithImmediate ImmediateOp.Ori rt rs immediate, is, refl, refl)
stands (CodeEntry.Xori rt rs immediate) found s is =
    (Insn.WithImmediate ImmediateOp.Xori rt rs immediate, is, refl, refl)
stands (CodeEntry.Lui rt word) found s is =
    (Insn.LoadUpper rt is.0, is.1, ap (λ x. Action.Local (with_register s rt (x))) (sym is.2), refl)
stands (CodeEntry.Mfhi rd) found s is =
    (Insn.MoveFrom MoveFromOp.Mfhi rd, is, refl, refl)
stands (CodeEntry.Mflo rd) found s is =
    (Insn.MoveFrom MoveFromOp.Mflo rd, is, refl, refl)
stands (CodeEntry.Mthi rs) found s is =
    (Insn.MoveTo MoveToOp.Mthi rs, is, refl, refl)
stands (CodeEntry.Mtlo rs) found s is =
    (Insn.MoveTo MoveToOp.Mtlo rs, is, refl, refl)
stands (CodeEntry.Mult rs rt) found s is =
    (Insn.Product ProductOp.Mult rs rt, is, refl, refl)
stands (CodeEntry.Multu rs rt) found s is =
    (Insn.Product ProductOp.Multu rs rt, is, refl, refl)
stands (CodeEntry.Div rs rt) found s is =
    (Insn.Product ProductOp.Div rs rt, is, refl, refl)
stands (CodeEntry.Divu rs rt) found s is =
    (Insn.Product ProductOp.Divu rs rt, is, refl, refl)
stands (CodeEntry.Madd rs rt) found s is =
    (Insn.Accumulate AccumulateOp.Madd rs rt, is, refl, refl)
stands (CodeEntry.Maddu rs rt) found s is =
    (Insn.Accumulate AccumulateOp.Maddu rs rt, is, refl, refl)
stands (CodeEntry.Msub rs rt) found s is =
    (Insn.Accumulate AccumulateOp.Msub rs rt, is, refl, refl)
stands (CodeEntry.Msubu rs rt) found s is =
    (Insn.Accumulate AccumulateOp.Msubu rs rt, is, refl, refl)
stands (CodeEntry.Clz rd rs) found s is =
    (Insn.Count CountOp.Clz rd rs, is, refl, refl)
stands (CodeEntry.Clo rd rs) found s is =
    (Insn.Count CountOp.Clo rd rs, is, refl, refl)
stands (CodeEntry.Lb rt base offset) found s is =
    (Insn.Load LoadOp.Lb rt base is.0, is.1, ap (λ x. Action.Loads LoadOp.Lb rt (sum_of (read s base) x)) (sym is.2), refl)
stands (CodeEntry.Lh rt base offset) found s is =
    (Insn.Load LoadOp.Lh rt base is.0, is.1, ap (λ x. Action.Loads LoadOp.Lh rt (sum_of (read s base) x)) (sym is.2), refl)
stands (CodeEntry.Lwl rt base offset) found s is =
    (Insn.Load LoadOp.Lwl rt base is.0, is.1, ap (λ x. Action.Loads LoadOp.Lwl rt (sum_of (read s base) x)) (sym is.2), refl)
stands (CodeEntry.Lw rt base offset) found s is =
    (Insn.Load LoadOp.Lw rt base is.0, is.1, ap (λ x. Action.Loads LoadOp.Lw rt (sum_of (read s base) x)) (sym is.2), refl)
stands (CodeEntry.Lbu rt base offset) found s is =
    (Insn.Load LoadOp.Lbu rt base is.0, is.1, ap (λ x. Action.Loads LoadOp.Lbu rt (sum_of (read s base) x)) (sym is.2), refl)
stands (CodeEntry.Lhu rt base offset) found s is =
    (Insn.Load LoadOp.Lhu rt base is.0, is.1, ap (λ x. Action.Loads LoadOp.Lhu rt (sum_of (read s base) x)) (sym is.2), refl)
stands (CodeEntry.Lwr rt base offset) found s is =
    (Insn.Load LoadOp.Lwr rt base is.0, is.1, ap (λ x. Action.Loads LoadOp.Lwr rt (sum_of (read s base) x)) (sym is.2), refl)
stands (CodeEntry.Sb rt base offset) found s is =
    (Insn.Store StoreOp.Sb rt base is.0, is.1, ap (λ x. Action.Stores StoreOp.Sb rt (sum_of (read s base) x)) (sym is.2), refl)
stands (CodeEntry.Sh rt base offset) found s is =
    (Insn.Store StoreOp.Sh rt base is.0, is.1, ap (λ x. Action.Stores StoreOp.Sh rt (sum_of (read s base) x)) (sym is.2), refl)
stands (CodeEntry.Swl rt base offset) found s is =
    (Insn.Store StoreOp.Swl rt base is.0, is.1, ap (λ x. Action.Stores StoreOp.Swl rt (sum_of (read s base) x)) (sym is.2), refl)
stands (CodeEntry.Sw rt base offset) found s is =
    (Insn.Store StoreOp.Sw rt base is.0, is.1, ap (λ x. Action.Stores StoreOp.Sw rt (sum_of (read s base) x)) (sym is.2), refl)
stands (CodeEntry.Swr rt base offset) found s is =
    (Insn.Store StoreOp.Swr rt base is.0, is.1, ap (λ x. Action.Stores StoreOp.Swr rt (sum_of (read s base) x)) (sym is.2), refl)
stands (CodeEntry.J index) found s is =
    (Insn.Jump JumpOp.J index, is, refl)
stands (CodeEntry.Jal index) found s is =
    (Insn.Jump JumpOp.Jal index, is, refl)
stands (CodeEntry.Jr rs) found s is =
    (Insn.JumpRegister rs, is, refl)
stands (CodeEntry.Jalr rd rs) found s is =
    (Insn.JumpLinkRegister rd rs, is, refl)
stands (CodeEntry.Beq rs rt reach) found s is =
    (Insn.Branch BranchOp.Beq rs rt is.0, is.1, unlikely (read s rs == read s rt) s is.0 reach is.2)
stands (CodeEntry.Bne rs rt reach) found s is =
    (Insn.Branch BranchOp.Bne rs rt is.0, is.1, unlikely (not (read s rs == read s rt)) s is.0 reach is.2)
stands (CodeEntry.Beql rs rt reach) found s is =
    (Insn.Branch BranchOp.Beql rs rt is.0, is.1, likely (read s rs == read s rt) s is.0 reach is.2)
stands (CodeEntry.Bnel rs rt reach) found s is =
    (Insn.Branch BranchOp.Bnel rs rt is.0, is.1, likely (not (read s rs == read s rt)) s is.0 reach is.2)
stands (CodeEntry.Blez rs reach) found s is =
    (Insn.BranchZero BranchZeroOp.Blez rs is.0, is.1, unlikely (is_zero_branch_taken BranchZeroOp.Blez (read s rs)) s is.0 reach is.2)
stands (CodeEntry.Bgtz rs reach) found s is =
    (Insn.BranchZero BranchZeroOp.Bgtz rs is.0, is.1, unlikely (is_zero_branch_taken BranchZeroOp.Bgtz (read s rs)) s is.0 reach is.2)
stands (CodeEntry.Blezl rs reach) found s is =
    (Insn.BranchZero BranchZeroOp.Blezl rs is.0, is.1, likely (is_zero_branch_taken BranchZeroOp.Blezl (read s rs)) s is.0 reach is.2)
stands (CodeEntry.Bgtzl rs reach) found s is =
    (Insn.BranchZero BranchZeroOp.Bgtzl rs is.0, is.1, likely (is_zero_branch_taken BranchZeroOp.Bgtzl (read s rs)) s is.0 reach is.2)
stands (CodeEntry.Bltz rs reach) found s is =
    (Insn.BranchRegimm BranchRegimmOp.Bltz rs is.0, is.1, unlikely (is_regimm_branch_taken BranchRegimmOp.Bltz (read s rs)) s is.0 reach is.2)
stands (CodeEntry.Bgez rs reach) found s is =
    (Insn.BranchRegimm BranchRegimmOp.Bgez rs is.0, is.1, unlikely (is_regimm_branch_taken BranchRegimmOp.Bgez (read s rs)) s is.0 reach is.2)
stands (CodeEntry.Bltzl rs reach) found s is =
    (Insn.BranchRegimm BranchRegimmOp.Bltzl rs is.0, is.1, likely (is_regimm_branch_taken BranchRegimmOp.Bltzl (read s rs)) s is.0 reach is.2)
stands (CodeEntry.Bgezl rs reach) found s is =
    (Insn.BranchRegimm BranchRegimmOp.Bgezl rs is.0, is.1, likely (is_regimm_branch_taken BranchRegimmOp.Bgezl (read s rs)) s is.0 reach is.2)
stands (CodeEntry.Bltzal rs reach) found s is =
    (Insn.BranchRegimm BranchRegimmOp.Bltzal rs is.0, is.1, unlikely (is_regimm_branch_taken BranchRegimmOp.Bltzal (read s rs)) (calling s) is.0 reach is.2)
stands (CodeEntry.Bgezal rs reach) found s is =
    (Insn.BranchRegimm BranchRegimmOp.Bgezal rs is.0, is.1, unlikely (is_regimm_branch_taken BranchRegimmOp.Bgezal (read s rs)) (calling s) is.0 reach is.2)
stands (CodeEntry.Bltzall rs reach) found s is =
    (Insn.BranchRegimm BranchRegimmOp.Bltzall rs is.0, is.1, likely (is_regimm_branch_taken BranchRegimmOp.Bltzall (read s rs)) (calling s) is.0 reach is.2)
stands (CodeEntry.Bgezall rs reach) found s is =
    (Insn.BranchRegimm BranchRegimmOp.Bgezall rs is.0, is.1, likely (is_regimm_branch_taken BranchRegimmOp.Bgezall (read s rs)) (calling s) is.0 reach is.2)
