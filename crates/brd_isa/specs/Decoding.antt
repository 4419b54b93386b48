-- Skip this file and read the table (Table.antt). Here is the table's inverse, an instruction as a function of its
-- word, which the meaning of a step needs. It gives an instruction exactly where the word stands for that one: this is
-- the theorem `laws::follows_the_table`.
use Rattle.std.specs.Prelude.{ℕ, ◌/◌, ◌%◌, ◌^◌, ◌==◌, ◌&&◌, if◌then◌else◌, List, [], ◌∷◌, Option, None, Some}
use Rattle.brd_isa.specs.declared.instruction.{Insn.Insn, ShiftOp.ShiftOp, ShiftVariableOp.ShiftVariableOp}
use Rattle.brd_isa.specs.declared.instruction.{RegisterOp.RegisterOp, MoveFromOp.MoveFromOp, MoveToOp.MoveToOp}
use Rattle.brd_isa.specs.declared.instruction.{ProductOp.ProductOp, TrapOp.TrapOp, BranchRegimmOp.BranchRegimmOp}
use Rattle.brd_isa.specs.declared.instruction.{TrapImmediateOp.TrapImmediateOp, AccumulateOp.AccumulateOp}
use Rattle.brd_isa.specs.declared.instruction.{CountOp.CountOp, JumpOp.JumpOp, BranchOp.BranchOp}
use Rattle.brd_isa.specs.declared.instruction.{BranchZeroOp.BranchZeroOp, ImmediateOp.ImmediateOp, LoadOp.LoadOp}
use Rattle.brd_isa.specs.declared.instruction.{StoreOp.StoreOp, LinkedOp.LinkedOp}
use Rattle.brd_isa.specs.Codes as code
use Rattle.brd_isa.specs.Names as names

-- the fields of a word
abbrev pub rs_of : ℕ → ℕ
rs_of word = word / 2 ^ 21 % 2 ^ 5

abbrev pub rt_of : ℕ → ℕ
rt_of word = word / 2 ^ 16 % 2 ^ 5

abbrev pub rd_of : ℕ → ℕ
rd_of word = word / 2 ^ 11 % 2 ^ 5

abbrev pub sa_of : ℕ → ℕ
sa_of word = word / 2 ^ 6 % 2 ^ 5

abbrev pub low_of : ℕ → ℕ
low_of word = word % 2 ^ 16

abbrev pub index_of : ℕ → ℕ
index_of word = word % 2 ^ 26

abbrev pub long_code_of : ℕ → ℕ
long_code_of word = word / 2 ^ 6 % 2 ^ 20

abbrev pub short_code_of : ℕ → ℕ
short_code_of word = word / 2 ^ 6 % 2 ^ 10

-- the forms that are reserved where a field isn't 0, or where two fields differ
abbrev pub shift : ShiftOp → ℕ → Option Insn
shift op word = if rs_of word == 0 then Some (Insn.Shift op (rd_of word) (rt_of word) (sa_of word)) else None

abbrev pub shift_variable : ShiftVariableOp → ℕ → Option Insn
shift_variable op word =
    if sa_of word == 0 then Some (Insn.ShiftVariable op (rd_of word) (rt_of word) (rs_of word)) else None

abbrev pub three_registers : RegisterOp → ℕ → Option Insn
three_registers op word =
    if sa_of word == 0 then Some (Insn.ThreeRegisters op (rd_of word) (rs_of word) (rt_of word)) else None

abbrev pub multiply : ℕ → Option Insn
multiply word = if sa_of word == 0 then Some (Insn.Multiply (rd_of word) (rs_of word) (rt_of word)) else None

abbrev pub jump_register : ℕ → Option Insn
jump_register word = if (rt_of word == 0) && (rd_of word == 0) then Some (Insn.JumpRegister (rs_of word)) else None

abbrev pub jump_link_register : ℕ → Option Insn
jump_link_register word = if rt_of word == 0 then Some (Insn.JumpLinkRegister (rd_of word) (rs_of word)) else None

abbrev pub sync : ℕ → Option Insn
sync word = if (rs_of word == 0) && (rt_of word == 0) && (rd_of word == 0) then Some Insn.Sync else None

abbrev pub move_from : MoveFromOp → ℕ → Option Insn
move_from op word =
    if (rs_of word == 0) && (rt_of word == 0) && (sa_of word == 0) then Some (Insn.MoveFrom op (rd_of word)) else None

abbrev pub move_to : MoveToOp → ℕ → Option Insn
move_to op word =
    if (rt_of word == 0) && (rd_of word == 0) && (sa_of word == 0) then Some (Insn.MoveTo op (rs_of word)) else None

abbrev pub product : ProductOp → ℕ → Option Insn
product op word =
    if (rd_of word == 0) && (sa_of word == 0) then Some (Insn.Product op (rs_of word) (rt_of word)) else None

abbrev pub accumulate : AccumulateOp → ℕ → Option Insn
accumulate op word =
    if (rd_of word == 0) && (sa_of word == 0) then Some (Insn.Accumulate op (rs_of word) (rt_of word)) else None

abbrev pub count : CountOp → ℕ → Option Insn
count op word =
    if (rt_of word == rd_of word) && (sa_of word == 0) then Some (Insn.Count op (rd_of word) (rs_of word)) else None

abbrev pub branch_zero : BranchZeroOp → ℕ → Option Insn
branch_zero op word = if rt_of word == 0 then Some (Insn.BranchZero op (rs_of word) (low_of word)) else None

abbrev pub load_upper : ℕ → Option Insn
load_upper word = if rs_of word == 0 then Some (Insn.LoadUpper (rt_of word) (low_of word)) else None

-- the forms of which every word is an instruction
abbrev pub trap : TrapOp → ℕ → Option Insn
trap op word = Some (Insn.Trap op (rs_of word) (rt_of word) (short_code_of word))

abbrev pub trap_immediate : TrapImmediateOp → ℕ → Option Insn
trap_immediate op word = Some (Insn.TrapImmediate op (rs_of word) (low_of word))

abbrev pub branch_regimm : BranchRegimmOp → ℕ → Option Insn
branch_regimm op word = Some (Insn.BranchRegimm op (rs_of word) (low_of word))

abbrev pub jump : JumpOp → ℕ → Option Insn
jump op word = Some (Insn.Jump op (index_of word))

abbrev pub branch : BranchOp → ℕ → Option Insn
branch op word = Some (Insn.Branch op (rs_of word) (rt_of word) (low_of word))

abbrev pub with_immediate : ImmediateOp → ℕ → Option Insn
with_immediate op word = Some (Insn.WithImmediate op (rt_of word) (rs_of word) (low_of word))

abbrev pub load : LoadOp → ℕ → Option Insn
load op word = Some (Insn.Load op (rt_of word) (rs_of word) (low_of word))

abbrev pub store : StoreOp → ℕ → Option Insn
store op word = Some (Insn.Store op (rt_of word) (rs_of word) (low_of word))

abbrev pub linked : LinkedOp → ℕ → Option Insn
linked op word = Some (Insn.Linked op (rt_of word) (rs_of word) (low_of word))

-- what the operation with this code makes of the word, where one of a form's operations has the code; else the rest. A
-- form's operations are those of its list of names.
abbrev pub by_code :
    {A : Type 0} → List (List ℕ × A) → (A → ℕ) → (A → ℕ → Option Insn) → ℕ → ℕ → Option Insn → Option Insn
by_code [] code_of make n word rest = rest
by_code (row ∷ rows) code_of make n word rest =
    if n == code_of row.1 then make row.1 word else by_code rows code_of make n word rest

-- under the opcode SPECIAL, by the function field
abbrev pub special_of : ℕ → ℕ → Option Insn
special_of funct word =
    if funct == 0x08 then jump_register word
    else if funct == 0x09 then jump_link_register word
    else if funct == 0x0c then Some (Insn.Syscall (long_code_of word))
    else if funct == 0x0d then Some (Insn.Break (long_code_of word))
    else if funct == 0x0f then sync word
    else
    by_code names.shift_names code.shift_funct shift funct word (
    by_code names.shift_variable_names code.shift_variable_funct shift_variable funct word (
    by_code names.register_names code.register_funct three_registers funct word (
    by_code names.move_from_names code.move_from_funct move_from funct word (
    by_code names.move_to_names code.move_to_funct move_to funct word (
    by_code names.product_names code.product_funct product funct word (
    by_code names.trap_names code.trap_funct trap funct word None))))))

-- under the opcode REGIMM, by the field rt
abbrev pub regimm_of : ℕ → ℕ → Option Insn
regimm_of rt word =
    by_code names.branch_regimm_names code.branch_regimm_rt branch_regimm rt word (
    by_code names.trap_immediate_names code.trap_immediate_rt trap_immediate rt word None)

-- under the opcode SPECIAL2, by the function field
abbrev pub special2_of : ℕ → ℕ → Option Insn
special2_of funct word =
    if funct == 0x02 then multiply word
    else
    by_code names.accumulate_names code.accumulate_funct accumulate funct word (
    by_code names.count_names code.count_funct count funct word None)

-- under any other opcode, by the opcode
abbrev pub others_of : ℕ → ℕ → Option Insn
others_of opcode word =
    if opcode == 0x0f then load_upper word
    else if opcode == 0x33 then Some (Insn.Prefetch (rt_of word) (rs_of word) (low_of word))
    else
    by_code names.jump_names code.jump_opcode jump opcode word (
    by_code names.branch_names code.branch_opcode branch opcode word (
    by_code names.branch_zero_names code.branch_zero_opcode branch_zero opcode word (
    by_code names.immediate_names code.immediate_opcode with_immediate opcode word (
    by_code names.load_names code.load_opcode load opcode word (
    by_code names.store_names code.store_opcode store opcode word (
    by_code names.linked_names code.linked_opcode linked opcode word None))))))

abbrev pub of_opcode : ℕ → ℕ → Option Insn
of_opcode opcode word =
    if opcode == 0x00 then special_of (word % 2 ^ 6) word
    else if opcode == 0x01 then regimm_of (rt_of word) word
    else if opcode == 0x1c then special2_of (word % 2 ^ 6) word
    else others_of opcode word

unfoldable pub decoded : ℕ → Option Insn
decoded word = of_opcode (word / 2 ^ 26) word
