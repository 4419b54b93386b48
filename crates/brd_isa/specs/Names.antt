-- The name of each mnemonic in assembler source (MD00086, chapter 3, the heads of the entries), in lower case: one line
-- a mnemonic. No mnemonic is without a name (`laws::every_mnemonic_has_a_name`).
use Rattle.std.specs.Prelude.{◌≡◌, ℕ, List, [], ◌∷◌, Option, Some, None, option_map, map, if◌then◌else◌, codes}
use Rattle.std.specs.Str.{bytes_eq}
use Rattle.std.specs.Char.{to_ascii_lowercase}
use Rattle.brd_isa.specs.declared.instruction.{ShiftOp.ShiftOp, ShiftVariableOp.ShiftVariableOp}
use Rattle.brd_isa.specs.declared.instruction.{RegisterOp.RegisterOp, MoveFromOp.MoveFromOp, MoveToOp.MoveToOp}
use Rattle.brd_isa.specs.declared.instruction.{ProductOp.ProductOp, TrapOp.TrapOp, BranchRegimmOp.BranchRegimmOp}
use Rattle.brd_isa.specs.declared.instruction.{TrapImmediateOp.TrapImmediateOp, AccumulateOp.AccumulateOp}
use Rattle.brd_isa.specs.declared.instruction.{CountOp.CountOp, JumpOp.JumpOp, BranchOp.BranchOp}
use Rattle.brd_isa.specs.declared.instruction.{BranchZeroOp.BranchZeroOp, ImmediateOp.ImmediateOp, LoadOp.LoadOp}
use Rattle.brd_isa.specs.declared.instruction.{StoreOp.StoreOp, LinkedOp.LinkedOp}
use Rattle.brd_isa.specs.declared.mnemonic.Mnemonic.{Mnemonic}
use Rattle.brd_isa.specs.contracts.mnemonic.MnemonicPartialEq.TheImpl as mnemonics

-- a text without regard to case: A to Z as a to z
abbrev pub lowered : List ℕ → List ℕ
lowered bytes = map to_ascii_lowercase bytes

-- what a table of names has for a name
abbrev pub named_in : {A : Type 0} → List (List ℕ × A) → List ℕ → Option A
named_in [] name = None
named_in (row ∷ rows) name = if bytes_eq name row.0 then Some row.1 else named_in rows name

abbrev pub shift_names : List (List ℕ × ShiftOp)
shift_names =
    (codes "sll", ShiftOp.Sll) ∷
    (codes "srl", ShiftOp.Srl) ∷
    (codes "sra", ShiftOp.Sra) ∷ []

abbrev pub shift_variable_names : List (List ℕ × ShiftVariableOp)
shift_variable_names =
    (codes "sllv", ShiftVariableOp.Sllv) ∷
    (codes "srlv", ShiftVariableOp.Srlv) ∷
    (codes "srav", ShiftVariableOp.Srav) ∷ []

abbrev pub register_names : List (List ℕ × RegisterOp)
register_names =
    (codes "movz", RegisterOp.Movz) ∷
    (codes "movn", RegisterOp.Movn) ∷
    (codes "add", RegisterOp.Add) ∷
    (codes "addu", RegisterOp.Addu) ∷
    (codes "sub", RegisterOp.Sub) ∷
    (codes "subu", RegisterOp.Subu) ∷
    (codes "and", RegisterOp.And) ∷
    (codes "or", RegisterOp.Or) ∷
    (codes "xor", RegisterOp.Xor) ∷
    (codes "nor", RegisterOp.Nor) ∷
    (codes "slt", RegisterOp.Slt) ∷
    (codes "sltu", RegisterOp.Sltu) ∷ []

abbrev pub move_from_names : List (List ℕ × MoveFromOp)
move_from_names =
    (codes "mfhi", MoveFromOp.Mfhi) ∷
    (codes "mflo", MoveFromOp.Mflo) ∷ []

abbrev pub move_to_names : List (List ℕ × MoveToOp)
move_to_names =
    (codes "mthi", MoveToOp.Mthi) ∷
    (codes "mtlo", MoveToOp.Mtlo) ∷ []

abbrev pub product_names : List (List ℕ × ProductOp)
product_names =
    (codes "mult", ProductOp.Mult) ∷
    (codes "multu", ProductOp.Multu) ∷
    (codes "div", ProductOp.Div) ∷
    (codes "divu", ProductOp.Divu) ∷ []

abbrev pub trap_names : List (List ℕ × TrapOp)
trap_names =
    (codes "tge", TrapOp.Tge) ∷
    (codes "tgeu", TrapOp.Tgeu) ∷
    (codes "tlt", TrapOp.Tlt) ∷
    (codes "tltu", TrapOp.Tltu) ∷
    (codes "teq", TrapOp.Teq) ∷
    (codes "tne", TrapOp.Tne) ∷ []

abbrev pub branch_regimm_names : List (List ℕ × BranchRegimmOp)
branch_regimm_names =
    (codes "bltz", BranchRegimmOp.Bltz) ∷
    (codes "bgez", BranchRegimmOp.Bgez) ∷
    (codes "bltzl", BranchRegimmOp.Bltzl) ∷
    (codes "bgezl", BranchRegimmOp.Bgezl) ∷
    (codes "bltzal", BranchRegimmOp.Bltzal) ∷
    (codes "bgezal", BranchRegimmOp.Bgezal) ∷
    (codes "bltzall", BranchRegimmOp.Bltzall) ∷
    (codes "bgezall", BranchRegimmOp.Bgezall) ∷ []

abbrev pub trap_immediate_names : List (List ℕ × TrapImmediateOp)
trap_immediate_names =
    (codes "tgei", TrapImmediateOp.Tgei) ∷
    (codes "tgeiu", TrapImmediateOp.Tgeiu) ∷
    (codes "tlti", TrapImmediateOp.Tlti) ∷
    (codes "tltiu", TrapImmediateOp.Tltiu) ∷
    (codes "teqi", TrapImmediateOp.Teqi) ∷
    (codes "tnei", TrapImmediateOp.Tnei) ∷ []

abbrev pub accumulate_names : List (List ℕ × AccumulateOp)
accumulate_names =
    (codes "madd", AccumulateOp.Madd) ∷
    (codes "maddu", AccumulateOp.Maddu) ∷
    (codes "msub", AccumulateOp.Msub) ∷
    (codes "msubu", AccumulateOp.Msubu) ∷ []

abbrev pub count_names : List (List ℕ × CountOp)
count_names =
    (codes "clz", CountOp.Clz) ∷
    (codes "clo", CountOp.Clo) ∷ []

abbrev pub jump_names : List (List ℕ × JumpOp)
jump_names =
    (codes "j", JumpOp.J) ∷
    (codes "jal", JumpOp.Jal) ∷ []

abbrev pub branch_names : List (List ℕ × BranchOp)
branch_names =
    (codes "beq", BranchOp.Beq) ∷
    (codes "bne", BranchOp.Bne) ∷
    (codes "beql", BranchOp.Beql) ∷
    (codes "bnel", BranchOp.Bnel) ∷ []

abbrev pub branch_zero_names : List (List ℕ × BranchZeroOp)
branch_zero_names =
    (codes "blez", BranchZeroOp.Blez) ∷
    (codes "bgtz", BranchZeroOp.Bgtz) ∷
    (codes "blezl", BranchZeroOp.Blezl) ∷
    (codes "bgtzl", BranchZeroOp.Bgtzl) ∷ []

abbrev pub immediate_names : List (List ℕ × ImmediateOp)
immediate_names =
    (codes "addi", ImmediateOp.Addi) ∷
    (codes "addiu", ImmediateOp.Addiu) ∷
    (codes "slti", ImmediateOp.Slti) ∷
    (codes "sltiu", ImmediateOp.Sltiu) ∷
    (codes "andi", ImmediateOp.Andi) ∷
    (codes "ori", ImmediateOp.Ori) ∷
    (codes "xori", ImmediateOp.Xori) ∷ []

abbrev pub load_names : List (List ℕ × LoadOp)
load_names =
    (codes "lb", LoadOp.Lb) ∷
    (codes "lh", LoadOp.Lh) ∷
    (codes "lwl", LoadOp.Lwl) ∷
    (codes "lw", LoadOp.Lw) ∷
    (codes "lbu", LoadOp.Lbu) ∷
    (codes "lhu", LoadOp.Lhu) ∷
    (codes "lwr", LoadOp.Lwr) ∷ []

abbrev pub store_names : List (List ℕ × StoreOp)
store_names =
    (codes "sb", StoreOp.Sb) ∷
    (codes "sh", StoreOp.Sh) ∷
    (codes "swl", StoreOp.Swl) ∷
    (codes "sw", StoreOp.Sw) ∷
    (codes "swr", StoreOp.Swr) ∷ []

abbrev pub linked_names : List (List ℕ × LinkedOp)
linked_names =
    (codes "ll", LinkedOp.Ll) ∷
    (codes "sc", LinkedOp.Sc) ∷ []

-- the mnemonics of one instruction each
abbrev pub single_names : List (List ℕ × Mnemonic)
single_names =
    (codes "mul", Mnemonic.Multiply) ∷
    (codes "jr", Mnemonic.JumpRegister) ∷
    (codes "jalr", Mnemonic.JumpLinkRegister) ∷
    (codes "syscall", Mnemonic.Syscall) ∷
    (codes "break", Mnemonic.Break) ∷
    (codes "sync", Mnemonic.Sync) ∷
    (codes "lui", Mnemonic.LoadUpper) ∷
    (codes "pref", Mnemonic.Prefetch) ∷ []

infixr 10 ◌or_else◌
abbrev pub ◌or_else◌ : {A : Type 0} → Option A → Option A → Option A
(Some x) or_else y = Some x
None or_else y = y

-- those that compute in registers
unfoldable pub computing_named : List ℕ → Option Mnemonic
computing_named name =
    option_map (λ op. Mnemonic.Shift op) (named_in shift_names name) or_else
    option_map (λ op. Mnemonic.ShiftVariable op) (named_in shift_variable_names name) or_else
    option_map (λ op. Mnemonic.ThreeRegisters op) (named_in register_names name) or_else
    option_map (λ op. Mnemonic.MoveFrom op) (named_in move_from_names name) or_else
    option_map (λ op. Mnemonic.MoveTo op) (named_in move_to_names name) or_else
    option_map (λ op. Mnemonic.Product op) (named_in product_names name) or_else
    option_map (λ op. Mnemonic.Accumulate op) (named_in accumulate_names name) or_else
    option_map (λ op. Mnemonic.Count op) (named_in count_names name) or_else
    option_map (λ op. Mnemonic.WithImmediate op) (named_in immediate_names name)

-- those that trap, jump, branch, load and store
unfoldable pub other_named : List ℕ → Option Mnemonic
other_named name =
    option_map (λ op. Mnemonic.Trap op) (named_in trap_names name) or_else
    option_map (λ op. Mnemonic.TrapImmediate op) (named_in trap_immediate_names name) or_else
    option_map (λ op. Mnemonic.Jump op) (named_in jump_names name) or_else
    option_map (λ op. Mnemonic.Branch op) (named_in branch_names name) or_else
    option_map (λ op. Mnemonic.BranchZero op) (named_in branch_zero_names name) or_else
    option_map (λ op. Mnemonic.BranchRegimm op) (named_in branch_regimm_names name) or_else
    option_map (λ op. Mnemonic.Load op) (named_in load_names name) or_else
    option_map (λ op. Mnemonic.Store op) (named_in store_names name) or_else
    option_map (λ op. Mnemonic.Linked op) (named_in linked_names name)

-- the mnemonic that a name is, in lower case
unfoldable pub mnemonic_named : List ℕ → Option Mnemonic
mnemonic_named name = computing_named name or_else other_named name or_else named_in single_names name

-- what a table of names has for a mnemonic
unfoldable pub name_in : List (List ℕ × Mnemonic) → Mnemonic → Option (List ℕ)
name_in [] mnemonic = None
name_in (row ∷ rows) mnemonic = if mnemonics.ghosts.eq row.1 mnemonic then Some row.0 else name_in rows mnemonic

-- some name is this mnemonic
abbrev pub HasName : Mnemonic → Type 0
HasName mnemonic = (name : List ℕ) × (mnemonic_named name ≡ Some mnemonic)
