-- The table's inverse is the table: `decoded` gives an instruction exactly where the word stands for that one.
use Rattle.std.proofs.Common.{◌≡◌, ℕ, ◌/◌, ◌%◌, ◌^◌, Bool, true, false, List, [], ◌∷◌, Option, Some, None, refl, sym}
use Rattle.std.proofs.Common.{◌∙◌, ap, subst}
use Rattle.std.specs.Prelude.{◌==◌, ◌&&◌, ◌↔◌, if◌then◌else◌}
use Rattle.std.proofs.lemmas.Bool.{eqb-true, eq-eqb, and_parts}
use Rattle.std.proofs.lemmas.Option.{none-some, same_Some}
use Rattle.brd_isa.specs.declared.instruction.{Insn.Insn, ShiftOp.ShiftOp, ShiftVariableOp.ShiftVariableOp}
use Rattle.brd_isa.specs.declared.instruction.{RegisterOp.RegisterOp, MoveFromOp.MoveFromOp, MoveToOp.MoveToOp}
use Rattle.brd_isa.specs.declared.instruction.{ProductOp.ProductOp, TrapOp.TrapOp, BranchRegimmOp.BranchRegimmOp}
use Rattle.brd_isa.specs.declared.instruction.{TrapImmediateOp.TrapImmediateOp, AccumulateOp.AccumulateOp}
use Rattle.brd_isa.specs.declared.instruction.{CountOp.CountOp, JumpOp.JumpOp, BranchOp.BranchOp}
use Rattle.brd_isa.specs.declared.instruction.{BranchZeroOp.BranchZeroOp, ImmediateOp.ImmediateOp, LoadOp.LoadOp}
use Rattle.brd_isa.specs.declared.instruction.{StoreOp.StoreOp, LinkedOp.LinkedOp}
use Rattle.brd_isa.specs.Codes as code
use Rattle.brd_isa.specs.Names as names
use Rattle.brd_isa.specs.Fields.{RType, AnySaType, IType}
use Rattle.brd_isa.specs.Table.{StandsFor}
use Rattle.brd_isa.specs.Decoding as decoding
use Rattle.brd_isa.specs.Decoding.{by_code, special_of, regimm_of, special2_of, others_of, of_opcode, decoded, rs_of}
use Rattle.brd_isa.specs.Decoding.{rt_of, rd_of, sa_of, low_of, long_code_of}

-- what is found for a word is an instruction that the word stands for
record Agrees (word : ℕ) (found : Option Insn) : Type 0 where
  stands : (insn : Insn) → found ≡ Some insn → StandsFor word insn

nothing : {word : ℕ} → Agrees word None
nothing = record { stands = λ insn e. absurd (none-some insn e) }

found : {word : ℕ} (insn : Insn) → StandsFor word insn → Agrees word (Some insn)
found {word} insn h = record { stands = λ other e. subst (StandsFor word) (same_Some insn other e) h }

-- after the tests of numbers that `decoded` is made of

where_true : {word : ℕ} {x y : Option Insn} (test : Bool) →
    (test ≡ true → Agrees word x) → Agrees word y → Agrees word (if test then x else y)
where_true true x y = x refl
where_true false x y = y

where_same : {word : ℕ} {x y : Option Insn} (n m : ℕ) →
    (n ≡ m → Agrees word x) → Agrees word y → Agrees word (if n == m then x else y)
where_same n m x y = where_true (n == m) (λ e. x (eqb-true n m e)) y

where_both : {word : ℕ} {x : Option Insn} (n m k l : ℕ) →
    (n ≡ m → k ≡ l → Agrees word x) → Agrees word (if (n == m) && (k == l) then x else None)
where_both n m k l x =
    where_true ((n == m) && (k == l))
    (λ e. let parts = and_parts (n == m) (k == l) e in x (eqb-true n m parts.0) (eqb-true k l parts.1)) nothing

where_zeros : {word : ℕ} {x : Option Insn} (n m k : ℕ) →
    (n ≡ 0 → m ≡ 0 → k ≡ 0 → Agrees word x) → Agrees word (if (n == 0) && (m == 0) && (k == 0) then x else None)
where_zeros n m k x =
    where_true ((n == 0) && (m == 0) && (k == 0))
    (λ e.
    let parts = and_parts ((n == 0) && (m == 0)) (k == 0) e in
    let front = and_parts (n == 0) (m == 0) parts.0 in
    x (eqb-true n 0 front.0) (eqb-true m 0 front.1) (eqb-true k 0 parts.1)) nothing

by_code_agrees : {A : Type 0} {word : ℕ} {rest : Option Insn}
    (rows : List (List ℕ × A)) (code_of : A → ℕ) (make : A → ℕ → Option Insn) (n : ℕ) →
    ((op : A) → n ≡ code_of op → Agrees word (make op word)) → Agrees word rest →
    Agrees word (by_code rows code_of make n word rest)
by_code_agrees [] code_of make n each rest = rest
by_code_agrees (row ∷ rows) code_of make n each rest =
    where_same n (code_of row.1) (λ e. each row.1 e) (by_code_agrees rows code_of make n each rest)

-- a format, by the equations of its fields

r_type : {word opcode rs rt rd sa funct : ℕ} →
    word / 2 ^ 26 ≡ opcode → rs_of word ≡ rs → rt_of word ≡ rt → rd_of word ≡ rd → sa_of word ≡ sa → word % 2 ^ 6 ≡ funct →
    RType word opcode rs rt rd sa funct
r_type o rs rt rd sa f = record { opcode_is = o; rs_is = rs; rt_is = rt; rd_is = rd; sa_is = sa; funct_is = f }

any_sa_type : {word opcode rs rt rd funct : ℕ} →
    word / 2 ^ 26 ≡ opcode → rs_of word ≡ rs → rt_of word ≡ rt → rd_of word ≡ rd → word % 2 ^ 6 ≡ funct →
    AnySaType word opcode rs rt rd funct
any_sa_type o rs rt rd f = record { opcode_is = o; rs_is = rs; rt_is = rt; rd_is = rd; funct_is = f }

i_type : {word opcode rs rt low : ℕ} →
    word / 2 ^ 26 ≡ opcode → rs_of word ≡ rs → rt_of word ≡ rt → low_of word ≡ low → IType word opcode rs rt low
i_type o rs rt low = record { opcode_is = o; rs_is = rs; rt_is = rt; low_is = low }

-- under the opcode SPECIAL

module _ (word : ℕ) (o : word / 2 ^ 26 ≡ 0x00) where
  shift_agrees : (op : ShiftOp) → word % 2 ^ 6 ≡ code.shift_funct op → Agrees word (decoding.shift op word)
  shift_agrees op f = where_same (rs_of word) 0 (λ rs. found _ (r_type o rs refl refl refl f)) nothing

  shift_variable_agrees : (op : ShiftVariableOp) → word % 2 ^ 6 ≡ code.shift_variable_funct op → Agrees word (decoding.shift_variable op word)
  shift_variable_agrees op f = where_same (sa_of word) 0 (λ sa. found _ (r_type o refl refl refl sa f)) nothing

  three_registers_agrees : (op : RegisterOp) → word % 2 ^ 6 ≡ code.register_funct op → Agrees word (decoding.three_registers op word)
  three_registers_agrees op f = where_same (sa_of word) 0 (λ sa. found _ (r_type o refl refl refl sa f)) nothing

  move_from_agrees : (op : MoveFromOp) → word % 2 ^ 6 ≡ code.move_from_funct op → Agrees word (decoding.move_from op word)
  move_from_agrees op f = where_zeros (rs_of word) (rt_of word) (sa_of word) (λ rs rt sa. found _ (r_type o rs rt refl sa f))

  move_to_agrees : (op : MoveToOp) → word % 2 ^ 6 ≡ code.move_to_funct op → Agrees word (decoding.move_to op word)
  move_to_agrees op f = where_zeros (rt_of word) (rd_of word) (sa_of word) (λ rt rd sa. found _ (r_type o refl rt rd sa f))

  product_agrees : (op : ProductOp) → word % 2 ^ 6 ≡ code.product_funct op → Agrees word (decoding.product op word)
  product_agrees op f = where_both (rd_of word) 0 (sa_of word) 0 (λ rd sa. found _ (r_type o refl refl rd sa f))

  trap_agrees : (op : TrapOp) → word % 2 ^ 6 ≡ code.trap_funct op → Agrees word (decoding.trap op word)
  trap_agrees op f = found _ (record { opcode_is = o; rs_is = refl; rt_is = refl; code_is = refl; funct_is = f })

  jump_register_agrees : word % 2 ^ 6 ≡ 0x08 → Agrees word (decoding.jump_register word)
  jump_register_agrees f = where_both (rt_of word) 0 (rd_of word) 0 (λ rt rd. found _ (any_sa_type o refl rt rd f))

  jump_link_register_agrees : word % 2 ^ 6 ≡ 0x09 → Agrees word (decoding.jump_link_register word)
  jump_link_register_agrees f = where_same (rt_of word) 0 (λ rt. found _ (any_sa_type o refl rt refl f)) nothing

  syscall_agrees : word % 2 ^ 6 ≡ 0x0c → Agrees word (Some (Insn.Syscall (long_code_of word)))
  syscall_agrees f = found _ (record { opcode_is = o; code_is = refl; funct_is = f })

  break_agrees : word % 2 ^ 6 ≡ 0x0d → Agrees word (Some (Insn.Break (long_code_of word)))
  break_agrees f = found _ (record { opcode_is = o; code_is = refl; funct_is = f })

  sync_agrees : word % 2 ^ 6 ≡ 0x0f → Agrees word (decoding.sync word)
  sync_agrees f = where_zeros (rs_of word) (rt_of word) (rd_of word) (λ rs rt rd. found _ (any_sa_type o rs rt rd f))

  special_agrees : Agrees word (special_of (word % 2 ^ 6) word)
  special_agrees =
      where_same _ 0x08 jump_register_agrees (
      where_same _ 0x09 jump_link_register_agrees (
      where_same _ 0x0c syscall_agrees (
      where_same _ 0x0d break_agrees (
      where_same _ 0x0f sync_agrees (
      by_code_agrees names.shift_names code.shift_funct decoding.shift _ shift_agrees (
      by_code_agrees names.shift_variable_names code.shift_variable_funct decoding.shift_variable _ shift_variable_agrees (
      by_code_agrees names.register_names code.register_funct decoding.three_registers _ three_registers_agrees (
      by_code_agrees names.move_from_names code.move_from_funct decoding.move_from _ move_from_agrees (
      by_code_agrees names.move_to_names code.move_to_funct decoding.move_to _ move_to_agrees (
      by_code_agrees names.product_names code.product_funct decoding.product _ product_agrees (
      by_code_agrees names.trap_names code.trap_funct decoding.trap _ trap_agrees nothing)))))))))))

-- under the opcode REGIMM

module _ (word : ℕ) (o : word / 2 ^ 26 ≡ 0x01) where
  branch_regimm_agrees : (op : BranchRegimmOp) → rt_of word ≡ code.branch_regimm_rt op → Agrees word (decoding.branch_regimm op word)
  branch_regimm_agrees op rt = found _ (i_type o refl rt refl)

  trap_immediate_agrees : (op : TrapImmediateOp) → rt_of word ≡ code.trap_immediate_rt op → Agrees word (decoding.trap_immediate op word)
  trap_immediate_agrees op rt = found _ (i_type o refl rt refl)

  regimm_agrees : Agrees word (regimm_of (rt_of word) word)
  regimm_agrees =
      by_code_agrees names.branch_regimm_names code.branch_regimm_rt decoding.branch_regimm _ branch_regimm_agrees (
      by_code_agrees names.trap_immediate_names code.trap_immediate_rt decoding.trap_immediate _ trap_immediate_agrees nothing)

-- under the opcode SPECIAL2

module _ (word : ℕ) (o : word / 2 ^ 26 ≡ 0x1c) where
  accumulate_agrees : (op : AccumulateOp) → word % 2 ^ 6 ≡ code.accumulate_funct op → Agrees word (decoding.accumulate op word)
  accumulate_agrees op f = where_both (rd_of word) 0 (sa_of word) 0 (λ rd sa. found _ (r_type o refl refl rd sa f))

  count_agrees : (op : CountOp) → word % 2 ^ 6 ≡ code.count_funct op → Agrees word (decoding.count op word)
  count_agrees op f = where_both (rt_of word) (rd_of word) (sa_of word) 0 (λ rt sa. found _ (r_type o refl rt refl sa f))

  multiply_agrees : word % 2 ^ 6 ≡ 0x02 → Agrees word (decoding.multiply word)
  multiply_agrees f = where_same (sa_of word) 0 (λ sa. found _ (r_type o refl refl refl sa f)) nothing

  special2_agrees : Agrees word (special2_of (word % 2 ^ 6) word)
  special2_agrees =
      where_same _ 0x02 multiply_agrees (
      by_code_agrees names.accumulate_names code.accumulate_funct decoding.accumulate _ accumulate_agrees (
      by_code_agrees names.count_names code.count_funct decoding.count _ count_agrees nothing))

-- under another opcode

module _ (word : ℕ) where
  load_upper_agrees : word / 2 ^ 26 ≡ 0x0f → Agrees word (decoding.load_upper word)
  load_upper_agrees o = where_same (rs_of word) 0 (λ rs. found _ (i_type o rs refl refl)) nothing

  prefetch_agrees : word / 2 ^ 26 ≡ 0x33 → Agrees word (Some (Insn.Prefetch (rt_of word) (rs_of word) (low_of word)))
  prefetch_agrees o = found _ (i_type o refl refl refl)

  jump_agrees : (op : JumpOp) → word / 2 ^ 26 ≡ code.jump_opcode op → Agrees word (decoding.jump op word)
  jump_agrees op o = found _ (record { opcode_is = o; index_is = refl })

  branch_agrees : (op : BranchOp) → word / 2 ^ 26 ≡ code.branch_opcode op → Agrees word (decoding.branch op word)
  branch_agrees op o = found _ (i_type o refl refl refl)

  branch_zero_agrees : (op : BranchZeroOp) → word / 2 ^ 26 ≡ code.branch_zero_opcode op → Agrees word (decoding.branch_zero op word)
  branch_zero_agrees op o = where_same (rt_of word) 0 (λ rt. found _ (i_type o refl rt refl)) nothing

  with_immediate_agrees : (op : ImmediateOp) → word / 2 ^ 26 ≡ code.immediate_opcode op → Agrees word (decoding.with_immediate op word)
  with_immediate_agrees op o = found _ (i_type o refl refl refl)

  load_agrees : (op : LoadOp) → word / 2 ^ 26 ≡ code.load_opcode op → Agrees word (decoding.load op word)
  load_agrees op o = found _ (i_type o refl refl refl)

  store_agrees : (op : StoreOp) → word / 2 ^ 26 ≡ code.store_opcode op → Agrees word (decoding.store op word)
  store_agrees op o = found _ (i_type o refl refl refl)

  linked_agrees : (op : LinkedOp) → word / 2 ^ 26 ≡ code.linked_opcode op → Agrees word (decoding.linked op word)
  linked_agrees op o = found _ (i_type o refl refl refl)

  others_agrees : Agrees word (others_of (word / 2 ^ 26) word)
  others_agrees =
      where_same _ 0x0f load_upper_agrees (
      where_same _ 0x33 prefetch_agrees (
      by_code_agrees names.jump_names code.jump_opcode decoding.jump _ jump_agrees (
      by_code_agrees names.branch_names code.branch_opcode decoding.branch _ branch_agrees (
      by_code_agrees names.branch_zero_names code.branch_zero_opcode decoding.branch_zero _ branch_zero_agrees (
      by_code_agrees names.immediate_names code.immediate_opcode decoding.with_immediate _ with_immediate_agrees (
      by_code_agrees names.load_names code.load_opcode decoding.load _ load_agrees (
      by_code_agrees names.store_names code.store_opcode decoding.store _ store_agrees (
      by_code_agrees names.linked_names code.linked_opcode decoding.linked _ linked_agrees nothing))))))))

decoded_agrees : (word : ℕ) → Agrees word (decoded word)
unfolding decoded
decoded_agrees word =
    where_same _ 0x00 (special_agrees word) (
    where_same _ 0x01 (regimm_agrees word) (
    where_same _ 0x1c (special2_agrees word) (others_agrees word)))

-- the operation of a code: the first by itself, so that the line after it is read for each of the others

shift_coded : (op : ShiftOp) (word : ℕ) → special_of (code.shift_funct op) word ≡ decoding.shift op word
shift_coded ShiftOp.Sll word = refl
shift_coded op word = refl

shift_variable_coded : (op : ShiftVariableOp) (word : ℕ) → special_of (code.shift_variable_funct op) word ≡ decoding.shift_variable op word
shift_variable_coded ShiftVariableOp.Sllv word = refl
shift_variable_coded op word = refl

register_coded : (op : RegisterOp) (word : ℕ) → special_of (code.register_funct op) word ≡ decoding.three_registers op word
register_coded RegisterOp.Movz word = refl
register_coded op word = refl

move_from_coded : (op : MoveFromOp) (word : ℕ) → special_of (code.move_from_funct op) word ≡ decoding.move_from op word
move_from_coded MoveFromOp.Mfhi word = refl
move_from_coded op word = refl

move_to_coded : (op : MoveToOp) (word : ℕ) → special_of (code.move_to_funct op) word ≡ decoding.move_to op word
move_to_coded MoveToOp.Mthi word = refl
move_to_coded op word = refl

product_coded : (op : ProductOp) (word : ℕ) → special_of (code.product_funct op) word ≡ decoding.product op word
product_coded ProductOp.Mult word = refl
product_coded op word = refl

trap_coded : (op : TrapOp) (word : ℕ) → special_of (code.trap_funct op) word ≡ decoding.trap op word
trap_coded TrapOp.Tge word = refl
trap_coded op word = refl

branch_regimm_coded : (op : BranchRegimmOp) (word : ℕ) → regimm_of (code.branch_regimm_rt op) word ≡ decoding.branch_regimm op word
branch_regimm_coded BranchRegimmOp.Bltz word = refl
branch_regimm_coded op word = refl

trap_immediate_coded : (op : TrapImmediateOp) (word : ℕ) → regimm_of (code.trap_immediate_rt op) word ≡ decoding.trap_immediate op word
trap_immediate_coded TrapImmediateOp.Tgei word = refl
trap_immediate_coded op word = refl

accumulate_coded : (op : AccumulateOp) (word : ℕ) → special2_of (code.accumulate_funct op) word ≡ decoding.accumulate op word
accumulate_coded AccumulateOp.Madd word = refl
accumulate_coded op word = refl

count_coded : (op : CountOp) (word : ℕ) → special2_of (code.count_funct op) word ≡ decoding.count op word
count_coded CountOp.Clz word = refl
count_coded op word = refl

jump_coded : (op : JumpOp) (word : ℕ) → of_opcode (code.jump_opcode op) word ≡ decoding.jump op word
jump_coded JumpOp.J word = refl
jump_coded op word = refl

branch_coded : (op : BranchOp) (word : ℕ) → of_opcode (code.branch_opcode op) word ≡ decoding.branch op word
branch_coded BranchOp.Beq word = refl
branch_coded op word = refl

branch_zero_coded : (op : BranchZeroOp) (word : ℕ) → of_opcode (code.branch_zero_opcode op) word ≡ decoding.branch_zero op word
branch_zero_coded BranchZeroOp.Blez word = refl
branch_zero_coded op word = refl

immediate_coded : (op : ImmediateOp) (word : ℕ) → of_opcode (code.immediate_opcode op) word ≡ decoding.with_immediate op word
immediate_coded ImmediateOp.Addi word = refl
immediate_coded op word = refl

load_coded : (op : LoadOp) (word : ℕ) → of_opcode (code.load_opcode op) word ≡ decoding.load op word
load_coded LoadOp.Lb word = refl
load_coded op word = refl

store_coded : (op : StoreOp) (word : ℕ) → of_opcode (code.store_opcode op) word ≡ decoding.store op word
store_coded StoreOp.Sb word = refl
store_coded op word = refl

linked_coded : (op : LinkedOp) (word : ℕ) → of_opcode (code.linked_opcode op) word ≡ decoding.linked op word
linked_coded LinkedOp.Ll word = refl
linked_coded op word = refl

-- from the word's opcode, and its other code

module _ (word : ℕ) {insn : Insn} where
  by_opcode : {opcode : ℕ} → word / 2 ^ 26 ≡ opcode → of_opcode opcode word ≡ Some insn → decoded word ≡ Some insn
  unfolding decoded
  by_opcode o e = ap (λ n. of_opcode n word) o ∙ e

  special : {funct : ℕ} → word / 2 ^ 26 ≡ 0x00 → word % 2 ^ 6 ≡ funct → special_of funct word ≡ Some insn → decoded word ≡ Some insn
  special o f e = by_opcode o (ap (λ n. special_of n word) f ∙ e)

  regimm : {rt : ℕ} → word / 2 ^ 26 ≡ 0x01 → rt_of word ≡ rt → regimm_of rt word ≡ Some insn → decoded word ≡ Some insn
  regimm o rt e = by_opcode o (ap (λ n. regimm_of n word) rt ∙ e)

  special2 : {funct : ℕ} → word / 2 ^ 26 ≡ 0x1c → word % 2 ^ 6 ≡ funct → special2_of funct word ≡ Some insn → decoded word ≡ Some insn
  special2 o f e = by_opcode o (ap (λ n. special2_of n word) f ∙ e)

is_decoded : (word : ℕ) (insn : Insn) → StandsFor word insn → decoded word ≡ Some insn
is_decoded word (Insn.Shift op rd rt sa) h = special word h.opcode_is h.funct_is (shift_coded op word ∙ rw (h.rs_is, h.rd_is, h.rt_is, h.sa_is))
is_decoded word (Insn.ShiftVariable op rd rt rs) h = special word h.opcode_is h.funct_is (shift_variable_coded op word ∙ rw (h.sa_is, h.rd_is, h.rt_is, h.rs_is))
is_decoded word (Insn.ThreeRegisters op rd rs rt) h = special word h.opcode_is h.funct_is (register_coded op word ∙ rw (h.sa_is, h.rd_is, h.rs_is, h.rt_is))
is_decoded word (Insn.Multiply rd rs rt) h = special2 word h.opcode_is h.funct_is (rw (h.sa_is, h.rd_is, h.rs_is, h.rt_is))
is_decoded word (Insn.JumpRegister rs) h = special word h.opcode_is h.funct_is (rw (h.rt_is, h.rd_is, h.rs_is))
is_decoded word (Insn.JumpLinkRegister rd rs) h = special word h.opcode_is h.funct_is (rw (h.rt_is, h.rd_is, h.rs_is))
is_decoded word (Insn.Syscall code) h = special word h.opcode_is h.funct_is (rw h.code_is)
is_decoded word (Insn.Break code) h = special word h.opcode_is h.funct_is (rw h.code_is)
is_decoded word Insn.Sync h = special word h.opcode_is h.funct_is (rw (h.rs_is, h.rt_is, h.rd_is))
is_decoded word (Insn.MoveFrom op rd) h = special word h.opcode_is h.funct_is (move_from_coded op word ∙ rw (h.rs_is, h.rt_is, h.sa_is, h.rd_is))
is_decoded word (Insn.MoveTo op rs) h = special word h.opcode_is h.funct_is (move_to_coded op word ∙ rw (h.rt_is, h.rd_is, h.sa_is, h.rs_is))
is_decoded word (Insn.Product op rs rt) h = special word h.opcode_is h.funct_is (product_coded op word ∙ rw (h.rd_is, h.sa_is, h.rs_is, h.rt_is))
is_decoded word (Insn.Accumulate op rs rt) h = special2 word h.opcode_is h.funct_is (accumulate_coded op word ∙ rw (h.rd_is, h.sa_is, h.rs_is, h.rt_is))
is_decoded word (Insn.Count op rd rs) h = special2 word h.opcode_is h.funct_is (count_coded op word ∙ rw (h.rt_is, h.rd_is, h.sa_is, h.rs_is, eq-eqb rd rd refl))
is_decoded word (Insn.Trap op rs rt code) h = special word h.opcode_is h.funct_is (trap_coded op word ∙ rw (h.rs_is, h.rt_is, h.code_is))
is_decoded word (Insn.TrapImmediate op rs immediate) h = regimm word h.opcode_is h.rt_is (trap_immediate_coded op word ∙ rw (h.rs_is, h.low_is))
is_decoded word (Insn.Jump op index) h = by_opcode word h.opcode_is (jump_coded op word ∙ rw h.index_is)
is_decoded word (Insn.Branch op rs rt offset) h = by_opcode word h.opcode_is (branch_coded op word ∙ rw (h.rs_is, h.rt_is, h.low_is))
is_decoded word (Insn.BranchZero op rs offset) h = by_opcode word h.opcode_is (branch_zero_coded op word ∙ rw (h.rt_is, h.rs_is, h.low_is))
is_decoded word (Insn.BranchRegimm op rs offset) h = regimm word h.opcode_is h.rt_is (branch_regimm_coded op word ∙ rw (h.rs_is, h.low_is))
is_decoded word (Insn.WithImmediate op rt rs immediate) h = by_opcode word h.opcode_is (immediate_coded op word ∙ rw (h.rt_is, h.rs_is, h.low_is))
is_decoded word (Insn.LoadUpper rt immediate) h = by_opcode word h.opcode_is (rw (h.rs_is, h.rt_is, h.low_is))
is_decoded word (Insn.Load op rt base offset) h = by_opcode word h.opcode_is (load_coded op word ∙ rw (h.rt_is, h.rs_is, h.low_is))
is_decoded word (Insn.Store op rt base offset) h = by_opcode word h.opcode_is (store_coded op word ∙ rw (h.rt_is, h.rs_is, h.low_is))
is_decoded word (Insn.Linked op rt base offset) h = by_opcode word h.opcode_is (linked_coded op word ∙ rw (h.rt_is, h.rs_is, h.low_is))
is_decoded word (Insn.Prefetch hint base offset) h = by_opcode word h.opcode_is (rw (h.rt_is, h.rs_is, h.low_is))

-- a word is decoded to an instruction exactly where it stands for that one
pub follows_the_table : (word : ℕ) (insn : Insn) → (decoded word ≡ Some insn) ↔ StandsFor word insn
follows_the_table word insn = ((decoded_agrees word).stands insn, is_decoded word insn)

-- a word stands for one instruction at most
pub one_instruction : (word : ℕ) (insn other : Insn) → StandsFor word insn → StandsFor word other → insn ≡ other
one_instruction word insn other a b = same_Some insn other (sym (is_decoded word insn a) ∙ is_decoded word other b)
