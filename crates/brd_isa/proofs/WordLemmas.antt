-- A word is known by its fields.
use Rattle.std.proofs.Common.{◌≡◌, ℕ, ◌/◌, ◌^◌, arith}
use Rattle.brd_isa.specs.declared.instruction.Insn.{Insn}
use Rattle.brd_isa.specs.Fields.{RType, AnySaType, IType, JType, LongCodeType, ShortCodeType}
use Rattle.brd_isa.specs.Table.{StandsFor, IgnoresSa}
use Rattle.brd_isa.specs.Decoding.{sa_of}

r_type : (v w opcode rs rt rd sa funct : ℕ) → RType v opcode rs rt rd sa funct → RType w opcode rs rt rd sa funct → v ≡ w
r_type v w opcode rs rt rd sa funct a b =
    let upper : v / 2 ^ 21 ≡ w / 2 ^ 21 = omega (arith, a.opcode_is, b.opcode_is, a.rs_is, b.rs_is) in
    let middle : v / 2 ^ 16 ≡ w / 2 ^ 16 = omega (arith, a.rt_is, b.rt_is) in
    let lower : v / 2 ^ 11 ≡ w / 2 ^ 11 = omega (arith, a.rd_is, b.rd_is) in
    let last : v / 2 ^ 6 ≡ w / 2 ^ 6 = omega (arith, a.sa_is, b.sa_is) in
    omega (arith, a.funct_is, b.funct_is)

i_type : (v w opcode rs rt low : ℕ) → IType v opcode rs rt low → IType w opcode rs rt low → v ≡ w
i_type v w opcode rs rt low a b =
    let upper : v / 2 ^ 21 ≡ w / 2 ^ 21 = omega (arith, a.opcode_is, b.opcode_is, a.rs_is, b.rs_is) in
    let middle : v / 2 ^ 16 ≡ w / 2 ^ 16 = omega (arith, a.rt_is, b.rt_is) in
    omega (arith, a.low_is, b.low_is)

any_sa_type : (v w opcode rs rt rd funct : ℕ) → AnySaType v opcode rs rt rd funct → AnySaType w opcode rs rt rd funct →
    sa_of v ≡ sa_of w → v ≡ w
any_sa_type v w opcode rs rt rd funct a b sa =
    let upper : v / 2 ^ 21 ≡ w / 2 ^ 21 = omega (arith, a.opcode_is, b.opcode_is, a.rs_is, b.rs_is) in
    let middle : v / 2 ^ 16 ≡ w / 2 ^ 16 = omega (arith, a.rt_is, b.rt_is) in
    let lower : v / 2 ^ 11 ≡ w / 2 ^ 11 = omega (arith, a.rd_is, b.rd_is) in
    let last : v / 2 ^ 6 ≡ w / 2 ^ 6 = omega arith in
    omega (arith, a.funct_is, b.funct_is)

j_type : (v w opcode index : ℕ) → JType v opcode index → JType w opcode index → v ≡ w
j_type v w opcode index a b = omega (arith, a.opcode_is, b.opcode_is, a.index_is, b.index_is)

long_code_type : (v w opcode code funct : ℕ) → LongCodeType v opcode code funct → LongCodeType w opcode code funct → v ≡ w
long_code_type v w opcode code funct a b =
    let upper : v / 2 ^ 6 ≡ w / 2 ^ 6 = omega (arith, a.opcode_is, b.opcode_is, a.code_is, b.code_is) in
    omega (arith, a.funct_is, b.funct_is)

short_code_type : (v w opcode rs rt code funct : ℕ) → ShortCodeType v opcode rs rt code funct → ShortCodeType w opcode rs rt code funct → v ≡ w
short_code_type v w opcode rs rt code funct a b =
    let upper : v / 2 ^ 21 ≡ w / 2 ^ 21 = omega (arith, a.opcode_is, b.opcode_is, a.rs_is, b.rs_is) in
    let middle : v / 2 ^ 16 ≡ w / 2 ^ 16 = omega (arith, a.rt_is, b.rt_is) in
    let lower : v / 2 ^ 6 ≡ w / 2 ^ 6 = omega (arith, a.code_is, b.code_is) in
    omega (arith, a.funct_is, b.funct_is)

pub one_word : (v w : ℕ) (insn : Insn) → StandsFor v insn → StandsFor w insn → (IgnoresSa insn → sa_of v ≡ sa_of w) → v ≡ w
one_word v w (Insn.Shift op rd rt sa) a b s = r_type v w _ _ _ _ _ _ a b
one_word v w (Insn.ShiftVariable op rd rt rs) a b s = r_type v w _ _ _ _ _ _ a b
one_word v w (Insn.ThreeRegisters op rd rs rt) a b s = r_type v w _ _ _ _ _ _ a b
one_word v w (Insn.Multiply rd rs rt) a b s = r_type v w _ _ _ _ _ _ a b
one_word v w (Insn.JumpRegister rs) a b s = any_sa_type v w _ _ _ _ _ a b (s tt)
one_word v w (Insn.JumpLinkRegister rd rs) a b s = any_sa_type v w _ _ _ _ _ a b (s tt)
one_word v w (Insn.Syscall code) a b s = long_code_type v w _ _ _ a b
one_word v w (Insn.Break code) a b s = long_code_type v w _ _ _ a b
one_word v w Insn.Sync a b s = any_sa_type v w _ _ _ _ _ a b (s tt)
one_word v w (Insn.MoveFrom op rd) a b s = r_type v w _ _ _ _ _ _ a b
one_word v w (Insn.MoveTo op rs) a b s = r_type v w _ _ _ _ _ _ a b
one_word v w (Insn.Product op rs rt) a b s = r_type v w _ _ _ _ _ _ a b
one_word v w (Insn.Accumulate op rs rt) a b s = r_type v w _ _ _ _ _ _ a b
one_word v w (Insn.Count op rd rs) a b s = r_type v w _ _ _ _ _ _ a b
one_word v w (Insn.Trap op rs rt code) a b s = short_code_type v w _ _ _ _ _ a b
one_word v w (Insn.TrapImmediate op rs immediate) a b s = i_type v w _ _ _ _ a b
one_word v w (Insn.Jump op index) a b s = j_type v w _ _ a b
one_word v w (Insn.Branch op rs rt offset) a b s = i_type v w _ _ _ _ a b
one_word v w (Insn.BranchZero op rs offset) a b s = i_type v w _ _ _ _ a b
one_word v w (Insn.BranchRegimm op rs offset) a b s = i_type v w _ _ _ _ a b
one_word v w (Insn.WithImmediate op rt rs immediate) a b s = i_type v w _ _ _ _ a b
one_word v w (Insn.LoadUpper rt immediate) a b s = i_type v w _ _ _ _ a b
one_word v w (Insn.Load op rt base offset) a b s = i_type v w _ _ _ _ a b
one_word v w (Insn.Store op rt base offset) a b s = i_type v w _ _ _ _ a b
one_word v w (Insn.Linked op rt base offset) a b s = i_type v w _ _ _ _ a b
one_word v w (Insn.Prefetch hint base offset) a b s = i_type v w _ _ _ _ a b
