-- What the instructions compute: one line a mnemonic (MD00086, the "Operation" of its entry).
use Rattle.std.specs.Prelude.{ℕ, ◌+◌, ◌-◌, ◌*◌, ◌/◌, ◌%◌, ◌^◌, ◌==◌, nat_lt, bit_and, bit_or, bit_xor, Bool, true}
use Rattle.std.specs.Prelude.{false, not, ◌||◌, if◌then◌else◌, Result, Ok, Err, int_lt}
use Rattle.std.specs.Int.{w32, bit_not, leading_zeros, leading_ones}
use Rattle.brd_word.specs.Words.{signed, sign_extended16, sum_overflows, difference_overflows, signed_product}
use Rattle.brd_word.specs.Words.{unsigned_product, Quotient, signed_quotient, unsigned_quotient}
use Rattle.brd_exec.specs.declared.outcome.ExceptionCode.{ExceptionCode}
use Rattle.brd_isa.specs.declared.instruction.{ShiftOp.ShiftOp, ShiftVariableOp.ShiftVariableOp, RegisterOp.RegisterOp}
use Rattle.brd_isa.specs.declared.instruction.{ImmediateOp.ImmediateOp, ProductOp.ProductOp, AccumulateOp.AccumulateOp}
use Rattle.brd_isa.specs.declared.instruction.{CountOp.CountOp, TrapOp.TrapOp, TrapImmediateOp.TrapImmediateOp}
use Rattle.brd_isa.specs.declared.instruction.{BranchOp.BranchOp, BranchZeroOp.BranchZeroOp}
use Rattle.brd_isa.specs.declared.instruction.BranchRegimmOp.{BranchRegimmOp}

-- whether the sign bit is set
abbrev pub is_negative : ℕ → Bool
is_negative word = not (nat_lt word (2 ^ 31))

-- whether one word is below another, read signed
abbrev pub is_below : ℕ → ℕ → Bool
is_below a b = int_lt (signed a) (signed b)

abbrev pub shifted_left : ℕ → ℕ → ℕ
shifted_left word amount = word * 2 ^ amount % 2 ^ 32

abbrev pub shifted_right : ℕ → ℕ → ℕ
shifted_right word amount = word / 2 ^ amount

-- ones come in where the sign bit is set: the complement is shifted, and turned back
abbrev pub shifted_with_sign : ℕ → ℕ → ℕ
shifted_with_sign word amount =
    if is_negative word then bit_not w32 (shifted_right (bit_not w32 word) amount) else shifted_right word amount

abbrev pub sum_of : ℕ → ℕ → ℕ
sum_of a b = (a + b) % 2 ^ 32

abbrev pub difference_of : ℕ → ℕ → ℕ
difference_of a b = (a + (2 ^ 32 - b)) % 2 ^ 32

-- a word, unless there was an overflow
abbrev pub unless_overflow : Bool → ℕ → Result ℕ ExceptionCode
unless_overflow overflows word = if overflows then Err ExceptionCode.Ov else Ok word

-- 1 or 0
abbrev pub one_if : Bool → ℕ
one_if holds = if holds then 1 else 0

-- rd of `op rd, rt, sa`, from rt and sa
abbrev pub shift_gives : ShiftOp → ℕ → ℕ → ℕ
shift_gives ShiftOp.Sll word amount = shifted_left word amount
shift_gives ShiftOp.Srl word amount = shifted_right word amount
shift_gives ShiftOp.Sra word amount = shifted_with_sign word amount

-- rd of `op rd, rt, rs`, from rt and the low five bits of rs
abbrev pub shift_variable_gives : ShiftVariableOp → ℕ → ℕ → ℕ
shift_variable_gives ShiftVariableOp.Sllv word amount = shifted_left word amount
shift_variable_gives ShiftVariableOp.Srlv word amount = shifted_right word amount
shift_variable_gives ShiftVariableOp.Srav word amount = shifted_with_sign word amount

-- What an operation gives for a register. Whether it may raise an exception doesn't depend on its operands.
pub data Given : Type 0 where
  Always : ℕ → Given  -- this word
  MayRaise : Result ℕ ExceptionCode → Given  -- this word, or an exception

-- rd of `op rd, rs, rt`, from what it was, rs and rt
abbrev pub register_gives : RegisterOp → ℕ → ℕ → ℕ → Given
register_gives RegisterOp.Movz old a b = Always (if b == 0 then a else old)
register_gives RegisterOp.Movn old a b = Always (if b == 0 then old else a)
register_gives RegisterOp.Add old a b = MayRaise (unless_overflow (sum_overflows a b) (sum_of a b))
register_gives RegisterOp.Addu old a b = Always (sum_of a b)
register_gives RegisterOp.Sub old a b = MayRaise (unless_overflow (difference_overflows a b) (difference_of a b))
register_gives RegisterOp.Subu old a b = Always (difference_of a b)
register_gives RegisterOp.And old a b = Always (bit_and a b)
register_gives RegisterOp.Or old a b = Always (bit_or a b)
register_gives RegisterOp.Xor old a b = Always (bit_xor a b)
register_gives RegisterOp.Nor old a b = Always (bit_not w32 (bit_or a b))
register_gives RegisterOp.Slt old a b = Always (one_if (is_below a b))
register_gives RegisterOp.Sltu old a b = Always (one_if (nat_lt a b))

-- rt of `op rt, rs, immediate`, from rs and the immediate
abbrev pub immediate_gives : ImmediateOp → ℕ → ℕ → Given
immediate_gives ImmediateOp.Addi a immediate =
    MayRaise (unless_overflow (sum_overflows a (sign_extended16 immediate)) (sum_of a (sign_extended16 immediate)))
immediate_gives ImmediateOp.Addiu a immediate = Always (sum_of a (sign_extended16 immediate))
immediate_gives ImmediateOp.Slti a immediate = Always (one_if (is_below a (sign_extended16 immediate)))
immediate_gives ImmediateOp.Sltiu a immediate = Always (one_if (nat_lt a (sign_extended16 immediate)))
immediate_gives ImmediateOp.Andi a immediate = Always (bit_and a immediate)
immediate_gives ImmediateOp.Ori a immediate = Always (bit_or a immediate)
immediate_gives ImmediateOp.Xori a immediate = Always (bit_xor a immediate)

-- MUL: the low word of the product; HI and LO stay (own choice)
abbrev pub multiply_gives : ℕ → ℕ → ℕ
multiply_gives a b = signed_product a b % 2 ^ 32

-- a quotient in LO and the remainder in HI, as one number of 64 bits
abbrev pub in_hi_lo : Quotient → ℕ
in_hi_lo q = q.remainder * 2 ^ 32 + q.quotient

-- HI and LO after `op rs, rt`, as one number of 64 bits
abbrev pub product_gives : ProductOp → ℕ → ℕ → ℕ
product_gives ProductOp.Mult a b = signed_product a b
product_gives ProductOp.Multu a b = unsigned_product a b
product_gives ProductOp.Div a b = in_hi_lo (signed_quotient a b)
product_gives ProductOp.Divu a b = in_hi_lo (unsigned_quotient a b)

-- HI and LO after `op rs, rt`, from what they were, rs and rt, modulo 2 ^ 64
abbrev pub accumulate_gives : AccumulateOp → ℕ → ℕ → ℕ → ℕ
accumulate_gives AccumulateOp.Madd old a b = (old + signed_product a b) % 2 ^ 64
accumulate_gives AccumulateOp.Maddu old a b = (old + unsigned_product a b) % 2 ^ 64
accumulate_gives AccumulateOp.Msub old a b = (old + (2 ^ 64 - signed_product a b)) % 2 ^ 64
accumulate_gives AccumulateOp.Msubu old a b = (old + (2 ^ 64 - unsigned_product a b)) % 2 ^ 64

-- rd of `op rd, rs`, from rs: 0 to 32
abbrev pub count_gives : CountOp → ℕ → ℕ
count_gives CountOp.Clz word = leading_zeros w32 word
count_gives CountOp.Clo word = leading_ones w32 word

-- whether `op rs, rt` traps
abbrev pub traps : TrapOp → ℕ → ℕ → Bool
traps TrapOp.Tge a b = not (is_below a b)
traps TrapOp.Tgeu a b = not (nat_lt a b)
traps TrapOp.Tlt a b = is_below a b
traps TrapOp.Tltu a b = nat_lt a b
traps TrapOp.Teq a b = a == b
traps TrapOp.Tne a b = not (a == b)

-- the same comparison on registers
abbrev pub trap_of : TrapImmediateOp → TrapOp
trap_of TrapImmediateOp.Tgei = TrapOp.Tge
trap_of TrapImmediateOp.Tgeiu = TrapOp.Tgeu
trap_of TrapImmediateOp.Tlti = TrapOp.Tlt
trap_of TrapImmediateOp.Tltiu = TrapOp.Tltu
trap_of TrapImmediateOp.Teqi = TrapOp.Teq
trap_of TrapImmediateOp.Tnei = TrapOp.Tne

-- whether `op rs, immediate` traps: the immediate is sign-extended, also where it is read unsigned
abbrev pub traps_immediate : TrapImmediateOp → ℕ → ℕ → Bool
traps_immediate op a immediate = traps (trap_of op) a (sign_extended16 immediate)

-- whether `op rs, rt, target` is taken, and whether it is likely
abbrev pub is_taken : BranchOp → ℕ → ℕ → Bool
is_taken BranchOp.Beq a b = a == b
is_taken BranchOp.Bne a b = not (a == b)
is_taken BranchOp.Beql a b = a == b
is_taken BranchOp.Bnel a b = not (a == b)

abbrev pub is_likely : BranchOp → Bool
is_likely BranchOp.Beq = false
is_likely BranchOp.Bne = false
is_likely BranchOp.Beql = true
is_likely BranchOp.Bnel = true

-- whether `op rs, target` is taken, and whether it is likely
abbrev pub is_zero_branch_taken : BranchZeroOp → ℕ → Bool
is_zero_branch_taken BranchZeroOp.Blez a = is_negative a || (a == 0)
is_zero_branch_taken BranchZeroOp.Bgtz a = not (is_negative a || (a == 0))
is_zero_branch_taken BranchZeroOp.Blezl a = is_negative a || (a == 0)
is_zero_branch_taken BranchZeroOp.Bgtzl a = not (is_negative a || (a == 0))

abbrev pub is_zero_branch_likely : BranchZeroOp → Bool
is_zero_branch_likely BranchZeroOp.Blez = false
is_zero_branch_likely BranchZeroOp.Bgtz = false
is_zero_branch_likely BranchZeroOp.Blezl = true
is_zero_branch_likely BranchZeroOp.Bgtzl = true

-- whether `op rs, target` under REGIMM is taken, and whether it is likely
abbrev pub is_regimm_branch_taken : BranchRegimmOp → ℕ → Bool
is_regimm_branch_taken BranchRegimmOp.Bltz a = is_negative a
is_regimm_branch_taken BranchRegimmOp.Bgez a = not (is_negative a)
is_regimm_branch_taken BranchRegimmOp.Bltzl a = is_negative a
is_regimm_branch_taken BranchRegimmOp.Bgezl a = not (is_negative a)
is_regimm_branch_taken BranchRegimmOp.Bltzal a = is_negative a
is_regimm_branch_taken BranchRegimmOp.Bgezal a = not (is_negative a)
is_regimm_branch_taken BranchRegimmOp.Bltzall a = is_negative a
is_regimm_branch_taken BranchRegimmOp.Bgezall a = not (is_negative a)

abbrev pub is_regimm_branch_likely : BranchRegimmOp → Bool
is_regimm_branch_likely BranchRegimmOp.Bltz = false
is_regimm_branch_likely BranchRegimmOp.Bgez = false
is_regimm_branch_likely BranchRegimmOp.Bltzl = true
is_regimm_branch_likely BranchRegimmOp.Bgezl = true
is_regimm_branch_likely BranchRegimmOp.Bltzal = false
is_regimm_branch_likely BranchRegimmOp.Bgezal = false
is_regimm_branch_likely BranchRegimmOp.Bltzall = true
is_regimm_branch_likely BranchRegimmOp.Bgezall = true
