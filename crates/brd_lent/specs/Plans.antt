-- Only private contracts name this: what an entry does in a context, a line each. It is what its instruction does,
-- with the immediate that is extended already.
use Rattle.std.specs.Prelude.{◌≡◌, ℕ, ◌%◌, ◌^◌, ◌==◌, nat_lt, bit_and}
use Rattle.std.specs.Prelude.{bit_or, bit_xor, Bool, true, false, if◌then◌else◌}
use Rattle.std.specs.Prelude.{Option, Some, None}
use Rattle.std.specs.Int.{w32, bit_not}
use Rattle.brd_isa.specs.declared.instruction.{ShiftOp.ShiftOp, ShiftVariableOp.ShiftVariableOp, ProductOp.ProductOp}
use Rattle.brd_isa.specs.declared.instruction.{AccumulateOp.AccumulateOp, CountOp.CountOp}
use Rattle.brd_exec.specs.State.{State, read, write_product, product_in, advanced, with_register}
use Rattle.brd_exec.specs.Values.{shift_gives, shift_variable_gives, multiply_gives, product_gives, accumulate_gives}
use Rattle.brd_exec.specs.Values.{count_gives, sum_of, difference_of, one_if, is_below}
use Rattle.brd_entries.specs.declared.entry.CodeEntry.{CodeEntry}

-- the context after it; None of what isn't local, and of branches and jumps, which are left to others
abbrev pub planned : CodeEntry → State → Option State
planned CodeEntry.Slow s = None
planned CodeEntry.Nop s = Some (advanced s)
planned (CodeEntry.Sll rd rt sa) s = Some (with_register s rd (shift_gives ShiftOp.Sll (read s rt) sa))
planned (CodeEntry.Srl rd rt sa) s = Some (with_register s rd (shift_gives ShiftOp.Srl (read s rt) sa))
planned (CodeEntry.Sra rd rt sa) s = Some (with_register s rd (shift_gives ShiftOp.Sra (read s rt) sa))
planned (CodeEntry.Sllv rd rt rs) s =
    Some (with_register s rd (shift_variable_gives ShiftVariableOp.Sllv (read s rt) (read s rs % 2 ^ 5)))
planned (CodeEntry.Srlv rd rt rs) s =
    Some (with_register s rd (shift_variable_gives ShiftVariableOp.Srlv (read s rt) (read s rs % 2 ^ 5)))
planned (CodeEntry.Srav rd rt rs) s =
    Some (with_register s rd (shift_variable_gives ShiftVariableOp.Srav (read s rt) (read s rs % 2 ^ 5)))
planned (CodeEntry.Movz rd rs rt) s = Some (with_register s rd (if read s rt == 0 then read s rs else read s rd))
planned (CodeEntry.Movn rd rs rt) s = Some (with_register s rd (if read s rt == 0 then read s rd else read s rs))
planned (CodeEntry.Add rd rs rt) s = None
planned (CodeEntry.Addu rd rs rt) s = Some (with_register s rd (sum_of (read s rs) (read s rt)))
planned (CodeEntry.Sub rd rs rt) s = None
planned (CodeEntry.Subu rd rs rt) s = Some (with_register s rd (difference_of (read s rs) (read s rt)))
planned (CodeEntry.And rd rs rt) s = Some (with_register s rd (bit_and (read s rs) (read s rt)))
planned (CodeEntry.Or rd rs rt) s = Some (with_register s rd (bit_or (read s rs) (read s rt)))
planned (CodeEntry.Xor rd rs rt) s = Some (with_register s rd (bit_xor (read s rs) (read s rt)))
planned (CodeEntry.Nor rd rs rt) s = Some (with_register s rd (bit_not w32 (bit_or (read s rs) (read s rt))))
planned (CodeEntry.Slt rd rs rt) s = Some (with_register s rd (one_if (is_below (read s rs) (read s rt))))
planned (CodeEntry.Sltu rd rs rt) s = Some (with_register s rd (one_if (nat_lt (read s rs) (read s rt))))
planned (CodeEntry.Mul rd rs rt) s = Some (with_register s rd (multiply_gives (read s rs) (read s rt)))
planned (CodeEntry.Addi rt rs immediate) s = None
planned (CodeEntry.Addiu rt rs immediate) s = Some (with_register s rt (sum_of (read s rs) immediate))
planned (CodeEntry.Slti rt rs immediate) s = Some (with_register s rt (one_if (is_below (read s rs) immediate)))
planned (CodeEntry.Sltiu rt rs immediate) s = Some (with_register s rt (one_if (nat_lt (read s rs) immediate)))
planned (CodeEntry.Andi rt rs immediate) s = Some (with_register s rt (bit_and (read s rs) immediate))
planned (CodeEntry.Ori rt rs immediate) s = Some (with_register s rt (bit_or (read s rs) immediate))
planned (CodeEntry.Xori rt rs immediate) s = Some (with_register s rt (bit_xor (read s rs) immediate))
planned (CodeEntry.Lui rt word) s = Some (with_register s rt (word))
planned (CodeEntry.Mfhi rd) s = Some (with_register s rd (s.hi))
planned (CodeEntry.Mflo rd) s = Some (with_register s rd (s.lo))
planned (CodeEntry.Mthi rs) s = Some (record (advanced s) { hi = read s rs })
planned (CodeEntry.Mtlo rs) s = Some (record (advanced s) { lo = read s rs })
planned (CodeEntry.Mult rs rt) s =
    Some (write_product (advanced s) (product_gives ProductOp.Mult (read s rs) (read s rt)))
planned (CodeEntry.Multu rs rt) s =
    Some (write_product (advanced s) (product_gives ProductOp.Multu (read s rs) (read s rt)))
planned (CodeEntry.Div rs rt) s =
    Some (write_product (advanced s) (product_gives ProductOp.Div (read s rs) (read s rt)))
planned (CodeEntry.Divu rs rt) s =
    Some (write_product (advanced s) (product_gives ProductOp.Divu (read s rs) (read s rt)))
planned (CodeEntry.Madd rs rt) s =
    Some (write_product (advanced s) (accumulate_gives AccumulateOp.Madd (product_in s) (read s rs) (read s rt)))
planned (CodeEntry.Maddu rs rt) s =
    Some (write_product (advanced s) (accumulate_gives AccumulateOp.Maddu (product_in s) (read s rs) (read s rt)))
planned (CodeEntry.Msub rs rt) s =
    Some (write_product (advanced s) (accumulate_gives AccumulateOp.Msub (product_in s) (read s rs) (read s rt)))
planned (CodeEntry.Msubu rs rt) s =
    Some (write_product (advanced s) (accumulate_gives AccumulateOp.Msubu (product_in s) (read s rs) (read s rt)))
planned (CodeEntry.Clz rd rs) s = Some (with_register s rd (count_gives CountOp.Clz (read s rs)))
planned (CodeEntry.Clo rd rs) s = Some (with_register s rd (count_gives CountOp.Clo (read s rs)))
planned (CodeEntry.Lb rt base offset) s = None
planned (CodeEntry.Lh rt base offset) s = None
planned (CodeEntry.Lwl rt base offset) s = None
planned (CodeEntry.Lw rt base offset) s = None
planned (CodeEntry.Lbu rt base offset) s = None
planned (CodeEntry.Lhu rt base offset) s = None
planned (CodeEntry.Lwr rt base offset) s = None
planned (CodeEntry.Sb rt base offset) s = None
planned (CodeEntry.Sh rt base offset) s = None
planned (CodeEntry.Swl rt base offset) s = None
planned (CodeEntry.Sw rt base offset) s = None
planned (CodeEntry.Swr rt base offset) s = None
planned (CodeEntry.J index) s = None
planned (CodeEntry.Jal index) s = None
planned (CodeEntry.Jr rs) s = None
planned (CodeEntry.Jalr rd rs) s = None
planned (CodeEntry.Beq rs rt reach) s = None
planned (CodeEntry.Bne rs rt reach) s = None
planned (CodeEntry.Beql rs rt reach) s = None
planned (CodeEntry.Bnel rs rt reach) s = None
planned (CodeEntry.Blez rs reach) s = None
planned (CodeEntry.Bgtz rs reach) s = None
planned (CodeEntry.Blezl rs reach) s = None
planned (CodeEntry.Bgtzl rs reach) s = None
planned (CodeEntry.Bltz rs reach) s = None
planned (CodeEntry.Bgez rs reach) s = None
planned (CodeEntry.Bltzl rs reach) s = None
planned (CodeEntry.Bgezl rs reach) s = None
planned (CodeEntry.Bltzal rs reach) s = None
planned (CodeEntry.Bgezal rs reach) s = None
planned (CodeEntry.Bltzall rs reach) s = None
planned (CodeEntry.Bgezall rs reach) s = None

-- it was done, and this context is there; or it is left to others, and nothing has changed
abbrev pub Acts : Option State → State → Bool → State → Type 0
Acts None old result new = (result ≡ false) × (new ≡ old)
Acts (Some after) old result new = (result ≡ true) × (new ≡ after)
