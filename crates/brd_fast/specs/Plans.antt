-- Only private contracts name this: what an entry does, as far as the context tells, one line an entry. It is what its
-- instruction does, with the immediate or the offset that is extended already.
use Rattle.std.specs.Prelude.{ℕ, ◌+◌, ◌%◌, ◌^◌, ◌==◌, nat_lt, bit_and, bit_or, bit_xor, Bool, true, false, not}
use Rattle.std.specs.Prelude.{◌≡◌, if◌then◌else◌, None}
use Rattle.std.specs.Int.{w32, bit_not}
use Rattle.brd_isa.specs.declared.instruction.{ShiftOp.ShiftOp, ShiftVariableOp.ShiftVariableOp, ProductOp.ProductOp}
use Rattle.brd_isa.specs.declared.instruction.{AccumulateOp.AccumulateOp, CountOp.CountOp, LoadOp.LoadOp}
use Rattle.brd_isa.specs.declared.instruction.{StoreOp.StoreOp, BranchZeroOp.BranchZeroOp}
use Rattle.brd_isa.specs.declared.instruction.BranchRegimmOp.{BranchRegimmOp}
use Rattle.brd_word.specs.Words.{sum_overflows, difference_overflows}
use Rattle.brd_mem.specs.Memory.{Memory}
use Rattle.brd_link.specs.LinkSet.{LinkSet}
use Rattle.brd_exec.specs.State.{State, read, write, write_product, product_in, advanced, with_register, jumped}
use Rattle.brd_exec.specs.State.{skipped, return_address_of, with_return_address_if, jump_target}
use Rattle.brd_exec.specs.Values.{shift_gives, shift_variable_gives, multiply_gives, product_gives, accumulate_gives}
use Rattle.brd_exec.specs.Values.{count_gives, sum_of, difference_of, unless_overflow, one_if, is_below}
use Rattle.brd_exec.specs.Values.{is_zero_branch_taken, is_regimm_branch_taken}
use Rattle.brd_exec.specs.Action.{Action, with_word}
use Rattle.brd_exec.specs.Step.{done}
use Rattle.brd_exec.specs.Went.{went_by}
use Rattle.brd_entries.specs.declared.entry.CodeEntry.{CodeEntry}
use Rattle.brd_fast.specs.Place.{reached}
use Rattle.brd_fast.specs.Moves.{Acts, Turns}

pub data Plan : Type 0 where
  Declines : Plan  -- nothing is said of it
  Does : Action → Plan  -- this action
  Jumps : State → Plan  -- this is what a branch or a jump leaves, outside of delay slots

-- on to the delay slot of a branch with this target; a branch-likely that isn't taken does without it
abbrev pub branched_by : State → Bool → Bool → ℕ → State
branched_by s likely taken target =
    if taken then jumped s target else if likely then skipped s else jumped s ((s.npc + 4) % 2 ^ 32)

-- with the return address in register 31
abbrev pub calling : State → State
calling s = with_return_address_if s true

abbrev pub planned : CodeEntry → State → Plan
planned CodeEntry.Slow s = Plan.Declines
planned CodeEntry.Nop s = Plan.Does (Action.Local (advanced s))
planned (CodeEntry.Sll rd rt sa) s =
    Plan.Does (Action.Local (with_register s rd (shift_gives ShiftOp.Sll (read s rt) sa)))
planned (CodeEntry.Srl rd rt sa) s =
    Plan.Does (Action.Local (with_register s rd (shift_gives ShiftOp.Srl (read s rt) sa)))
planned (CodeEntry.Sra rd rt sa) s =
    Plan.Does (Action.Local (with_register s rd (shift_gives ShiftOp.Sra (read s rt) sa)))
planned (CodeEntry.Sllv rd rt rs) s =
    Plan.Does
    (Action.Local (with_register s rd (shift_variable_gives ShiftVariableOp.Sllv (read s rt) (read s rs % 2 ^ 5))))
planned (CodeEntry.Srlv rd rt rs) s =
    Plan.Does
    (Action.Local (with_register s rd (shift_variable_gives ShiftVariableOp.Srlv (read s rt) (read s rs % 2 ^ 5))))
planned (CodeEntry.Srav rd rt rs) s =
    Plan.Does
    (Action.Local (with_register s rd (shift_variable_gives ShiftVariableOp.Srav (read s rt) (read s rs % 2 ^ 5))))
planned (CodeEntry.Movz rd rs rt) s =
    Plan.Does (Action.Local (with_register s rd (if read s rt == 0 then read s rs else read s rd)))
planned (CodeEntry.Movn rd rs rt) s =
    Plan.Does (Action.Local (with_register s rd (if read s rt == 0 then read s rd else read s rs)))
planned (CodeEntry.Add rd rs rt) s =
    Plan.Does
    (Action.MayStop
    (with_word s rd (unless_overflow (sum_overflows (read s rs) (read s rt)) (sum_of (read s rs) (read s rt)))))
planned (CodeEntry.Addu rd rs rt) s = Plan.Does (Action.Local (with_register s rd (sum_of (read s rs) (read s rt))))
planned (CodeEntry.Sub rd rs rt) s =
    Plan.Does
    (Action.MayStop
    (with_word s rd
    (unless_overflow (difference_overflows (read s rs) (read s rt)) (difference_of (read s rs) (read s rt)))))
planned (CodeEntry.Subu rd rs rt) s =
    Plan.Does (Action.Local (with_register s rd (difference_of (read s rs) (read s rt))))
planned (CodeEntry.And rd rs rt) s = Plan.Does (Action.Local (with_register s rd (bit_and (read s rs) (read s rt))))
planned (CodeEntry.Or rd rs rt) s = Plan.Does (Action.Local (with_register s rd (bit_or (read s rs) (read s rt))))
planned (CodeEntry.Xor rd rs rt) s = Plan.Does (Action.Local (with_register s rd (bit_xor (read s rs) (read s rt))))
planned (CodeEntry.Nor rd rs rt) s =
    Plan.Does (Action.Local (with_register s rd (bit_not w32 (bit_or (read s rs) (read s rt)))))
planned (CodeEntry.Slt rd rs rt) s =
    Plan.Does (Action.Local (with_register s rd (one_if (is_below (read s rs) (read s rt)))))
planned (CodeEntry.Sltu rd rs rt) s =
    Plan.Does (Action.Local (with_register s rd (one_if (nat_lt (read s rs) (read s rt)))))
planned (CodeEntry.Mul rd rs rt) s =
    Plan.Does (Action.Local (with_register s rd (multiply_gives (read s rs) (read s rt))))
planned (CodeEntry.Addi rt rs immediate) s =
    Plan.Does
    (Action.MayStop
    (with_word s rt (unless_overflow (sum_overflows (read s rs) immediate) (sum_of (read s rs) immediate))))
planned (CodeEntry.Addiu rt rs immediate) s =
    Plan.Does (Action.Local (with_register s rt (sum_of (read s rs) immediate)))
planned (CodeEntry.Slti rt rs immediate) s =
    Plan.Does (Action.Local (with_register s rt (one_if (is_below (read s rs) immediate))))
planned (CodeEntry.Sltiu rt rs immediate) s =
    Plan.Does (Action.Local (with_register s rt (one_if (nat_lt (read s rs) immediate))))
planned (CodeEntry.Andi rt rs immediate) s =
    Plan.Does (Action.Local (with_register s rt (bit_and (read s rs) immediate)))
planned (CodeEntry.Ori rt rs immediate) s = Plan.Does (Action.Local (with_register s rt (bit_or (read s rs) immediate)))
planned (CodeEntry.Xori rt rs immediate) s =
    Plan.Does (Action.Local (with_register s rt (bit_xor (read s rs) immediate)))
planned (CodeEntry.Lui rt word) s = Plan.Does (Action.Local (with_register s rt (word)))
planned (CodeEntry.Mfhi rd) s = Plan.Does (Action.Local (with_register s rd (s.hi)))
planned (CodeEntry.Mflo rd) s = Plan.Does (Action.Local (with_register s rd (s.lo)))
planned (CodeEntry.Mthi rs) s = Plan.Does (Action.Local (record (advanced s) { hi = read s rs }))
planned (CodeEntry.Mtlo rs) s = Plan.Does (Action.Local (record (advanced s) { lo = read s rs }))
planned (CodeEntry.Mult rs rt) s =
    Plan.Does (Action.Local (write_product (advanced s) (product_gives ProductOp.Mult (read s rs) (read s rt))))
planned (CodeEntry.Multu rs rt) s =
    Plan.Does (Action.Local (write_product (advanced s) (product_gives ProductOp.Multu (read s rs) (read s rt))))
planned (CodeEntry.Div rs rt) s =
    Plan.Does (Action.Local (write_product (advanced s) (product_gives ProductOp.Div (read s rs) (read s rt))))
planned (CodeEntry.Divu rs rt) s =
    Plan.Does (Action.Local (write_product (advanced s) (product_gives ProductOp.Divu (read s rs) (read s rt))))
planned (CodeEntry.Madd rs rt) s =
    Plan.Does
    (Action.Local
    (write_product (advanced s) (accumulate_gives AccumulateOp.Madd (product_in s) (read s rs) (read s rt))))
planned (CodeEntry.Maddu rs rt) s =
    Plan.Does
    (Action.Local
    (write_product (advanced s) (accumulate_gives AccumulateOp.Maddu (product_in s) (read s rs) (read s rt))))
planned (CodeEntry.Msub rs rt) s =
    Plan.Does
    (Action.Local
    (write_product (advanced s) (accumulate_gives AccumulateOp.Msub (product_in s) (read s rs) (read s rt))))
planned (CodeEntry.Msubu rs rt) s =
    Plan.Does
    (Action.Local
    (write_product (advanced s) (accumulate_gives AccumulateOp.Msubu (product_in s) (read s rs) (read s rt))))
planned (CodeEntry.Clz rd rs) s = Plan.Does (Action.Local (with_register s rd (count_gives CountOp.Clz (read s rs))))
planned (CodeEntry.Clo rd rs) s = Plan.Does (Action.Local (with_register s rd (count_gives CountOp.Clo (read s rs))))
planned (CodeEntry.Lb rt base offset) s = Plan.Does (Action.Loads LoadOp.Lb rt (sum_of (read s base) offset))
planned (CodeEntry.Lh rt base offset) s = Plan.Does (Action.Loads LoadOp.Lh rt (sum_of (read s base) offset))
planned (CodeEntry.Lwl rt base offset) s = Plan.Does (Action.Loads LoadOp.Lwl rt (sum_of (read s base) offset))
planned (CodeEntry.Lw rt base offset) s = Plan.Does (Action.Loads LoadOp.Lw rt (sum_of (read s base) offset))
planned (CodeEntry.Lbu rt base offset) s = Plan.Does (Action.Loads LoadOp.Lbu rt (sum_of (read s base) offset))
planned (CodeEntry.Lhu rt base offset) s = Plan.Does (Action.Loads LoadOp.Lhu rt (sum_of (read s base) offset))
planned (CodeEntry.Lwr rt base offset) s = Plan.Does (Action.Loads LoadOp.Lwr rt (sum_of (read s base) offset))
planned (CodeEntry.Sb rt base offset) s = Plan.Does (Action.Stores StoreOp.Sb rt (sum_of (read s base) offset))
planned (CodeEntry.Sh rt base offset) s = Plan.Does (Action.Stores StoreOp.Sh rt (sum_of (read s base) offset))
planned (CodeEntry.Swl rt base offset) s = Plan.Does (Action.Stores StoreOp.Swl rt (sum_of (read s base) offset))
planned (CodeEntry.Sw rt base offset) s = Plan.Does (Action.Stores StoreOp.Sw rt (sum_of (read s base) offset))
planned (CodeEntry.Swr rt base offset) s = Plan.Does (Action.Stores StoreOp.Swr rt (sum_of (read s base) offset))
planned (CodeEntry.J index) s = Plan.Jumps (jumped s (jump_target s index))
planned (CodeEntry.Jal index) s = Plan.Jumps (jumped (calling s) (jump_target s index))
planned (CodeEntry.Jr rs) s = Plan.Jumps (jumped s (read s rs))
planned (CodeEntry.Jalr rd rs) s = Plan.Jumps (jumped (write s rd (return_address_of s)) (read s rs))
planned (CodeEntry.Beq rs rt reach) s =
    Plan.Jumps (branched_by s false (read s rs == read s rt) (reached s.npc reach))
planned (CodeEntry.Bne rs rt reach) s =
    Plan.Jumps (branched_by s false (not (read s rs == read s rt)) (reached s.npc reach))
planned (CodeEntry.Beql rs rt reach) s =
    Plan.Jumps (branched_by s true (read s rs == read s rt) (reached s.npc reach))
planned (CodeEntry.Bnel rs rt reach) s =
    Plan.Jumps (branched_by s true (not (read s rs == read s rt)) (reached s.npc reach))
planned (CodeEntry.Blez rs reach) s =
    Plan.Jumps (branched_by s false (is_zero_branch_taken BranchZeroOp.Blez (read s rs)) (reached s.npc reach))
planned (CodeEntry.Bgtz rs reach) s =
    Plan.Jumps (branched_by s false (is_zero_branch_taken BranchZeroOp.Bgtz (read s rs)) (reached s.npc reach))
planned (CodeEntry.Blezl rs reach) s =
    Plan.Jumps (branched_by s true (is_zero_branch_taken BranchZeroOp.Blezl (read s rs)) (reached s.npc reach))
planned (CodeEntry.Bgtzl rs reach) s =
    Plan.Jumps (branched_by s true (is_zero_branch_taken BranchZeroOp.Bgtzl (read s rs)) (reached s.npc reach))
planned (CodeEntry.Bltz rs reach) s =
    Plan.Jumps (branched_by s false (is_regimm_branch_taken BranchRegimmOp.Bltz (read s rs)) (reached s.npc reach))
planned (CodeEntry.Bgez rs reach) s =
    Plan.Jumps (branched_by s false (is_regimm_branch_taken BranchRegimmOp.Bgez (read s rs)) (reached s.npc reach))
planned (CodeEntry.Bltzl rs reach) s =
    Plan.Jumps (branched_by s true (is_regimm_branch_taken BranchRegimmOp.Bltzl (read s rs)) (reached s.npc reach))
planned (CodeEntry.Bgezl rs reach) s =
    Plan.Jumps (branched_by s true (is_regimm_branch_taken BranchRegimmOp.Bgezl (read s rs)) (reached s.npc reach))
planned (CodeEntry.Bltzal rs reach) s =
    Plan.Jumps
    (branched_by (calling s) false (is_regimm_branch_taken BranchRegimmOp.Bltzal (read s rs)) (reached s.npc reach))
planned (CodeEntry.Bgezal rs reach) s =
    Plan.Jumps
    (branched_by (calling s) false (is_regimm_branch_taken BranchRegimmOp.Bgezal (read s rs)) (reached s.npc reach))
planned (CodeEntry.Bltzall rs reach) s =
    Plan.Jumps
    (branched_by (calling s) true (is_regimm_branch_taken BranchRegimmOp.Bltzall (read s rs)) (reached s.npc reach))
planned (CodeEntry.Bgezall rs reach) s =
    Plan.Jumps
    (branched_by (calling s) true (is_regimm_branch_taken BranchRegimmOp.Bgezall (read s rs)) (reached s.npc reach))

-- What an entry may make of a context, memory and links: what its plan says; or nothing is done, where the plan
-- declines, and where its action stops. A branch or a jump may be left undone.
abbrev pub CarriesOut : ℕ → Plan → State → Memory → LinkSet → Bool → State → Memory → LinkSet → Type 0
CarriesOut cpu Plan.Declines s memory links result new_s new_memory new_links =
    Acts None s memory links result new_s new_memory new_links
CarriesOut cpu (Plan.Does action) s memory links result new_s new_memory new_links =
    Acts (went_by (done cpu s memory links action)) s memory links result new_s new_memory new_links
CarriesOut cpu (Plan.Jumps after) s memory links result new_s new_memory new_links =
    Turns after s result new_s × (new_memory ≡ memory) × (new_links ≡ links)
