-- What an instruction does, as far as the context tells: one line a form of operands. An instruction is local where it
-- touches registers, HI, LO and the program counter alone and can raise no exception, whatever these hold. (That a
-- branch in a delay slot is refused is decided before it is done.)
use Rattle.std.specs.Prelude.{ℕ, ◌*◌, ◌%◌, ◌^◌, Bool, if◌then◌else◌, Option, Some, None, Result, Ok, Err}
use Rattle.brd_isa.specs.declared.instruction.{Insn.Insn, MoveFromOp.MoveFromOp, MoveToOp.MoveToOp}
use Rattle.brd_isa.specs.declared.instruction.{LoadOp.LoadOp, StoreOp.StoreOp, LinkedOp.LinkedOp}
use Rattle.brd_isa.specs.Shapes.{is_jump_calling, is_regimm_branch_calling}
use Rattle.brd_exec.specs.declared.outcome.{ExceptionCode.ExceptionCode, Stop.Stop}
use Rattle.brd_exec.specs.State.{State, read, write, write_product, product_in, advanced, with_register, jumped}
use Rattle.brd_exec.specs.State.{after_branch, return_address_of, with_return_address_if, jump_target, address_of}
use Rattle.brd_exec.specs.Values.{Given, shift_gives, shift_variable_gives, register_gives, immediate_gives}
use Rattle.brd_exec.specs.Values.{multiply_gives, product_gives, accumulate_gives, count_gives, traps, traps_immediate}
use Rattle.brd_exec.specs.Values.{is_taken, is_likely, is_zero_branch_taken, is_zero_branch_likely}
use Rattle.brd_exec.specs.Values.{is_regimm_branch_taken, is_regimm_branch_likely}

pub data Action : Type 0 where
  Local : State → Action  -- leads to this context: a local instruction
  MayStop : Result State Stop → Action  -- leads to this context, or stops
  Loads : LoadOp → ℕ → ℕ → Action  -- loads this register from this address
  Stores : StoreOp → ℕ → ℕ → Action  -- stores this register to this address
  LoadsLinked : ℕ → ℕ → Action  -- loads this register from this address, by LL
  StoresIfLinked : ℕ → ℕ → Action  -- stores this register to this address, by SC

-- a word for a register, unless there was an exception
abbrev pub with_word : State → ℕ → Result ℕ ExceptionCode → Result State Stop
with_word s register (Ok word) = Ok (with_register s register word)
with_word s register (Err code) = Err (Stop.Raise code)

abbrev pub sets : State → ℕ → Given → Action
sets s register (Given.Always word) = Local (with_register s register word)
sets s register (Given.MayRaise given) = MayStop (with_word s register given)

-- on to the next instruction, unless there is a trap
abbrev pub unless_trap : State → Bool → Result State Stop
unless_trap s trap = if trap then Err (Stop.Raise ExceptionCode.Tr) else Ok (advanced s)

abbrev pub moved_from : MoveFromOp → State → ℕ
moved_from MoveFromOp.Mfhi s = s.hi
moved_from MoveFromOp.Mflo s = s.lo

abbrev pub moved_to : MoveToOp → State → ℕ → State
moved_to MoveToOp.Mthi s word = record s { hi = word }
moved_to MoveToOp.Mtlo s word = record s { lo = word }

abbrev pub linked : LinkedOp → ℕ → ℕ → Action
linked LinkedOp.Ll rt address = LoadsLinked rt address
linked LinkedOp.Sc rt address = StoresIfLinked rt address

-- A branch that calls writes the return address whether taken or not. It and JALR read their register before the return
-- address is written (own choice where the manual says UNPREDICTABLE).
abbrev pub action : Insn → State → Action
action (Insn.Shift op rd rt sa) s = Local (with_register s rd (shift_gives op (read s rt) sa))
action (Insn.ShiftVariable op rd rt rs) s =
    Local (with_register s rd (shift_variable_gives op (read s rt) (read s rs % 2 ^ 5)))
action (Insn.ThreeRegisters op rd rs rt) s = sets s rd (register_gives op (read s rd) (read s rs) (read s rt))
action (Insn.Multiply rd rs rt) s = Local (with_register s rd (multiply_gives (read s rs) (read s rt)))
action (Insn.JumpRegister rs) s = Local (jumped s (read s rs))
action (Insn.JumpLinkRegister rd rs) s = Local (jumped (write s rd (return_address_of s)) (read s rs))
action (Insn.Syscall code) s = MayStop (Err Stop.Call)
action (Insn.Break code) s = MayStop (Err (Stop.Raise ExceptionCode.Bp))
action Insn.Sync s = Local (advanced s)
action (Insn.MoveFrom op rd) s = Local (with_register s rd (moved_from op s))
action (Insn.MoveTo op rs) s = Local (moved_to op (advanced s) (read s rs))
action (Insn.Product op rs rt) s = Local (write_product (advanced s) (product_gives op (read s rs) (read s rt)))
action (Insn.Accumulate op rs rt) s =
    Local (write_product (advanced s) (accumulate_gives op (product_in s) (read s rs) (read s rt)))
action (Insn.Count op rd rs) s = Local (with_register s rd (count_gives op (read s rs)))
action (Insn.Trap op rs rt code) s = MayStop (unless_trap s (traps op (read s rs) (read s rt)))
action (Insn.TrapImmediate op rs immediate) s = MayStop (unless_trap s (traps_immediate op (read s rs) immediate))
action (Insn.Jump op index) s = Local (jumped (with_return_address_if s (is_jump_calling op)) (jump_target s index))
action (Insn.Branch op rs rt offset) s =
    Local (after_branch s (is_likely op) (is_taken op (read s rs) (read s rt)) offset)
action (Insn.BranchZero op rs offset) s =
    Local (after_branch s (is_zero_branch_likely op) (is_zero_branch_taken op (read s rs)) offset)
action (Insn.BranchRegimm op rs offset) s =
    Local
    (after_branch (with_return_address_if s (is_regimm_branch_calling op)) (is_regimm_branch_likely op)
    (is_regimm_branch_taken op (read s rs)) offset)
action (Insn.WithImmediate op rt rs immediate) s = sets s rt (immediate_gives op (read s rs) immediate)
action (Insn.LoadUpper rt immediate) s = Local (with_register s rt (immediate * 2 ^ 16))
action (Insn.Load op rt base offset) s = Loads op rt (address_of s base offset)
action (Insn.Store op rt base offset) s = Stores op rt (address_of s base offset)
action (Insn.Linked op rt base offset) s = linked op rt (address_of s base offset)
action (Insn.Prefetch hint base offset) s = Local (advanced s)

-- the context that a local action leads to; none of one that isn't local
abbrev pub local_context : Action → Option State
local_context (Local after) = Some after
local_context (MayStop outcome) = None
local_context (Loads op rt address) = None
local_context (Stores op rt address) = None
local_context (LoadsLinked rt address) = None
local_context (StoresIfLinked rt address) = None

-- the context that a local instruction leads to; none for an instruction that isn't local
abbrev pub local_meaning : Insn → State → Option State
local_meaning insn s = local_context (action insn s)
