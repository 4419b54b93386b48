-- One instruction of a processor: what it does to a context, to memory and to the processors' links, or what it stops
-- at.
use Rattle.std.specs.Prelude.{ℕ, ◌+◌, ◌-◌, ◌%◌, ◌^◌, Bool, ◌&&◌, true, false, if◌then◌else◌, Option, Some, None, Result}
use Rattle.std.specs.Prelude.{Ok, Err}
use Rattle.brd_isa.specs.declared.instruction.{Insn.Insn, LoadOp.LoadOp, StoreOp.StoreOp}
use Rattle.brd_isa.specs.Decoding.{decoded}
use Rattle.brd_word.specs.Words.{sign_extended8, sign_extended16}
use Rattle.brd_mem.specs.declared.fault.Exc.{Exc}
use Rattle.brd_mem.specs.Memory.{Memory}
use Rattle.brd_mem.specs.Access.{fetched, loaded8, loaded16, loaded32, stored8, stored16, stored32}
use Rattle.brd_link.specs.LinkSet.{LinkSet, is_linked, without, with_link, after_store}
use Rattle.brd_exec.specs.declared.outcome.{ExceptionCode.ExceptionCode, Outcome.Outcome, Stop.Stop}
use Rattle.brd_exec.specs.State.{State, read, advanced, with_register}
use Rattle.brd_exec.specs.Exception.{code_of}
use Rattle.brd_exec.specs.Unaligned.{loaded_left, loaded_right, stored_left, stored_right}
use Rattle.brd_exec.specs.Action.{Action, with_word, action}

-- An instruction leads to a new context, memory and links, or stops: at a service call, or by an exception. Where it
-- stops, context and memory are as they were, and the links are those that it names.
pub data Effect : Type 0 where
  Goes : State → Memory → LinkSet → Effect
  Stops : Stop → LinkSet → Effect

abbrev pub raises : ExceptionCode → LinkSet → Effect
raises code links = Stops (Stop.Raise code) links

-- to this context over memory and links as they were, or a stop
abbrev pub unless_stopped : Memory → LinkSet → Result State Stop → Effect
unless_stopped memory links (Ok after) = Goes after memory links
unless_stopped memory links (Err stop) = Stops stop links

-- what an access raises
abbrev pub with_code : {A : Type 0} → Result A Exc → Result A ExceptionCode
with_code (Ok x) = Ok x
with_code (Err exc) = Err (code_of exc)

abbrev pub extended : (ℕ → ℕ) → Result ℕ Exc → Result ℕ Exc
extended extend (Ok x) = Ok (extend x)
extended extend (Err exc) = Err exc

-- what a load finds at an address, from what the register was
abbrev pub load_gives : LoadOp → Memory → ℕ → ℕ → Result ℕ Exc
load_gives LoadOp.Lb memory address old = extended sign_extended8 (loaded8 memory address)
load_gives LoadOp.Lh memory address old = extended sign_extended16 (loaded16 memory address)
load_gives LoadOp.Lwl memory address old = loaded_left memory address old
load_gives LoadOp.Lw memory address old = loaded32 memory address
load_gives LoadOp.Lbu memory address old = loaded8 memory address
load_gives LoadOp.Lhu memory address old = loaded16 memory address
load_gives LoadOp.Lwr memory address old = loaded_right memory address old

-- the memory that a store of a register's word leaves
abbrev pub store_gives : StoreOp → Memory → ℕ → ℕ → Result Memory Exc
store_gives StoreOp.Sb memory address word = stored8 memory address (word % 2 ^ 8)
store_gives StoreOp.Sh memory address word = stored16 memory address (word % 2 ^ 16)
store_gives StoreOp.Swl memory address word = stored_left memory address word
store_gives StoreOp.Sw memory address word = stored32 memory address word
store_gives StoreOp.Swr memory address word = stored_right memory address word

-- A store ends the links of other processors to words of the stored block.
abbrev pub stores : ℕ → State → LinkSet → ℕ → Result Memory Exc → Effect
stores cpu s links address (Ok stored) = Goes (advanced s) stored (after_store links cpu address)
stores cpu s links address (Err exc) = raises (code_of exc) links

-- LL: a load of a word, to which the processor is linked from then on. One that raises leaves the old link.
abbrev pub loads_linked : ℕ → State → Memory → LinkSet → ℕ → ℕ → Result ℕ Exc → Effect
loads_linked cpu s memory links rt address (Ok word) =
    Goes (with_register s rt word) memory (with_link links cpu address)
loads_linked cpu s memory links rt address (Err exc) = raises (code_of exc) links

-- SC: from whether the processor is linked to just this word, and what a store of the register's word to the address
-- would leave or raise. If it is linked, the store is done and rt becomes 1; else nothing is stored and rt becomes 0.
-- In any case, also where it raises, the processor's link ends.
abbrev pub stores_if_linked : ℕ → State → Memory → LinkSet → ℕ → ℕ → Bool → Result Memory Exc → Effect
stores_if_linked cpu s memory links rt address linked (Ok stored) =
    if linked then Goes (with_register s rt 1) stored (after_store (without links cpu) cpu address)
    else Goes (with_register s rt 0) memory (without links cpu)
stores_if_linked cpu s memory links rt address linked (Err exc) = raises (code_of exc) (without links cpu)

-- what an instruction's action does to memory and links
abbrev pub done : ℕ → State → Memory → LinkSet → Action → Effect
done cpu s memory links (Action.Local after) = Goes after memory links
done cpu s memory links (Action.MayStop outcome) = unless_stopped memory links outcome
done cpu s memory links (Action.Loads op rt address) =
    unless_stopped memory links (with_word s rt (with_code (load_gives op memory address (read s rt))))
done cpu s memory links (Action.Stores op rt address) =
    stores cpu s links address (store_gives op memory address (read s rt))
done cpu s memory links (Action.LoadsLinked rt address) =
    loads_linked cpu s memory links rt address (loaded32 memory address)
done cpu s memory links (Action.StoresIfLinked rt address) =
    stores_if_linked cpu s memory links rt address (is_linked links cpu address) (stored32 memory address (read s rt))

-- what an instruction does
abbrev pub meaning : ℕ → Insn → State → Memory → LinkSet → Effect
meaning cpu insn s memory links = done cpu s memory links (action insn s)

-- whether an instruction is a branch or a jump, which has a delay slot
abbrev pub has_slot : Insn → Bool
has_slot (Insn.Shift op rd rt sa) = false
has_slot (Insn.ShiftVariable op rd rt rs) = false
has_slot (Insn.ThreeRegisters op rd rs rt) = false
has_slot (Insn.Multiply rd rs rt) = false
has_slot (Insn.JumpRegister rs) = true
has_slot (Insn.JumpLinkRegister rd rs) = true
has_slot (Insn.Syscall code) = false
has_slot (Insn.Break code) = false
has_slot Insn.Sync = false
has_slot (Insn.MoveFrom op rd) = false
has_slot (Insn.MoveTo op rs) = false
has_slot (Insn.Product op rs rt) = false
has_slot (Insn.Accumulate op rs rt) = false
has_slot (Insn.Count op rd rs) = false
has_slot (Insn.Trap op rs rt code) = false
has_slot (Insn.TrapImmediate op rs immediate) = false
has_slot (Insn.Jump op index) = true
has_slot (Insn.Branch op rs rt offset) = true
has_slot (Insn.BranchZero op rs offset) = true
has_slot (Insn.BranchRegimm op rs offset) = true
has_slot (Insn.WithImmediate op rt rs immediate) = false
has_slot (Insn.LoadUpper rt immediate) = false
has_slot (Insn.Load op rt base offset) = false
has_slot (Insn.Store op rt base offset) = false
has_slot (Insn.Linked op rt base offset) = false
has_slot (Insn.Prefetch hint base offset) = false

-- The order of cases: first the fetch may be refused; then a word that stands for no instruction is reserved; then (own
-- choice where the manual says UNPREDICTABLE) so is a branch or a jump in a delay slot.
abbrev pub accepted : State → Insn → Result Insn ExceptionCode
accepted s insn = if s.slot && has_slot insn then Err ExceptionCode.RI else Ok insn

abbrev pub of_word : State → Option Insn → Result Insn ExceptionCode
of_word s None = Err ExceptionCode.RI
of_word s (Some insn) = accepted s insn

abbrev pub of_fetch : State → Result ℕ Exc → Result Insn ExceptionCode
of_fetch s (Err exc) = Err (code_of exc)
of_fetch s (Ok word) = of_word s (decoded word)

-- which instruction a step executes, or what is raised before one is
unfoldable pub next_instruction : State → Memory → Result Insn ExceptionCode
next_instruction s memory = of_fetch s (fetched memory s.pc)

abbrev pub of_next : ℕ → State → Memory → LinkSet → Result Insn ExceptionCode → Effect
of_next cpu s memory links (Ok insn) = meaning cpu insn s memory links
of_next cpu s memory links (Err code) = raises code links

-- what a step does
unfoldable pub effect : ℕ → State → Memory → LinkSet → Effect
effect cpu s memory links = of_next cpu s memory links (next_instruction s memory)

-- The exception program counter (MD00090, the EPC register): the instruction's address; in a delay slot that of the
-- branch before it, from which a handler would have both done again.
abbrev pub epc_of : State → ℕ
epc_of s = if s.slot then (s.pc + (2 ^ 32 - 4)) % 2 ^ 32 else s.pc

-- a context, a memory and the links after an instruction, and how it ended
pub record Ran : Type 0 where
  pub state : State
  pub memory : Memory
  pub links : LinkSet
  pub outcome : Outcome

-- A service call leaves context and memory as they were; so does an exception, which tells its code, its address and
-- whether that is a branch's.
abbrev pub ended : Effect → State → Memory → Ran
ended (Goes after stored links) s memory =
    record { state = after; memory = stored; links = links; outcome = Outcome.Done }
ended (Stops Stop.Call links) s memory =
    record { state = s; memory = memory; links = links; outcome = Outcome.Syscall }
ended (Stops (Stop.Raise code) links) s memory =
    record { state = s; memory = memory; links = links; outcome = Outcome.Exception code (epc_of s) s.slot }

-- one instruction of a processor's context over memory and links
unfoldable pub ran : ℕ → State → Memory → LinkSet → Ran
ran cpu s memory links = ended (effect cpu s memory links) s memory
