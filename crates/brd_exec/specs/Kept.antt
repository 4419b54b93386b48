-- What an instruction that doesn't go on leaves.
use Rattle.std.specs.Prelude.{◌≡◌, ℕ, Result, Ok, Err}
use Rattle.brd_isa.specs.declared.instruction.Insn.{Insn}
use Rattle.brd_mem.specs.Memory.{Memory}
use Rattle.brd_link.specs.LinkSet.{LinkSet, without}
use Rattle.brd_exec.specs.declared.outcome.ExceptionCode.{ExceptionCode}
use Rattle.brd_exec.specs.declared.outcome.Outcome.{Outcome}
use Rattle.brd_exec.specs.declared.outcome.Outcome.TheVariants.{Done, Syscall, Exception}
use Rattle.brd_exec.specs.Action.{Action, action}
use Rattle.brd_exec.specs.State.{State}
use Rattle.brd_exec.specs.Step.{Ran, next_instruction}

-- the links where an action of a processor stops: an SC ends the processor's own
abbrev pub links_behind : ℕ → LinkSet → Action → LinkSet
links_behind cpu links (Action.Local after) = links
links_behind cpu links (Action.MayStop outcome) = links
links_behind cpu links (Action.Loads op rt address) = links
links_behind cpu links (Action.Stores op rt address) = links
links_behind cpu links (Action.LoadsLinked rt address) = links
links_behind cpu links (Action.StoresIfLinked rt address) = without links cpu

-- the links where a step stops; one that executes no instruction leaves all of them
abbrev pub links_left : ℕ → State → LinkSet → Result Insn ExceptionCode → LinkSet
links_left cpu s links (Ok insn) = links_behind cpu links (action insn s)
links_left cpu s links (Err code) = links

-- context and memory as they were, and the links too, but that an SC has ended the processor's own
pub record IsKept (cpu : ℕ) (s : State) (old : Memory) (linked : LinkSet) (after : Ran) : Type 0 where
  pub context : after.state ≡ s
  pub memory : after.memory ≡ old
  pub links : after.links ≡ links_left cpu s linked (next_instruction s old)

-- of an instruction that ended so
abbrev pub KeepsUnlessDone : ℕ → State → Memory → LinkSet → Ran → Outcome → Type 0
KeepsUnlessDone cpu s old linked after Done = Unit {0}
KeepsUnlessDone cpu s old linked after Syscall = IsKept cpu s old linked after
KeepsUnlessDone cpu s old linked after (Exception code epc bd) = IsKept cpu s old linked after
