-- An instruction that doesn't go on leaves context and memory, and the links but for what an SC ends.
use Rattle.std.proofs.Common.{◌≡◌, ℕ, refl}
use Rattle.std.specs.Prelude.{Bool, true, false, Result, Ok, Err}
use Rattle.brd_isa.specs.declared.instruction.Insn.{Insn}
use Rattle.brd_mem.specs.Memory.{Memory}
use Rattle.brd_mem.specs.declared.fault.Exc.{Exc}
use Rattle.brd_mem.specs.Access.{loaded32, stored32}
use Rattle.brd_link.specs.LinkSet.{LinkSet, without, is_linked}
use Rattle.brd_exec.specs.declared.outcome.ExceptionCode.{ExceptionCode}
use Rattle.brd_exec.specs.declared.outcome.Stop.{Stop}
use Rattle.brd_exec.specs.State.{State, read}
use Rattle.brd_exec.specs.Action.{Action, with_word, action}
use Rattle.brd_exec.specs.Step.{Effect, unless_stopped, stores, loads_linked, stores_if_linked, store_gives, load_gives, with_code, done, of_next, next_instruction, effect, ended, ran}
use Rattle.brd_exec.specs.Kept.{KeepsUnlessDone, links_behind, links_left}

-- the links that a stop names are these
abbrev LeavesLinks : LinkSet → Effect → Type 0
LeavesLinks links (Effect.Goes after stored left) = Unit {0}
LeavesLinks links (Effect.Stops stop left) = left ≡ links

leaves-unless : (memory : Memory) (links : LinkSet) (outcome : Result State Stop) → LeavesLinks links (unless_stopped memory links outcome)
leaves-unless memory links (Ok after) = tt
leaves-unless memory links (Err stop) = refl

leaves-stores : (cpu : ℕ) (s : State) (links : LinkSet) (address : ℕ) (stored : Result Memory Exc) → LeavesLinks links (stores cpu s links address stored)
leaves-stores cpu s links address (Ok stored) = tt
leaves-stores cpu s links address (Err exc) = refl

leaves-linked : (cpu : ℕ) (s : State) (memory : Memory) (links : LinkSet) (rt address : ℕ) (word : Result ℕ Exc) →
    LeavesLinks links (loads_linked cpu s memory links rt address word)
leaves-linked cpu s memory links rt address (Ok word) = tt
leaves-linked cpu s memory links rt address (Err exc) = refl

leaves-if_linked : (cpu : ℕ) (s : State) (memory : Memory) (links : LinkSet) (rt address : ℕ) (linked : Bool) (stored : Result Memory Exc) →
    LeavesLinks (without links cpu) (stores_if_linked cpu s memory links rt address linked stored)
leaves-if_linked cpu s memory links rt address true (Ok stored) = tt
leaves-if_linked cpu s memory links rt address false (Ok stored) = tt
leaves-if_linked cpu s memory links rt address linked (Err exc) = refl

leaves-done : (cpu : ℕ) (s : State) (memory : Memory) (links : LinkSet) (act : Action) →
    LeavesLinks (links_behind cpu links act) (done cpu s memory links act)
leaves-done cpu s memory links (Action.Local after) = tt
leaves-done cpu s memory links (Action.MayStop outcome) = leaves-unless memory links outcome
leaves-done cpu s memory links (Action.Loads op rt address) =
    leaves-unless memory links (with_word s rt (with_code (load_gives op memory address (read s rt))))
leaves-done cpu s memory links (Action.Stores op rt address) = leaves-stores cpu s links address (store_gives op memory address (read s rt))
leaves-done cpu s memory links (Action.LoadsLinked rt address) = leaves-linked cpu s memory links rt address (loaded32 memory address)
leaves-done cpu s memory links (Action.StoresIfLinked rt address) =
    leaves-if_linked cpu s memory links rt address (is_linked links cpu address) (stored32 memory address (read s rt))

leaves-next : (cpu : ℕ) (s : State) (memory : Memory) (links : LinkSet) (next : Result Insn ExceptionCode) →
    LeavesLinks (links_left cpu s links next) (of_next cpu s memory links next)
leaves-next cpu s memory links (Ok insn) = leaves-done cpu s memory links (action insn s)
leaves-next cpu s memory links (Err code) = refl

keeps-ended : (cpu : ℕ) (s : State) (memory : Memory) (links : LinkSet) (what : Effect) →
    LeavesLinks (links_left cpu s links (next_instruction s memory)) what →
    KeepsUnlessDone cpu s memory links (ended what s memory) (ended what s memory).outcome
keeps-ended cpu s memory links (Effect.Goes after stored left) leaves = tt
keeps-ended cpu s memory links (Effect.Stops Stop.Call left) leaves = record { context = refl; memory = refl; links = leaves }
keeps-ended cpu s memory links (Effect.Stops (Stop.Raise code) left) leaves = record { context = refl; memory = refl; links = leaves }

pub keeps-ran : (cpu : ℕ) (s : State) (memory : Memory) (links : LinkSet) → KeepsUnlessDone cpu s memory links (ran cpu s memory links) (ran cpu s memory links).outcome
unfolding ran effect
keeps-ran cpu s memory links = keeps-ended cpu s memory links (effect cpu s memory links) (leaves-next cpu s memory links (next_instruction s memory))
