-- No instruction changes how many bytes a memory has, or their order.
use Rattle.std.proofs.Common.{◌≡◌, ℕ, refl}
use Rattle.std.specs.Prelude.{Bool, true, false, Result, Ok, Err}
use Rattle.brd_isa.specs.declared.instruction.StoreOp.{StoreOp}
use Rattle.brd_mem.specs.declared.fault.Exc.{Exc}
use Rattle.brd_mem.specs.Memory.{Memory, size_of}
use Rattle.brd_mem.specs.Access.{loaded32, stored32}
use Rattle.brd_link.specs.LinkSet.{LinkSet, is_linked}
use Rattle.brd_exec.specs.declared.outcome.ExceptionCode.{ExceptionCode}
use Rattle.brd_exec.specs.declared.outcome.Stop.{Stop}
use Rattle.brd_isa.specs.declared.instruction.Insn.{Insn}
use Rattle.brd_exec.specs.State.{State, read}
use Rattle.brd_exec.specs.Action.{Action, with_word, action}
use Rattle.brd_exec.specs.Step.{Effect, unless_stopped, stores, loads_linked, stores_if_linked, store_gives, load_gives, with_code, done, of_next, next_instruction, effect, ended, ran}
use Rattle.brd_exec.proofs.FrameLemmas.{is-stored}

-- the same size and order
abbrev pub IsAlike : Memory → Memory → Type 0
IsAlike memory new = (size_of new ≡ size_of memory) × (new.order ≡ memory.order)

alike : (op : StoreOp) (memory : Memory) (address word : ℕ) (new : Memory) → store_gives op memory address word ≡ Ok new → IsAlike memory new
alike op memory address word new is =
    let stored = is-stored op memory address word new is in
    (stored.size, stored.order)

-- an effect on a context leaves them
abbrev KeepsForm : State → Memory → Effect → Type 0
KeepsForm s memory how = IsAlike memory (ended how s memory).memory

form-unless : (s : State) (memory : Memory) (links : LinkSet) (outcome : Result State Stop) → KeepsForm s memory (unless_stopped memory links outcome)
form-unless s memory links (Ok after) = (refl, refl)
form-unless s memory links (Err Stop.Call) = (refl, refl)
form-unless s memory links (Err (Stop.Raise code)) = (refl, refl)

form-stores : (cpu : ℕ) (s : State) (memory : Memory) (links : LinkSet) (op : StoreOp) (address word : ℕ) (stored : Result Memory Exc) →
    store_gives op memory address word ≡ stored → KeepsForm s memory (stores cpu s links address stored)
form-stores cpu s memory links op address word (Ok new) is = alike op memory address word new is
form-stores cpu s memory links op address word (Err exc) is = (refl, refl)

form-linked : (cpu : ℕ) (s : State) (memory : Memory) (links : LinkSet) (rt address : ℕ) (word : Result ℕ Exc) →
    KeepsForm s memory (loads_linked cpu s memory links rt address word)
form-linked cpu s memory links rt address (Ok word) = (refl, refl)
form-linked cpu s memory links rt address (Err exc) = (refl, refl)

form-if_linked : (cpu : ℕ) (s : State) (memory : Memory) (links : LinkSet) (rt address word : ℕ) (linked : Bool) (stored : Result Memory Exc) →
    stored32 memory address word ≡ stored → KeepsForm s memory (stores_if_linked cpu s memory links rt address linked stored)
form-if_linked cpu s memory links rt address word true (Ok new) is = alike StoreOp.Sw memory address word new is
form-if_linked cpu s memory links rt address word false (Ok new) is = (refl, refl)
form-if_linked cpu s memory links rt address word linked (Err exc) is = (refl, refl)

form-action : (cpu : ℕ) (s : State) (memory : Memory) (links : LinkSet) (act : Action) → KeepsForm s memory (done cpu s memory links act)
form-action cpu s memory links (Action.Local after) = (refl, refl)
form-action cpu s memory links (Action.MayStop outcome) = form-unless s memory links outcome
form-action cpu s memory links (Action.Loads op rt address) =
    form-unless s memory links (with_word s rt (with_code (load_gives op memory address (read s rt))))
form-action cpu s memory links (Action.Stores op rt address) =
    form-stores cpu s memory links op address (read s rt) (store_gives op memory address (read s rt)) refl
form-action cpu s memory links (Action.LoadsLinked rt address) = form-linked cpu s memory links rt address (loaded32 memory address)
form-action cpu s memory links (Action.StoresIfLinked rt address) =
    form-if_linked cpu s memory links rt address (read s rt) (is_linked links cpu address) (stored32 memory address (read s rt)) refl

form-next : (cpu : ℕ) (s : State) (memory : Memory) (links : LinkSet) (next : Result Insn ExceptionCode) →
    KeepsForm s memory (of_next cpu s memory links next)
form-next cpu s memory links (Ok insn) = form-action cpu s memory links (action insn s)
form-next cpu s memory links (Err code) = (refl, refl)

pub form-ran : (cpu : ℕ) (s : State) (memory : Memory) (links : LinkSet) → IsAlike memory (ran cpu s memory links).memory
unfolding ran effect
form-ran cpu s memory links = form-next cpu s memory links (next_instruction s memory)
