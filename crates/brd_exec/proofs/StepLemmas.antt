-- One instruction does to memory and links what `did` says of it.
use Rattle.std.proofs.Common.{◌≡◌, ℕ, refl, ap}
use Rattle.std.specs.Prelude.{Bool, true, false, Result, Ok, Err}
use Rattle.brd_isa.specs.declared.instruction.Insn.{Insn}
use Rattle.brd_isa.specs.declared.instruction.StoreOp.{StoreOp}
use Rattle.brd_mem.specs.declared.fault.Exc.{Exc}
use Rattle.brd_mem.specs.Memory.{Memory}
use Rattle.brd_mem.specs.Access.{loaded32, stored32}
use Rattle.brd_link.specs.LinkSet.{LinkSet, is_linked, without, with_link, after_store}
use Rattle.brd_exec.specs.declared.outcome.ExceptionCode.{ExceptionCode}
use Rattle.brd_exec.specs.declared.outcome.Stop.{Stop}
use Rattle.brd_exec.specs.State.{State, read}
use Rattle.brd_exec.specs.Action.{Action, with_word, action}
use Rattle.brd_exec.specs.Step.{Effect, unless_stopped, stores, loads_linked, stores_if_linked, store_gives, load_gives, with_code, done, of_next, next_instruction, effect, ended, meaning, ran}
use Rattle.brd_exec.specs.Did.{Did, LoadedLinked, StoredAt, Conditional, Passed, Ended, did_load_linked, did_store, did_conditional, did_action, did_next, did}
use Rattle.brd_exec.proofs.FrameLemmas.{SameOutside, is-stored}

-- what something that a processor did makes of memory and links
abbrev pub Moved : Memory → LinkSet → ℕ → Did → Memory → LinkSet → Type 0
Moved memory links cpu (LoadedLinked address word) stored left =
    (loaded32 memory address ≡ Ok word) × (stored ≡ memory) × (left ≡ with_link links cpu address)
Moved memory links cpu (StoredAt address) stored left = SameOutside address memory stored × (left ≡ after_store links cpu address)
Moved memory links cpu (Conditional address true) stored left =
    (is_linked links cpu address ≡ true) × SameOutside address memory stored × (left ≡ after_store (without links cpu) cpu address)
Moved memory links cpu (Conditional address false) stored left = (stored ≡ memory) × (left ≡ without links cpu)
Moved memory links cpu Passed stored left = (stored ≡ memory) × (left ≡ links)
Moved memory links cpu Ended stored left = (stored ≡ memory) × (left ≡ without links cpu)

-- by an effect on a context
abbrev Does : State → Memory → LinkSet → ℕ → Did → Effect → Type 0
Does s memory links cpu what how = Moved memory links cpu what (ended how s memory).memory (ended how s memory).links

does-unless : (cpu : ℕ) (s : State) (memory : Memory) (links : LinkSet) (outcome : Result State Stop) →
    Does s memory links cpu Passed (unless_stopped memory links outcome)
does-unless cpu s memory links (Ok after) = (refl, refl)
does-unless cpu s memory links (Err Stop.Call) = (refl, refl)
does-unless cpu s memory links (Err (Stop.Raise code)) = (refl, refl)

does-stores : (cpu : ℕ) (s : State) (memory : Memory) (links : LinkSet) (op : StoreOp) (address word : ℕ) (stored : Result Memory Exc) →
    store_gives op memory address word ≡ stored → Does s memory links cpu (did_store address stored) (stores cpu s links address stored)
does-stores cpu s memory links op address word (Ok new) is = ((is-stored op memory address word new is).others, refl)
does-stores cpu s memory links op address word (Err exc) is = (refl, refl)

does-linked : (cpu : ℕ) (s : State) (memory : Memory) (links : LinkSet) (rt address : ℕ) (word : Result ℕ Exc) → loaded32 memory address ≡ word →
    Does s memory links cpu (did_load_linked address word) (loads_linked cpu s memory links rt address word)
does-linked cpu s memory links rt address (Ok word) is = (is, refl, refl)
does-linked cpu s memory links rt address (Err exc) is = (refl, refl)

does-if_linked : (cpu : ℕ) (s : State) (memory : Memory) (links : LinkSet) (rt address word : ℕ) (linked : Bool) (stored : Result Memory Exc) →
    is_linked links cpu address ≡ linked → stored32 memory address word ≡ stored →
    Does s memory links cpu (did_conditional address linked stored) (stores_if_linked cpu s memory links rt address linked stored)
does-if_linked cpu s memory links rt address word true (Ok new) has is = (has, (is-stored StoreOp.Sw memory address word new is).others, refl)
does-if_linked cpu s memory links rt address word false (Ok new) has is = (refl, refl)
does-if_linked cpu s memory links rt address word linked (Err exc) has is = (refl, refl)

does-action : (cpu : ℕ) (s : State) (memory : Memory) (links : LinkSet) (act : Action) →
    Does s memory links cpu (did_action cpu s memory links act) (done cpu s memory links act)
does-action cpu s memory links (Action.Local after) = (refl, refl)
does-action cpu s memory links (Action.MayStop outcome) = does-unless cpu s memory links outcome
does-action cpu s memory links (Action.Loads op rt address) =
    does-unless cpu s memory links (with_word s rt (with_code (load_gives op memory address (read s rt))))
does-action cpu s memory links (Action.Stores op rt address) =
    does-stores cpu s memory links op address (read s rt) (store_gives op memory address (read s rt)) refl
does-action cpu s memory links (Action.LoadsLinked rt address) = does-linked cpu s memory links rt address (loaded32 memory address) refl
does-action cpu s memory links (Action.StoresIfLinked rt address) =
    does-if_linked cpu s memory links rt address (read s rt) (is_linked links cpu address) (stored32 memory address (read s rt)) refl refl

does-next : (cpu : ℕ) (s : State) (memory : Memory) (links : LinkSet) (next : Result Insn ExceptionCode) →
    Does s memory links cpu (did_next cpu s memory links next) (of_next cpu s memory links next)
does-next cpu s memory links (Ok insn) = does-action cpu s memory links (action insn s)
does-next cpu s memory links (Err code) = (refl, refl)

pub ran-does : (cpu : ℕ) (s : State) (memory : Memory) (links : LinkSet) →
    Moved memory links cpu (did cpu s memory links) (ran cpu s memory links).memory (ran cpu s memory links).links
unfolding ran effect did
ran-does cpu s memory links = does-next cpu s memory links (next_instruction s memory)

-- an instruction that is known
pub ran-next : (cpu : ℕ) (s : State) (memory : Memory) (links : LinkSet) (insn : Insn) → next_instruction s memory ≡ Ok insn →
    ran cpu s memory links ≡ ended (meaning cpu insn s memory links) s memory
unfolding ran effect
ran-next cpu s memory links insn is = ap (λ next. ended (of_next cpu s memory links next) s memory) is

pub did-known : (cpu : ℕ) (s : State) (memory : Memory) (links : LinkSet) (insn : Insn) → next_instruction s memory ≡ Ok insn →
    did cpu s memory links ≡ did_action cpu s memory links (action insn s)
unfolding did
did-known cpu s memory links insn is = ap (did_next cpu s memory links) is
