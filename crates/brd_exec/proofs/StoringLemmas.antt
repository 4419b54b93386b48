-- An instruction that is no store leaves memory as it was.
use Rattle.std.proofs.Common.{◌≡◌, ℕ, refl, sym, ◌∙◌}
use Rattle.std.specs.Prelude.{Bool, true, false, ◌&&◌, if◌then◌else◌, Option, None, Some, Result, Ok, Err}
use Rattle.std.proofs.lemmas.Bool.{false≢true}
use Rattle.brd_isa.specs.declared.instruction.{Insn.Insn, LinkedOp.LinkedOp}
use Rattle.brd_isa.specs.Decoding.{decoded}
use Rattle.brd_isa.specs.Shapes.{linked_transfer, does_store}
use Rattle.brd_mem.specs.Memory.{Memory}
use Rattle.brd_mem.specs.declared.fault.Exc.{Exc}
use Rattle.brd_mem.specs.Access.{fetched, loaded32}
use Rattle.brd_link.specs.LinkSet.{LinkSet}
use Rattle.brd_exec.specs.declared.outcome.ExceptionCode.{ExceptionCode}
use Rattle.brd_exec.specs.declared.outcome.Stop.{Stop}
use Rattle.brd_exec.specs.State.{State, read, address_of}
use Rattle.brd_exec.specs.Values.{Given, register_gives, immediate_gives}
use Rattle.brd_exec.specs.Action.{Action, with_word, sets, linked, action}
use Rattle.brd_exec.specs.Exception.{code_of}
use Rattle.brd_exec.specs.Step.{Effect, unless_stopped, loads_linked, load_gives, with_code, done, has_slot, of_word, of_fetch, of_next, next_instruction, effect, ended, ran}
use Rattle.brd_exec.specs.Storing.{is_store, is_store_word, is_store_fetched, may_store}

-- an action that is a store
abbrev is_storing : Action → Bool
is_storing (Action.Local after) = false
is_storing (Action.MayStop outcome) = false
is_storing (Action.Loads op rt address) = false
is_storing (Action.Stores op rt address) = true
is_storing (Action.LoadsLinked rt address) = false
is_storing (Action.StoresIfLinked rt address) = true

storing-sets : (s : State) (register : ℕ) (given : Given) → is_storing (sets s register given) ≡ false
storing-sets s register (Given.Always word) = refl
storing-sets s register (Given.MayRaise given) = refl

storing-linked : (op : LinkedOp) (rt address : ℕ) → is_storing (linked op rt address) ≡ does_store (linked_transfer op)
storing-linked LinkedOp.Ll rt address = refl
storing-linked LinkedOp.Sc rt address = refl

storing-action : (insn : Insn) (s : State) → is_storing (action insn s) ≡ is_store insn
storing-action (Insn.ThreeRegisters op rd rs rt) s = storing-sets s rd (register_gives op (read s rd) (read s rs) (read s rt))
storing-action (Insn.WithImmediate op rt rs immediate) s = storing-sets s rt (immediate_gives op (read s rs) immediate)
storing-action (Insn.Linked op rt base offset) s = storing-linked op rt (address_of s base offset)
storing-action insn s = refl

-- an effect on a context leaves memory
abbrev KeepsMemory : State → Memory → Effect → Type 0
KeepsMemory s memory how = (ended how s memory).memory ≡ memory

kept-unless : (s : State) (memory : Memory) (links : LinkSet) (outcome : Result State Stop) → KeepsMemory s memory (unless_stopped memory links outcome)
kept-unless s memory links (Ok after) = refl
kept-unless s memory links (Err Stop.Call) = refl
kept-unless s memory links (Err (Stop.Raise code)) = refl

kept-linked : (cpu : ℕ) (s : State) (memory : Memory) (links : LinkSet) (rt address : ℕ) (word : Result ℕ Exc) →
    KeepsMemory s memory (loads_linked cpu s memory links rt address word)
kept-linked cpu s memory links rt address (Ok word) = refl
kept-linked cpu s memory links rt address (Err exc) = refl

kept-action : (cpu : ℕ) (s : State) (memory : Memory) (links : LinkSet) (act : Action) → is_storing act ≡ false → KeepsMemory s memory (done cpu s memory links act)
kept-action cpu s memory links (Action.Local after) none = refl
kept-action cpu s memory links (Action.MayStop outcome) none = kept-unless s memory links outcome
kept-action cpu s memory links (Action.Loads op rt address) none =
    kept-unless s memory links (with_word s rt (with_code (load_gives op memory address (read s rt))))
kept-action cpu s memory links (Action.Stores op rt address) none = absurd (false≢true (sym none))
kept-action cpu s memory links (Action.LoadsLinked rt address) none = kept-linked cpu s memory links rt address (loaded32 memory address)
kept-action cpu s memory links (Action.StoresIfLinked rt address) none = absurd (false≢true (sym none))

kept-accepted : (cpu : ℕ) (s : State) (memory : Memory) (links : LinkSet) (insn : Insn) (refused : Bool) → is_store insn ≡ false →
    KeepsMemory s memory (of_next cpu s memory links (if refused then Err ExceptionCode.RI else Ok insn))
kept-accepted cpu s memory links insn true none = refl
kept-accepted cpu s memory links insn false none = kept-action cpu s memory links (action insn s) (storing-action insn s ∙ none)

kept-word : (cpu : ℕ) (s : State) (memory : Memory) (links : LinkSet) (found : Option Insn) → is_store_word found ≡ false →
    KeepsMemory s memory (of_next cpu s memory links (of_word s found))
kept-word cpu s memory links None none = refl
kept-word cpu s memory links (Some insn) none = kept-accepted cpu s memory links insn (s.slot && has_slot insn) none

kept-fetched : (cpu : ℕ) (s : State) (memory : Memory) (links : LinkSet) (word : Result ℕ Exc) → is_store_fetched word ≡ false →
    KeepsMemory s memory (of_next cpu s memory links (of_fetch s word))
kept-fetched cpu s memory links (Ok word) none = kept-word cpu s memory links (decoded word) none
kept-fetched cpu s memory links (Err exc) none = refl

pub kept-ran : (cpu : ℕ) (s : State) (memory : Memory) (links : LinkSet) → may_store s memory ≡ false → (ran cpu s memory links).memory ≡ memory
unfolding ran effect next_instruction may_store
kept-ran cpu s memory links none = kept-fetched cpu s memory links (fetched memory s.pc) none
