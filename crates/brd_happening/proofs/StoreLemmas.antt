-- Where no store is told, memory is as it was.
use Rattle.std.proofs.Common.{◌≡◌, ℕ, suc, ◌≤◌, refl, sym, ap, ◌∙◌, arith}
use Rattle.std.specs.Prelude.{Bool, true, false, cond, ◌==◌, ◌&&◌, ◌||◌, if◌then◌else◌, nat_le, [], ◌∷◌, find, Option, None, Some, Result, Ok, Err}
use Rattle.std.specs.Option.{option_map}
use Rattle.std.proofs.lemmas.Bool.{false≢true}
use Rattle.std.proofs.lemmas.Bool.Decides.{nat_tests}
use Rattle.brd_isa.specs.declared.instruction.{Insn.Insn, LinkedOp.LinkedOp}
use Rattle.brd_mem.specs.declared.fault.Exc.{Exc}
use Rattle.brd_mem.specs.Memory.{Memory}
use Rattle.brd_mem.specs.Access.{loaded32, stored32}
use Rattle.brd_link.specs.LinkSet.{Link, LinkSet, AllFrom, IsLinkSet, is_linked, linked_address}
use Rattle.brd_exec.specs.declared.outcome.Stop.{Stop}
use Rattle.brd_exec.specs.State.{State, read, address_of}
use Rattle.brd_exec.specs.Values.{Given, register_gives, immediate_gives, traps, traps_immediate}
use Rattle.brd_exec.specs.Action.{with_word, sets, unless_trap}
use Rattle.brd_exec.specs.Step.{unless_stopped, loads_linked, stores_if_linked, load_gives, with_code, done, meaning}
use Rattle.brd_board.specs.Board.{BoardState, linked_word_of}
use Rattle.brd_happening.specs.Instruction.{address_by}
use Rattle.brd_happening.specs.Found.{is_link_to}
use Rattle.brd_happening.specs.Telling.{stores_by, KeepsMemory}

-- A link is to an address exactly where the set has the pair.

-- the processors of a set's later pairs are others
others-linked : (links : LinkSet) (first cpu address : ℕ) → AllFrom first links → suc cpu ≤ first → is_linked links cpu address ≡ false
others-linked [] first cpu address all below = refl
others-linked (link ∷ links) first cpu address all below =
    grind (arith, nat_tests, all.0, below, others-linked links (suc link.processor) cpu address all.2 (omega (arith, all.0, below)))

or-none : (x r : Bool) → r ≡ false → x ≡ (x || r)
or-none true r none = refl
or-none false r none = sym none

cons-is : (same : Bool) (link : Link) (links : LinkSet) (cpu address : ℕ) → (same ≡ true → is_linked links cpu address ≡ false) →
    is_link_to (linked_address links cpu) (Some address) ≡ is_linked links cpu address →
    is_link_to (option_map (λ (it : Link). it.address) (cond same (Some link) (find (λ (it : Link). it.processor == cpu) links))) (Some address)
    ≡ ((same && link.address == address) || is_linked links cpu address)
cons-is true link links cpu address none known = or-none (link.address == address) (is_linked links cpu address) (none refl)
cons-is false link links cpu address none known = known

later : (at cpu first : ℕ) → (at == cpu) ≡ true → first ≡ suc at → suc cpu ≤ first
later at cpu first same is = grind (arith, nat_tests, same, is)

link-is : (links : LinkSet) (first cpu address : ℕ) → AllFrom first links →
    is_link_to (linked_address links cpu) (Some address) ≡ is_linked links cpu address
link-is [] first cpu address all = refl
link-is (link ∷ links) first cpu address all =
    cons-is (link.processor == cpu) link links cpu address
    (λ same. others-linked links (suc link.processor) cpu address all.2 (later link.processor cpu (suc link.processor) same refl))
    (link-is links (suc link.processor) cpu address all.2)

in-range : (within : Bool) (address : Option ℕ) (a : ℕ) → within ≡ true → is_link_to (if within then address else None) (Some a) ≡ is_link_to address (Some a)
in-range true address a is = refl
in-range false address a is = absurd (false≢true is)

-- a board's link of a processor is to an address exactly where the set of its links has the pair
link-told : (b : BoardState) (cpu address : ℕ) → 1 ≤ cpu → cpu ≤ 8 → IsLinkSet b.links →
    is_link_to (linked_word_of b cpu) (Some address) ≡ is_linked b.links cpu address
link-told b cpu address low high links =
    in-range (nat_le 1 cpu && nat_le cpu 8) (linked_address b.links cpu) address (grind (arith, nat_tests, low, high)) ∙ link-is b.links 1 cpu address links

-- What an instruction does over memory.

kept-unless : (memory : Memory) (links : LinkSet) (outcome : Result State Stop) → KeepsMemory memory (unless_stopped memory links outcome)
kept-unless memory links (Ok after) = refl
kept-unless memory links (Err stop) = tt

kept-sets : (cpu : ℕ) (s : State) (memory : Memory) (links : LinkSet) (r : ℕ) (given : Given) → KeepsMemory memory (done cpu s memory links (sets s r given))
kept-sets cpu s memory links r (Given.Always word) = refl
kept-sets cpu s memory links r (Given.MayRaise given) = kept-unless memory links (with_word s r given)

kept-linked : (cpu : ℕ) (s : State) (memory : Memory) (links : LinkSet) (r address : ℕ) (word : Result ℕ Exc) →
    KeepsMemory memory (loads_linked cpu s memory links r address word)
kept-linked cpu s memory links r address (Ok word) = refl
kept-linked cpu s memory links r address (Err exc) = tt

-- an SC that doesn't store
kept-conditional : (cpu : ℕ) (s : State) (memory : Memory) (links : LinkSet) (r address : ℕ) (linked : Bool) (stored : Result Memory Exc) →
    linked ≡ false → KeepsMemory memory (stores_if_linked cpu s memory links r address linked stored)
kept-conditional cpu s memory links r address true (Ok stored) none = absurd (false≢true (sym none))
kept-conditional cpu s memory links r address false (Ok stored) none = refl
kept-conditional cpu s memory links r address linked (Err exc) none = tt

kept-untold : (cpu : ℕ) (insn : Insn) (s : State) (memory : Memory) (links : LinkSet) (linked : Bool) →
    ((address : ℕ) → address_by insn s ≡ Some address → linked ≡ is_linked links cpu address) →
    stores_by insn linked ≡ false → KeepsMemory memory (meaning cpu insn s memory links)
kept-untold cpu (Insn.Shift op rd rt sa) s memory links linked is none = refl
kept-untold cpu (Insn.ShiftVariable op rd rt rs) s memory links linked is none = refl
kept-untold cpu (Insn.ThreeRegisters op rd rs rt) s memory links linked is none =
    kept-sets cpu s memory links rd (register_gives op (read s rd) (read s rs) (read s rt))
kept-untold cpu (Insn.Multiply rd rs rt) s memory links linked is none = refl
kept-untold cpu (Insn.JumpRegister rs) s memory links linked is none = refl
kept-untold cpu (Insn.JumpLinkRegister rd rs) s memory links linked is none = refl
kept-untold cpu (Insn.Syscall code) s memory links linked is none = tt
kept-untold cpu (Insn.Break code) s memory links linked is none = tt
kept-untold cpu Insn.Sync s memory links linked is none = refl
kept-untold cpu (Insn.MoveFrom op rd) s memory links linked is none = refl
kept-untold cpu (Insn.MoveTo op rs) s memory links linked is none = refl
kept-untold cpu (Insn.Product op rs rt) s memory links linked is none = refl
kept-untold cpu (Insn.Accumulate op rs rt) s memory links linked is none = refl
kept-untold cpu (Insn.Count op rd rs) s memory links linked is none = refl
kept-untold cpu (Insn.Trap op rs rt code) s memory links linked is none =
    kept-unless memory links (unless_trap s (traps op (read s rs) (read s rt)))
kept-untold cpu (Insn.TrapImmediate op rs immediate) s memory links linked is none =
    kept-unless memory links (unless_trap s (traps_immediate op (read s rs) immediate))
kept-untold cpu (Insn.Jump op index) s memory links linked is none = refl
kept-untold cpu (Insn.Branch op rs rt offset) s memory links linked is none = refl
kept-untold cpu (Insn.BranchZero op rs offset) s memory links linked is none = refl
kept-untold cpu (Insn.BranchRegimm op rs offset) s memory links linked is none = refl
kept-untold cpu (Insn.WithImmediate op rt rs immediate) s memory links linked is none =
    kept-sets cpu s memory links rt (immediate_gives op (read s rs) immediate)
kept-untold cpu (Insn.LoadUpper rt immediate) s memory links linked is none = refl
kept-untold cpu (Insn.Load op rt register offset) s memory links linked is none =
    kept-unless memory links (with_word s rt (with_code (load_gives op memory (address_of s register offset) (read s rt))))
kept-untold cpu (Insn.Store op rt register offset) s memory links linked is none = absurd (false≢true (sym none))
kept-untold cpu (Insn.Linked LinkedOp.Ll rt register offset) s memory links linked is none =
    kept-linked cpu s memory links rt (address_of s register offset) (loaded32 memory (address_of s register offset))
kept-untold cpu (Insn.Linked LinkedOp.Sc rt register offset) s memory links linked is none =
    let address = address_of s register offset in
    kept-conditional cpu s memory links rt address (is_linked links cpu address) (stored32 memory address (read s rt)) (sym (is address refl) ∙ none)
kept-untold cpu (Insn.Prefetch hint register offset) s memory links linked is none = refl

pub store-told : (b : BoardState) (cpu : ℕ) (insn : Insn) (s : State) → 1 ≤ cpu → cpu ≤ 8 → IsLinkSet b.links →
    stores_by insn (is_link_to (linked_word_of b cpu) (address_by insn s)) ≡ false → KeepsMemory b.memory (meaning cpu insn s b.memory b.links)
store-told b cpu insn s low high links none =
    kept-untold cpu insn s b.memory b.links (is_link_to (linked_word_of b cpu) (address_by insn s))
    (λ address is. ap (is_link_to (linked_word_of b cpu)) is ∙ link-told b cpu address low high links) none
