-- Register 0 stays 0.
use Rattle.std.proofs.Common.{◌≡◌, ◌≢◌, ℕ, refl, ◌∙◌, arith}
use Rattle.std.specs.Prelude.{Bool, true, false, ◌==◌, if◌then◌else◌, slice_set, Result, Ok, Err}
use Rattle.std.proofs.lemmas.Bool.Decides.{nat_tests}
use Rattle.std.proofs.lemmas.List.{get_or-set_other}
use Rattle.brd_isa.specs.declared.instruction.Insn.{Insn}
use Rattle.brd_isa.specs.declared.instruction.LinkedOp.{LinkedOp}
use Rattle.brd_isa.specs.declared.instruction.MoveToOp.{MoveToOp}
use Rattle.brd_mem.specs.Memory.{Memory}
use Rattle.brd_mem.specs.declared.fault.Exc.{Exc}
use Rattle.brd_mem.specs.Access.{loaded32, stored32}
use Rattle.brd_link.specs.LinkSet.{LinkSet, is_linked}
use Rattle.brd_exec.specs.declared.outcome.ExceptionCode.{ExceptionCode}
use Rattle.brd_exec.specs.declared.outcome.Stop.{Stop}
use Rattle.brd_exec.specs.State.{State, read, write, advanced, after_branch, return_address_of, with_return_address_if}
use Rattle.brd_isa.specs.Shapes.{is_regimm_branch_calling}
use Rattle.brd_exec.specs.Values as values
use Rattle.brd_exec.specs.Values.{Given}
use Rattle.brd_exec.specs.Action.{Action, with_word, sets, unless_trap, moved_to, linked, action}
use Rattle.brd_exec.specs.Step.{Effect, unless_stopped, stores, loads_linked, stores_if_linked, store_gives, load_gives, with_code, done, of_next, next_instruction, effect, ended, ran}

abbrev IsZero : State → Type 0
IsZero s = read s 0 ≡ 0

zero-set : (same : Bool) (s : State) (register word : ℕ) → (register == 0) ≡ same → IsZero s →
    IsZero (if same then s else record s { registers = slice_set s.registers register word })
zero-set true s register word test zero = zero
zero-set false s register word test zero =
    let other : 0 ≢ register = grind (arith, nat_tests, test) in
    get_or-set_other s.registers register 0 word 0 other ∙ zero

zero-write : (s : State) (register word : ℕ) → IsZero s → IsZero (write s register word)
zero-write s register word zero = zero-set (register == 0) s register word refl zero

zero-if : (test : Bool) (one other : State) → IsZero one → IsZero other → IsZero (if test then one else other)
zero-if true one other first second = first
zero-if false one other first second = second

zero-after_branch : (s : State) (likely taken : Bool) (offset : ℕ) → IsZero s → IsZero (after_branch s likely taken offset)
zero-after_branch s likely taken offset zero = zero-if likely _ _ (zero-if taken _ _ zero zero) zero

-- what an action leads to
abbrev ZeroResult : Result State Stop → Type 0
ZeroResult (Ok after) = IsZero after
ZeroResult (Err stop) = Unit {0}

abbrev ZeroAction : Action → Type 0
ZeroAction (Action.Local after) = IsZero after
ZeroAction (Action.MayStop outcome) = ZeroResult outcome
ZeroAction (Action.Loads op rt address) = Unit {0}
ZeroAction (Action.Stores op rt address) = Unit {0}
ZeroAction (Action.LoadsLinked rt address) = Unit {0}
ZeroAction (Action.StoresIfLinked rt address) = Unit {0}

zero-with_word : (s : State) (register : ℕ) (word : Result ℕ ExceptionCode) → IsZero s → ZeroResult (with_word s register word)
zero-with_word s register (Ok word) zero = zero-write (advanced s) register word zero
zero-with_word s register (Err code) zero = tt

zero-sets : (s : State) (register : ℕ) (given : Given) → IsZero s → ZeroAction (sets s register given)
zero-sets s register (Given.Always word) zero = zero-write (advanced s) register word zero
zero-sets s register (Given.MayRaise given) zero = zero-with_word s register given zero

zero-trap : (s : State) (trap : Bool) → IsZero s → ZeroResult (unless_trap s trap)
zero-trap s true zero = tt
zero-trap s false zero = zero

zero-moved : (op : MoveToOp) (s : State) (word : ℕ) → IsZero s → IsZero (moved_to op s word)
zero-moved MoveToOp.Mthi s word zero = zero
zero-moved MoveToOp.Mtlo s word zero = zero

zero-linked : (op : LinkedOp) (rt address : ℕ) → ZeroAction (linked op rt address)
zero-linked LinkedOp.Ll rt address = tt
zero-linked LinkedOp.Sc rt address = tt

zero-call : (s : State) (calls : Bool) → IsZero s → IsZero (with_return_address_if s calls)
zero-call s calls zero = zero-if calls _ _ (zero-write s 31 (return_address_of s) zero) zero

zero-action : (insn : Insn) (s : State) → IsZero s → ZeroAction (action insn s)
zero-action (Insn.Shift op rd rt sa) s zero = zero-write (advanced s) rd _ zero
zero-action (Insn.ShiftVariable op rd rt rs) s zero = zero-write (advanced s) rd _ zero
zero-action (Insn.ThreeRegisters op rd rs rt) s zero = zero-sets s rd _ zero
zero-action (Insn.Multiply rd rs rt) s zero = zero-write (advanced s) rd _ zero
zero-action (Insn.JumpRegister rs) s zero = zero
zero-action (Insn.JumpLinkRegister rd rs) s zero = zero-write s rd (return_address_of s) zero
zero-action (Insn.Syscall code) s zero = tt
zero-action (Insn.Break code) s zero = tt
zero-action Insn.Sync s zero = zero
zero-action (Insn.MoveFrom op rd) s zero = zero-write (advanced s) rd _ zero
zero-action (Insn.MoveTo op rs) s zero = zero-moved op (advanced s) (read s rs) zero
zero-action (Insn.Product op rs rt) s zero = zero
zero-action (Insn.Accumulate op rs rt) s zero = zero
zero-action (Insn.Count op rd rs) s zero = zero-write (advanced s) rd _ zero
zero-action (Insn.Trap op rs rt code) s zero = zero-trap s _ zero
zero-action (Insn.TrapImmediate op rs immediate) s zero = zero-trap s _ zero
zero-action (Insn.Jump op index) s zero = zero-call s _ zero
zero-action (Insn.Branch op rs rt offset) s zero = zero-after_branch s _ _ offset zero
zero-action (Insn.BranchZero op rs offset) s zero = zero-after_branch s _ _ offset zero
zero-action (Insn.BranchRegimm op rs offset) s zero =
    zero-after_branch (with_return_address_if s (is_regimm_branch_calling op)) (values.is_regimm_branch_likely op) (values.is_regimm_branch_taken op (read s rs)) offset
    (zero-call s (is_regimm_branch_calling op) zero)
zero-action (Insn.WithImmediate op rt rs immediate) s zero = zero-sets s rt _ zero
zero-action (Insn.LoadUpper rt immediate) s zero = zero-write (advanced s) rt _ zero
zero-action (Insn.Load op rt base offset) s zero = tt
zero-action (Insn.Store op rt base offset) s zero = tt
zero-action (Insn.Linked op rt base offset) s zero = zero-linked op rt _
zero-action (Insn.Prefetch hint base offset) s zero = zero

-- what an instruction leads to
abbrev ZeroEffect : Effect → Type 0
ZeroEffect (Effect.Goes after memory links) = IsZero after
ZeroEffect (Effect.Stops stop links) = Unit {0}

zero-unless : (memory : Memory) (links : LinkSet) (outcome : Result State Stop) → ZeroResult outcome → ZeroEffect (unless_stopped memory links outcome)
zero-unless memory links (Ok after) zero = zero
zero-unless memory links (Err stop) zero = tt

zero-stores : (cpu : ℕ) (s : State) (links : LinkSet) (address : ℕ) (stored : Result Memory Exc) → IsZero s → ZeroEffect (stores cpu s links address stored)
zero-stores cpu s links address (Ok stored) zero = zero
zero-stores cpu s links address (Err exc) zero = tt

zero-loads_linked : (cpu : ℕ) (s : State) (memory : Memory) (links : LinkSet) (rt address : ℕ) (word : Result ℕ Exc) → IsZero s →
    ZeroEffect (loads_linked cpu s memory links rt address word)
zero-loads_linked cpu s memory links rt address (Ok word) zero = zero-write (advanced s) rt word zero
zero-loads_linked cpu s memory links rt address (Err exc) zero = tt

zero-stores_if_linked : (cpu : ℕ) (s : State) (memory : Memory) (links : LinkSet) (rt address : ℕ) (yes_linked : Bool) (stored : Result Memory Exc) → IsZero s →
    ZeroEffect (stores_if_linked cpu s memory links rt address yes_linked stored)
zero-stores_if_linked cpu s memory links rt address true (Ok stored) zero = zero-write (advanced s) rt 1 zero
zero-stores_if_linked cpu s memory links rt address false (Ok stored) zero = zero-write (advanced s) rt 0 zero
zero-stores_if_linked cpu s memory links rt address yes_linked (Err exc) zero = tt

zero-done : (cpu : ℕ) (s : State) (memory : Memory) (links : LinkSet) (act : Action) → IsZero s → ZeroAction act → ZeroEffect (done cpu s memory links act)
zero-done cpu s memory links (Action.Local after) zero leads = leads
zero-done cpu s memory links (Action.MayStop outcome) zero leads = zero-unless memory links outcome leads
zero-done cpu s memory links (Action.Loads op rt address) zero leads =
    zero-unless memory links (with_word s rt (with_code (load_gives op memory address (read s rt)))) (zero-with_word s rt _ zero)
zero-done cpu s memory links (Action.Stores op rt address) zero leads = zero-stores cpu s links address (store_gives op memory address (read s rt)) zero
zero-done cpu s memory links (Action.LoadsLinked rt address) zero leads = zero-loads_linked cpu s memory links rt address (loaded32 memory address) zero
zero-done cpu s memory links (Action.StoresIfLinked rt address) zero leads =
    zero-stores_if_linked cpu s memory links rt address (is_linked links cpu address) (stored32 memory address (read s rt)) zero

zero-next : (cpu : ℕ) (s : State) (memory : Memory) (links : LinkSet) (next : Result Insn ExceptionCode) → IsZero s → ZeroEffect (of_next cpu s memory links next)
zero-next cpu s memory links (Ok insn) zero = zero-done cpu s memory links (action insn s) zero (zero-action insn s zero)
zero-next cpu s memory links (Err code) zero = tt

zero-ended : (s : State) (memory : Memory) (what : Effect) → IsZero s → ZeroEffect what → IsZero (ended what s memory).state
zero-ended s memory (Effect.Goes after stored left) zero leads = leads
zero-ended s memory (Effect.Stops Stop.Call left) zero leads = zero
zero-ended s memory (Effect.Stops (Stop.Raise code) left) zero leads = zero

pub zero-ran : (cpu : ℕ) (s : State) (memory : Memory) (links : LinkSet) → read s 0 ≡ 0 → read (ran cpu s memory links).state 0 ≡ 0
unfolding ran effect
zero-ran cpu s memory links zero =
    zero-ended s memory (effect cpu s memory links) zero (zero-next cpu s memory links (next_instruction s memory) zero)
