-- What is told of registers is all that an instruction has changed of them.
use Rattle.std.proofs.Common.{◌≡◌, ℕ, suc, zero, List, [], ◌∷◌, refl, sym, ap, ◌∙◌}
use Rattle.std.specs.Prelude.{◌*◌, ◌%◌, ◌^◌, Bool, true, false, ◌==◌, if◌then◌else◌, slice_index, slice_set, Option, None, Some, Result, Ok, Err}
use Rattle.brd_isa.specs.declared.instruction.{Insn.Insn, LinkedOp.LinkedOp, MoveToOp.MoveToOp}
use Rattle.brd_isa.specs.Shapes.{return_register, is_jump_calling, is_regimm_branch_calling, shape_of}
use Rattle.brd_mem.specs.declared.fault.Exc.{Exc}
use Rattle.brd_mem.specs.Memory.{Memory}
use Rattle.brd_link.specs.LinkSet.{LinkSet}
use Rattle.brd_exec.specs.declared.outcome.ExceptionCode.{ExceptionCode}
use Rattle.brd_exec.specs.State.{State, read, write, advanced, with_register, jumped, after_branch, return_address_of, with_return_address_if, jump_target}
use Rattle.brd_exec.specs.Values.{Given, shift_gives, shift_variable_gives, multiply_gives, count_gives, traps, traps_immediate, is_likely, is_taken}
use Rattle.brd_exec.specs.Values.{is_zero_branch_likely, is_zero_branch_taken, is_regimm_branch_likely, is_regimm_branch_taken}
use Rattle.brd_exec.specs.Action.{with_word, sets, unless_trap, moved_from}
use Rattle.brd_exec.specs.Step.{Effect, unless_stopped, stores, loads_linked, stores_if_linked, done, meaning}
use Rattle.brd_happening.specs.declared.found.Found.{Found}
use Rattle.brd_happening.specs.declared.instruction.{Change.Change, Written.Written}
use Rattle.brd_happening.specs.Instruction.{written_in, changed_if}
use Rattle.brd_happening.specs.Telling.{with_written, with_change, TellsEffect}

-- a word that was written, read there and written again
set-again : (xs : List ℕ) (r word : ℕ) → slice_set xs r word ≡ slice_set xs r (slice_index (slice_set xs r word) r)
set-again [] r word = refl
set-again (x ∷ xs) zero word = refl
set-again (x ∷ xs) (suc r) word = ap (λ ys. x ∷ ys) (set-again xs r word)

-- Of an effect on a context, by what is told.

record Tells (s after : State) (register : Option Written) (hi lo : Option Change) : Type 0 where
  registers : after.registers ≡ with_written s.registers register
  high : after.hi ≡ with_change s.hi hi
  low : after.lo ≡ with_change s.lo lo

nothing-told : (s after : State) → after.registers ≡ s.registers → after.hi ≡ s.hi → after.lo ≡ s.lo → Tells s after None None None
nothing-told s after registers hi lo = record { registers = registers; high = hi; low = lo }

-- a register that was written, which may be register 0
by-zero : (z : Bool) (t : State) (r word : ℕ) →
    (if z then t else record t { registers = slice_set t.registers r word }).registers
    ≡ with_written t.registers (if z then None else Some (record {
      register = r;
      word = record {
        old = slice_index t.registers r;
        new = slice_index (if z then t else record t { registers = slice_set t.registers r word }).registers r;
      };
    }))
by-zero true t r word = refl
by-zero false t r word = set-again t.registers r word

hi-stays : (z : Bool) (t : State) (r word : ℕ) → (if z then t else record t { registers = slice_set t.registers r word }).hi ≡ t.hi
hi-stays true t r word = refl
hi-stays false t r word = refl

lo-stays : (z : Bool) (t : State) (r word : ℕ) → (if z then t else record t { registers = slice_set t.registers r word }).lo ≡ t.lo
lo-stays true t r word = refl
lo-stays false t r word = refl

set-told : (s : State) (r word : ℕ) → Tells s (with_register s r word) (written_in s (with_register s r word) (Some r)) None None
set-told s r word = record {
  registers = by-zero (r == 0) (advanced s) r word;
  high = hi-stays (r == 0) (advanced s) r word;
  low = lo-stays (r == 0) (advanced s) r word;
}

-- a jump that writes the return address
jump-told : (s : State) (r word target : ℕ) →
    Tells s (jumped (write s r word) target) (written_in s (jumped (write s r word) target) (Some r)) None None
jump-told s r word target = record {
  registers = by-zero (r == 0) s r word;
  high = hi-stays (r == 0) s r word;
  low = lo-stays (r == 0) s r word;
}

call-told : (s : State) (calls : Bool) (target : ℕ) →
    Tells s (jumped (with_return_address_if s calls) target) (written_in s (jumped (with_return_address_if s calls) target) (return_register calls)) None None
call-told s true target = jump-told s 31 (return_address_of s) target
call-told s false target = nothing-told s (jumped s target) refl refl refl

branch-told : (s : State) (likely taken : Bool) (offset : ℕ) → Tells s (after_branch s likely taken offset) None None None
branch-told s true true offset = nothing-told s _ refl refl refl
branch-told s true false offset = nothing-told s _ refl refl refl
branch-told s false true offset = nothing-told s _ refl refl refl
branch-told s false false offset = nothing-told s _ refl refl refl

-- a branch that calls, taken or not
calling-told : (s : State) (calls likely taken : Bool) (offset : ℕ) →
    Tells s (after_branch (with_return_address_if s calls) likely taken offset)
    (written_in s (after_branch (with_return_address_if s calls) likely taken offset) (return_register calls)) None None
calling-told s false likely taken offset = branch-told s likely taken offset
calling-told s true true true offset = record { registers = set-again s.registers 31 (return_address_of s); high = refl; low = refl }
calling-told s true true false offset = record { registers = set-again s.registers 31 (return_address_of s); high = refl; low = refl }
calling-told s true false true offset = record { registers = set-again s.registers 31 (return_address_of s); high = refl; low = refl }
calling-told s true false false offset = record { registers = set-again s.registers 31 (return_address_of s); high = refl; low = refl }

-- What an instruction does, that writes this register at most.

abbrev TellsGoes : State → Option ℕ → Effect → Type 0
TellsGoes s register (Effect.Goes after memory links) = Tells s after (written_in s after register) None None
TellsGoes s register (Effect.Stops stop links) = Unit {0}

told-word : (s : State) (memory : Memory) (links : LinkSet) (r : ℕ) (word : Result ℕ ExceptionCode) →
    TellsGoes s (Some r) (unless_stopped memory links (with_word s r word))
told-word s memory links r (Ok word) = set-told s r word
told-word s memory links r (Err code) = tt

told-sets : (cpu : ℕ) (s : State) (memory : Memory) (links : LinkSet) (r : ℕ) (given : Given) →
    TellsGoes s (Some r) (done cpu s memory links (sets s r given))
told-sets cpu s memory links r (Given.Always word) = set-told s r word
told-sets cpu s memory links r (Given.MayRaise given) = told-word s memory links r given

told-trap : (s : State) (memory : Memory) (links : LinkSet) (trap : Bool) → TellsGoes s None (unless_stopped memory links (unless_trap s trap))
told-trap s memory links true = tt
told-trap s memory links false = nothing-told s (advanced s) refl refl refl

told-store : (cpu : ℕ) (s : State) (links : LinkSet) (address : ℕ) (stored : Result Memory Exc) → TellsGoes s None (stores cpu s links address stored)
told-store cpu s links address (Ok stored) = nothing-told s (advanced s) refl refl refl
told-store cpu s links address (Err exc) = tt

told-load-linked : (cpu : ℕ) (s : State) (memory : Memory) (links : LinkSet) (r address : ℕ) (word : Result ℕ Exc) →
    TellsGoes s (Some r) (loads_linked cpu s memory links r address word)
told-load-linked cpu s memory links r address (Ok word) = set-told s r word
told-load-linked cpu s memory links r address (Err exc) = tt

told-conditional : (cpu : ℕ) (s : State) (memory : Memory) (links : LinkSet) (r address : ℕ) (linked : Bool) (stored : Result Memory Exc) →
    TellsGoes s (Some r) (stores_if_linked cpu s memory links r address linked stored)
told-conditional cpu s memory links r address true (Ok stored) = set-told s r 1
told-conditional cpu s memory links r address false (Ok stored) = set-told s r 0
told-conditional cpu s memory links r address linked (Err exc) = tt

to-effect : (insn : Insn) (found : Found) (held : Option ℕ) (register : Option ℕ) (effect : Effect) → (shape_of insn).writes.register ≡ register →
    (shape_of insn).writes.hi ≡ false → (shape_of insn).writes.lo ≡ false → TellsGoes found.context register effect → TellsEffect insn found held effect
to-effect insn found held register (Effect.Goes after memory links) is hi lo tells =
    let s = found.context in
    record {
      registers = tells.registers ∙ ap (λ r. with_written s.registers (written_in s after r)) (sym is);
      hi = tells.high ∙ ap (λ written. with_change s.hi (changed_if written s.hi after.hi)) (sym hi);
      lo = tells.low ∙ ap (λ written. with_change s.lo (changed_if written s.lo after.lo)) (sym lo);
    }
to-effect insn found held register (Effect.Stops stop links) is hi lo tells = tt

set-effect : (insn : Insn) (found : Found) (held : Option ℕ) (memory : Memory) (links : LinkSet) (r word : ℕ) → (shape_of insn).writes.register ≡ Some r →
    (shape_of insn).writes.hi ≡ false → (shape_of insn).writes.lo ≡ false → TellsEffect insn found held (Effect.Goes (with_register found.context r word) memory links)
set-effect insn found held memory links r word is hi lo =
    to-effect insn found held (Some r) (Effect.Goes (with_register found.context r word) memory links) is hi lo (set-told found.context r word)

pub effect-told : (cpu : ℕ) (insn : Insn) (found : Found) (memory : Memory) (links : LinkSet) (held : Option ℕ) →
    TellsEffect insn found held (meaning cpu insn found.context memory links)
effect-told cpu (Insn.Shift op rd rt sa) found memory links held =
    set-effect (Insn.Shift op rd rt sa) found held memory links rd (shift_gives op (read found.context rt) sa) refl refl refl
effect-told cpu (Insn.ShiftVariable op rd rt rs) found memory links held =
    set-effect (Insn.ShiftVariable op rd rt rs) found held memory links rd (shift_variable_gives op (read found.context rt) (read found.context rs % 2 ^ 5)) refl refl refl
effect-told cpu (Insn.ThreeRegisters op rd rs rt) found memory links held =
    to-effect (Insn.ThreeRegisters op rd rs rt) found held (Some rd) _ refl refl refl (told-sets cpu found.context memory links rd _)
effect-told cpu (Insn.Multiply rd rs rt) found memory links held =
    set-effect (Insn.Multiply rd rs rt) found held memory links rd (multiply_gives (read found.context rs) (read found.context rt)) refl refl refl
effect-told cpu (Insn.JumpRegister rs) found memory links held =
    record { registers = refl; hi = refl; lo = refl }
effect-told cpu (Insn.JumpLinkRegister rd rs) found memory links held =
    let tells = jump-told found.context rd (return_address_of found.context) (read found.context rs) in
    record { registers = tells.registers; hi = tells.high; lo = tells.low }
effect-told cpu (Insn.Syscall code) found memory links held = tt
effect-told cpu (Insn.Break code) found memory links held = tt
effect-told cpu Insn.Sync found memory links held = record { registers = refl; hi = refl; lo = refl }
effect-told cpu (Insn.MoveFrom op rd) found memory links held =
    set-effect (Insn.MoveFrom op rd) found held memory links rd (moved_from op found.context) refl refl refl
effect-told cpu (Insn.MoveTo MoveToOp.Mthi rs) found memory links held = record { registers = refl; hi = refl; lo = refl }
effect-told cpu (Insn.MoveTo MoveToOp.Mtlo rs) found memory links held = record { registers = refl; hi = refl; lo = refl }
effect-told cpu (Insn.Product op rs rt) found memory links held = record { registers = refl; hi = refl; lo = refl }
effect-told cpu (Insn.Accumulate op rs rt) found memory links held = record { registers = refl; hi = refl; lo = refl }
effect-told cpu (Insn.Count op rd rs) found memory links held =
    set-effect (Insn.Count op rd rs) found held memory links rd (count_gives op (read found.context rs)) refl refl refl
effect-told cpu (Insn.Trap op rs rt code) found memory links held =
    let s = found.context in
    to-effect (Insn.Trap op rs rt code) found held None _ refl refl refl (told-trap s memory links (traps op (read s rs) (read s rt)))
effect-told cpu (Insn.TrapImmediate op rs immediate) found memory links held =
    let s = found.context in
    to-effect (Insn.TrapImmediate op rs immediate) found held None _ refl refl refl (told-trap s memory links (traps_immediate op (read s rs) immediate))
effect-told cpu (Insn.Jump op index) found memory links held =
    let tells = call-told found.context (is_jump_calling op) (jump_target found.context index) in
    record { registers = tells.registers; hi = tells.high; lo = tells.low }
effect-told cpu (Insn.Branch op rs rt offset) found memory links held =
    let s = found.context in
    let tells = branch-told s (is_likely op) (is_taken op (read s rs) (read s rt)) offset in
    record { registers = tells.registers; hi = tells.high; lo = tells.low }
effect-told cpu (Insn.BranchZero op rs offset) found memory links held =
    let s = found.context in
    let tells = branch-told s (is_zero_branch_likely op) (is_zero_branch_taken op (read s rs)) offset in
    record { registers = tells.registers; hi = tells.high; lo = tells.low }
effect-told cpu (Insn.BranchRegimm op rs offset) found memory links held =
    let s = found.context in
    let tells = calling-told s (is_regimm_branch_calling op) (is_regimm_branch_likely op) (is_regimm_branch_taken op (read s rs)) offset in
    record { registers = tells.registers; hi = tells.high; lo = tells.low }
effect-told cpu (Insn.WithImmediate op rt rs immediate) found memory links held =
    to-effect (Insn.WithImmediate op rt rs immediate) found held (Some rt) _ refl refl refl (told-sets cpu found.context memory links rt _)
effect-told cpu (Insn.LoadUpper rt immediate) found memory links held =
    set-effect (Insn.LoadUpper rt immediate) found held memory links rt (immediate * 2 ^ 16) refl refl refl
effect-told cpu (Insn.Load op rt base offset) found memory links held =
    to-effect (Insn.Load op rt base offset) found held (Some rt) _ refl refl refl (told-word found.context memory links rt _)
effect-told cpu (Insn.Store op rt base offset) found memory links held =
    to-effect (Insn.Store op rt base offset) found held None _ refl refl refl (told-store cpu found.context links _ _)
effect-told cpu (Insn.Linked LinkedOp.Ll rt base offset) found memory links held =
    to-effect (Insn.Linked LinkedOp.Ll rt base offset) found held (Some rt) _ refl refl refl (told-load-linked cpu found.context memory links rt _ _)
effect-told cpu (Insn.Linked LinkedOp.Sc rt base offset) found memory links held =
    to-effect (Insn.Linked LinkedOp.Sc rt base offset) found held (Some rt) _ refl refl refl
    (told-conditional cpu found.context memory links rt _ _ _)
effect-told cpu (Insn.Prefetch hint base offset) found memory links held = record { registers = refl; hi = refl; lo = refl }
