-- Lent steps: instructions that are done in a context, by a copy of 64 words of code, and by nothing else.
use Rattle.std.specs.Prelude.{◌≡◌, ℕ, zero, suc, ◌+◌, ◌-◌, ◌/◌, ◌%◌, ◌==◌, nat_le, nat_lt, Bool, true, false, ◌&&◌}
use Rattle.std.specs.Prelude.{if◌then◌else◌, List, slice_index, Option, None, Some}
use Rattle.brd_isa.specs.declared.instruction.Insn.{Insn}
use Rattle.brd_isa.specs.Decoding.{decoded}
use Rattle.brd_exec.specs.State.{State}
use Rattle.brd_exec.specs.Action.{local_meaning}
use Rattle.brd_exec.specs.Step.{has_slot}

-- The word at an address, where the window has it: the address is a multiple of 4, and one of the 64 words from the
-- address `start` on begins there.
abbrev pub word_in : List ℕ → ℕ → ℕ → Option ℕ
word_in window start address =
    if address % 4 == 0 && nat_le start address && nat_lt address (start + 256) && (address - start) % 4 == 0 then
    Some (slice_index window ((address - start) / 4)) else None

-- An instruction can be done so where it is local, and no branch or jump in a delay slot.
abbrev pub lent_insn : State → Option Insn → Option State
lent_insn s None = None
lent_insn s (Some insn) = if s.slot && has_slot insn then None else local_meaning insn s

abbrev pub lent_word : State → Option ℕ → Option State
lent_word s None = None
lent_word s (Some word) = lent_insn s (decoded word)

-- the context after the next instruction, where the window has its word and it is lent
unfoldable pub lent_step : State → List ℕ → ℕ → Option State
lent_step s window start = lent_word s (word_in window start s.pc)

abbrev pub lent_on : Option State → List ℕ → ℕ → Option State
lent_on None window start = None
lent_on (Some s) window start = lent_step s window start

-- the context after n lent steps; none where there aren't n
abbrev pub lent : ℕ → State → List ℕ → ℕ → Option State
lent zero s window start = Some s
lent (suc count) s window start = lent_on (lent count s window start) window start

-- what a function that does a lent step, where there is one, has left and answered
abbrev pub DoesLent : Option State → State → Bool → State → Type 0
DoesLent None old result new = (result ≡ false) × (new ≡ old)
DoesLent (Some after) old result new = (result ≡ true) × (new ≡ after)
