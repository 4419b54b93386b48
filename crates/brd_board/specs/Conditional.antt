-- When an SC stores, and what its word was: the laws of LL and SC.
use Rattle.std.specs.Prelude.{◌≡◌, ℕ, Bool, true, false, if◌then◌else◌, MatchBool, List, [], ◌∷◌, Some, Ok}
use Rattle.brd_isa.specs.declared.instruction.Insn.TheVariants.{Linked}
use Rattle.brd_isa.specs.declared.instruction.LinkedOp.TheVariants.{Sc}
use Rattle.brd_mem.specs.Access.{loaded32, stored32}
use Rattle.brd_exec.specs.State.{State, read, with_register, address_of}
use Rattle.brd_exec.specs.Step.{next_instruction}
use Rattle.brd_exec.specs.Did.{Conditional}
use Rattle.brd_board.specs.declared.event.Event.{Event}
use Rattle.brd_board.specs.declared.event.Event.TheVariants.{Step}
use Rattle.brd_board.specs.declared.event.Report.TheVariants as report
use Rattle.brd_board.specs.Board.{BoardState, happens, after, registers_of}
use Rattle.brd_board.specs.History.{moves, history, IsReserved, HasReserved, Untouched}

-- A processor's next instruction is an SC of the word at an address, and a step does it and raises nothing.
pub record DoesConditional (b : BoardState) (cpu rt address : ℕ) : Type 0 where
  pub context : State
  pub register : ℕ
  pub offset : ℕ
  pub runs : registers_of b cpu ≡ Some context
  pub instruction : next_instruction context b.memory ≡ Ok (Linked Sc rt register offset)
  pub names : address ≡ address_of context register offset
  pub done : (happens b (Step cpu)).report ≡ report.Ran context.pc

-- What an SC leaves, by whether it stores: rt's word stored and 1 in rt, or nothing stored and 0 in rt; register 0
-- stays 0. It is remembered as what it did.
pub record Leaves (b : BoardState) (cpu rt address : ℕ) (context : State) (stores : Bool) : Type 0 where
  pub memory_is :
      MatchBool stores (stored32 b.memory address (read context rt) ≡ Ok (happens b (Step cpu)).board.memory)
      ((happens b (Step cpu)).board.memory ≡ b.memory)
  pub context_is : registers_of (happens b (Step cpu)).board cpu
      ≡ Some (with_register context rt (if stores then 1 else 0))
  pub moves_are : moves b (Step cpu) ≡ (record { processor = cpu; did = Conditional address stores }) ∷ []

-- After these events an SC that raises nothing stores exactly where its processor has a reservation of the word.
abbrev pub ConditionalLaw : BoardState → List Event → Type 0
ConditionalLaw board events =
    (cpu rt address : ℕ) (sc : DoesConditional (after board events) cpu rt address) →
    (HasReserved cpu address (history board events) → Leaves (after board events) cpu rt address sc.context true)
    × ((HasReserved cpu address (history board events) → ⊥) →
    Leaves (after board events) cpu rt address sc.context false)

-- Where a processor has a reservation of a word, and has itself stored nothing into the block since, the word is the
-- one that its LL loaded. An SC that comes next meets this word.
abbrev pub WordLaw : BoardState → List Event → Type 0
WordLaw board events =
    (cpu address word : ℕ) (reserved : IsReserved cpu address word (history board events)) →
    Untouched cpu address reserved.between →
    loaded32 (after board events).memory address ≡ Ok word
