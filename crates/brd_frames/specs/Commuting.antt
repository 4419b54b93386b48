-- Which events may change places with instructions of an agent.
use Rattle.std.specs.Prelude.{◌≡◌, ℕ, true, false, List, [], ◌∷◌, ◌++◌, replicate, Option, Some}
use Rattle.std.specs.Option.{option_map}
use Rattle.brd_link.specs.LinkSet.{LinkSet, is_linked, is_same_block}
use Rattle.brd_mem.specs.Window.{window_start, window_at}
use Rattle.brd_exec.specs.State.{State}
use Rattle.brd_exec.specs.Lent.{lent}
use Rattle.brd_board.specs.declared.event.Event.{Event}
use Rattle.brd_board.specs.declared.event.Event.TheVariants.{Step}
use Rattle.brd_board.specs.declared.event.Report.TheVariants as report
use Rattle.brd_board.specs.Board.{BoardState, reported, happens, after}
use Rattle.brd_frames.specs.Agents.{Agent, context_in}
use Rattle.brd_frames.specs.Apart.{IsApart, AreApart}
use Rattle.brd_frames.specs.Touching.{touches, stores, is_touched, is_stored}
use Rattle.brd_frames.specs.Going.{Gone, goes, with_gone, IsNext}

-- Local instructions.

-- Local instructions of an agent may come after events that are apart from it, where it executes again after them, on
-- whichever processor, and the window of its code is then the same.
abbrev pub LocalsLaw : Type 0
LocalsLaw =
    (b : BoardState) (events : List Event) (who : Agent) (cpu there count address : ℕ) (s : State) (window : List ℕ) →
    IsNext b cpu who → window_at b.memory address ≡ Some window →
    lent count (context_in b.kernel who) window (window_start address) ≡ Some s → AreApart b events who →
    IsNext (after b events) there who → window_at (after b events).memory address ≡ Some window →
    after b (replicate count (Step cpu) ++ events) ≡ after b (events ++ replicate count (Step there))

-- Instructions that load and store.

-- The board after the next instruction of an agent, whether or not it executes anywhere just now, no link being ended;
-- none where `goes` has none.
abbrev pub agent_goes : BoardState → Agent → Option BoardState
agent_goes b who = option_map (with_gone b who b.links) (goes (context_in b.kernel who) b.memory)

-- An event is independent of the next instruction of an agent: it is apart from the agent, touches no byte to which the
-- instruction stores, and stores to none that the instruction touches.
pub record IsIndependent (b : BoardState) (event : Event) (who : Agent) : Type 0 where
  pub apart : IsApart b event who
  pub unread : (address : ℕ) → stores (context_in b.kernel who) b.memory address ≡ true →
      is_touched b event address ≡ false
  pub unwritten : (address : ℕ) → touches (context_in b.kernel who) b.memory address ≡ true →
      is_stored b event address ≡ false

-- each of these events is, where it happens
abbrev pub AreIndependent : BoardState → List Event → Agent → Type 0
AreIndependent b [] who = Unit {0}
AreIndependent b (event ∷ events) who =
    IsIndependent b event who × AreIndependent (happens b event).board events who

-- An event and an instruction of an agent that it is independent of come to the same board in either order, and the
-- event reports the same.
abbrev pub IndependentLaw : Type 0
IndependentLaw =
    (b new : BoardState) (event : Event) (who : Agent) → IsIndependent b event who → agent_goes b who ≡ Some new →
    (agent_goes (happens b event).board who ≡ Some (happens new event).board)
    × ((happens new event).report ≡ (happens b event).report)

abbrev pub IndependentsLaw : Type 0
IndependentsLaw =
    (b new : BoardState) (events : List Event) (who : Agent) → AreIndependent b events who →
    agent_goes b who ≡ Some new → agent_goes (after b events) who ≡ Some (after new events)

-- no other processor is linked to a word of the block of an address
abbrev pub IsUnlinked : LinkSet → ℕ → ℕ → Type 0
IsUnlinked links cpu address =
    (other word : ℕ) → (other ≡ cpu → ⊥) → is_same_block word address ≡ true → is_linked links other word ≡ false

-- if the next instruction of an agent stores, it ends no link of a processor other than this one
abbrev pub EndsNoLink : BoardState → ℕ → Agent → Type 0
EndsNoLink b cpu who =
    (gone : Gone) (address : ℕ) → goes (context_in b.kernel who) b.memory ≡ Some gone → gone.stored ≡ Some address →
    IsUnlinked b.links cpu address

-- then a step of a processor on which the agent executes leads to just that board, whichever processor it is
abbrev pub AgentLaw : Type 0
AgentLaw =
    (b new : BoardState) (cpu : ℕ) (who : Agent) → IsNext b cpu who → agent_goes b who ≡ Some new →
    EndsNoLink b cpu who → happens b (Step cpu) ≡ reported new (report.Ran (context_in b.kernel who).pc)

-- So such a step may come before or after events that are independent of it.
abbrev pub SwapLaw : Type 0
SwapLaw =
    (b new : BoardState) (events : List Event) (who : Agent) (cpu there : ℕ) →
    IsNext b cpu who → agent_goes b who ≡ Some new → EndsNoLink b cpu who → AreIndependent b events who →
    IsNext (after b events) there who → EndsNoLink (after b events) there who →
    after b (Step cpu ∷ events) ≡ after b (events ++ Step there ∷ [])
