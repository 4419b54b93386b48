-- What events do to the links of the processors, and what links do to events.
use Rattle.std.specs.Prelude.{◌≡◌, ℕ, true, false}
use Rattle.brd_link.specs.LinkSet.{LinkSet, is_linked, is_same_block}
use Rattle.brd_exec.specs.Step.{next_instruction}
use Rattle.brd_board.specs.declared.event.Event.{Event}
use Rattle.brd_board.specs.declared.event.Event.TheVariants.{Step}
use Rattle.brd_board.specs.declared.event.Report.TheVariants as report
use Rattle.brd_board.specs.Board.{BoardState, Happened, happens}
use Rattle.brd_frames.specs.Agents.{Agent, context_in}
use Rattle.brd_frames.specs.Touching.{is_stored}
use Rattle.brd_frames.specs.Going.{IsNext, is_plain_next}

-- the board, and what has happened, with other links
abbrev pub with_links : BoardState → LinkSet → BoardState
with_links b links = record b { links = links }

abbrev pub happened_linked : Happened → LinkSet → Happened
happened_linked done links = record done { board = with_links done.board links }

-- two sets of links have the same of a processor
abbrev pub AreSameOf : ℕ → LinkSet → LinkSet → Type 0
AreSameOf cpu one two = (word : ℕ) → is_linked two cpu word ≡ is_linked one cpu word

-- A step that executes an instruction leaves the links of other processors, but those to words of a block to which it
-- stores.
abbrev pub OthersLaw : Type 0
OthersLaw =
    (b : BoardState) (cpu other word address : ℕ) → (other ≡ cpu → ⊥) →
    (happens b (Step cpu)).report ≡ report.Ran address →
    ((at : ℕ) → is_stored b (Step cpu) at ≡ true → is_same_block word at ≡ false) →
    is_linked (happens b (Step cpu)).board.links other word ≡ is_linked b.links other word

-- One that executes no LL and no SC leaves the link of its own processor.
abbrev pub OwnLaw : Type 0
OwnLaw =
    (b : BoardState) (cpu address : ℕ) (who : Agent) → IsNext b cpu who →
    (happens b (Step cpu)).report ≡ report.Ran address →
    is_plain_next (context_in b.kernel who) (next_instruction (context_in b.kernel who) b.memory) ≡ true →
    AreSameOf cpu b.links (happens b (Step cpu)).board.links

-- Whatever the links of other processors than the one that steps are, an event reports the same and does the same to
-- all but links; and the link of each processor follows from its own link before the event.
abbrev pub LinkLaw : Type 0
LinkLaw =
    (b : BoardState) (event : Event) (links : LinkSet) → ((cpu : ℕ) → event ≡ Step cpu → AreSameOf cpu b.links links) →
    (happens (with_links b links) event
    ≡ happened_linked (happens b event) (happens (with_links b links) event).board.links)
    × ((cpu : ℕ) → AreSameOf cpu b.links links →
    AreSameOf cpu (happens b event).board.links (happens (with_links b links) event).board.links)
