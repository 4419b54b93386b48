-- A processor that goes on alone.
use Rattle.std.proofs.Common.{◌≡◌, ℕ, zero, suc, List, [], ◌∷◌, ◌++◌, length, length-append, refl, sym, ap, subst, ◌∙◌, arith}
use Rattle.std.specs.Prelude.{◌≢◌, Some, true}
use Rattle.std.proofs.lemmas.Bool.{false≢true}
use Rattle.brd_exec.specs.State.{State}
use Rattle.brd_board.specs.declared.event.Event.TheVariants.{Step}
use Rattle.brd_board.specs.Board.{BoardState, happens, registers_of}
use Rattle.brd_spins.specs.declared.turn.Turn.{Turn}
use Rattle.brd_spins.specs.declared.turn.Turn.TheVariants.{Reads, Asks, Other}
use Rattle.brd_spins.specs.Spins.{alone, turn_of, reads, AreTurns, HasGone}

pub reads-is : (turn : Turn) → reads turn ≡ true → turn ≡ Reads
reads-is Reads is = refl
reads-is (Asks lock) is = absurd (false≢true is)
reads-is Other is = absurd (false≢true is)

alone-more : (b : BoardState) (cpu n : ℕ) → alone b cpu (suc n) ≡ (happens (alone b cpu n) (Step cpu)).board
alone-more b cpu zero = refl
alone-more b cpu (suc n) = alone-more (happens b (Step cpu)).board cpu n

turns-more : (states : List State) (b : BoardState) (cpu : ℕ) (state : State) → AreTurns b cpu states →
    registers_of (alone b cpu (length states)) cpu ≡ Some state → turn_of (alone b cpu (length states)) cpu ≡ Reads →
    AreTurns b cpu (states ++ state ∷ [])
turns-more [] b cpu state turns registers turn = (registers, turn, tt)
turns-more (s ∷ states) b cpu state turns registers turn =
    (turns.0, turns.1, turns-more states (happens b (Step cpu)).board cpu state turns.2 registers turn)

pub gone-more : (b : BoardState) (cpu : ℕ) (states : List State) (board next : BoardState) (state : State) → HasGone b cpu states board →
    registers_of board cpu ≡ Some state → turn_of board cpu ≡ Reads → next ≡ (happens board (Step cpu)).board →
    HasGone b cpu (states ++ state ∷ []) next
gone-more b cpu states board next state gone registers turn leaves =
    let more : suc (length states) ≡ length (states ++ state ∷ []) = omega (arith, length-append states (state ∷ [])) in
    record {
      turns = turns-more states b cpu state gone.turns
          (subst (λ (x : BoardState). registers_of x cpu ≡ Some state) gone.there registers)
          (subst (λ (x : BoardState). turn_of x cpu ≡ Reads) gone.there turn);
      there = leaves ∙ ap (λ (x : BoardState). (happens x (Step cpu)).board) gone.there ∙ sym (alone-more b cpu (length states))
          ∙ ap (alone b cpu) more;
    }

same-some : (a b : State) → Some a ≡ Some b → a ≡ b
same-some a b is = cc

-- its registers after so many steps are others than those with which it began
pub differ : (b : BoardState) (cpu : ℕ) (board : BoardState) (states : List State) (n : ℕ) (first state : State) → HasGone b cpu states board →
    length states ≡ n → registers_of b cpu ≡ Some first → Some state ≡ registers_of board cpu → (state ≡ first → ⊥) →
    registers_of (alone b cpu n) cpu ≢ registers_of b cpu
differ b cpu board states n first state gone long begins now other again =
    let there : board ≡ alone b cpu n = gone.there ∙ ap (alone b cpu) long in
    other (same-some state first (now ∙ ap (λ (x : BoardState). registers_of x cpu) there ∙ again ∙ begins))
