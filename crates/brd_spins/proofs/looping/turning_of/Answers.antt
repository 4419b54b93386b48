use Rattle.std.proofs.Common.{◌≡◌, length, sym, ap, ◌∙◌, subst, List, [], ◌∷◌, ◌++◌}
use Rattle.brd_exec.specs.State.{State}
use Rattle.brd_board.specs.declared.event.Event.TheVariants.{Step}
use Rattle.brd_board.specs.Board.{BoardState, happens}
use Rattle.brd_spins.specs.Spins.{HasGone, turn_of}
use Rattle.brd_spins.proofs.LoopLemmas.{does-other, has-none}
use Rattle.brd_spins.proofs.looping.turning_of.Goals as goal

pub returns-in-Reads : goal.returns-in-Reads
returns-in-Reads c =
    let b = c.args.board.now in
    let cpu = c.args.cpu in
    let first = c.in-Some.first in
    let states : c.push.new.self ≡ first ∷ [] = c.in_ok-push.ensures.ok ∙ ap
    (λ (them : List State). them ++ first ∷ []) c.new-states.ensures in
    let registers = sym c.in-Some.ensures in
    let reads = ap (λ (x : BoardState). turn_of x cpu) (sym c.in_ok-copy.ensures) ∙ sym c.in_ok-turn.ensures.is ∙
    c.in-Reads.is in
    let gone : HasGone b cpu (first ∷ []) c.take_turn.new.board = record {
      turns = (registers, reads, tt);
      there = c.in_ok-turn.ensures.board ∙ ap (λ (x : BoardState). (happens x (Step cpu)).board) c.in_ok-copy.ensures;
    } in
    record {
      is = c.in_ok-what-in-Reads.ensures b registers
          (subst (λ (them : List State). HasGone b cpu them c.take_turn.new.board) (sym states) gone)
          (ap length states);
      who = c.standing-who.ensures;
    }

pub returns-in-Asks : goal.returns-in-Asks
returns-in-Asks c = record {
  is = record {
    state = c.in-Some.first;
    only = c.in_ok-push.ensures.ok ∙ ap (λ (them : List State). them ++ c.in-Some.first ∷ []) c.new-states.ensures;
    registers = sym c.in-Some.ensures;
    asks = ap (λ (x : BoardState). turn_of x c.args.cpu) (sym c.in_ok-copy.ensures) ∙ sym c.in_ok-turn.ensures.is ∙
        c.in-Asks.is;
  };
  who = c.standing-who.ensures;
}

pub returns-in_default : goal.returns-in_default
returns-in_default c = record {
  is = has-none c.args.board.now c.args.cpu (sym c.in_default.ensures);
  who =
      c.standing-who.ensures;
}

pub returns : goal.returns
returns c = record {
  is = does-other c.args.board.now c.args.cpu
      (ap (λ (x : BoardState). turn_of x c.args.cpu) (sym c.in_ok-copy.ensures) ∙ sym c.in_ok-turn.ensures.is ∙
      c.in-Other.is);
  who = c.standing-who.ensures;
}
