use Rattle.std.proofs.Common.{◌≡◌, ◌+◌, length, length-append, inl, inr, sym, ap, ◌∙◌, subst, List, [], ◌∷◌, ◌++◌, arith}
use Rattle.std.specs.Prelude.{None, Some}
use Rattle.std.proofs.lemmas.Bool.{false≢true}
use Rattle.brd_exec.specs.State.{State}
use Rattle.brd_board.specs.Board.{BoardState, registers_of}
use Rattle.brd_spins.specs.Spins.{alone, reads, turn_of, AreOther, HasGone}
use Rattle.brd_spins.proofs.LoopLemmas.{halted, other-first, other-more, too-long, turns-at}
use Rattle.brd_spins.proofs.TurnLemmas.{gone-more, reads-is, differ}
use Rattle.brd_spins.proofs.looping.go_round.Goals as goal

pub loop-i-init : goal.loop-i-init
loop-i-init c = λ b first gone one. (gone, one, other-first b c.args.cpu)

pub loop-i-preserved : goal.loop-i-preserved
loop-i-preserved c = λ b first gone one.
    let so_far = c.loop-i.invariant b first gone one in
    let pushed = c.in_ok-push.ensures.ok in
    let reads = sym c.in_ok-turn.ensures.is ∙ reads-is c.in_ok-turn.turn (sym c.reads.ensures ∙ c.if-not-reads.false) in
    let long : length (c.loop-i.states ++ c.in-Some.state ∷ []) ≡ length c.loop-i.states + 1 = length-append c.loop-i.states (c.in-Some.state ∷ []) in (
      subst (λ (them : List State). HasGone b c.args.cpu them c.take_turn.new.board) (sym pushed)
          (gone-more b c.args.cpu c.loop-i.states c.loop-i.board c.take_turn.new.board c.in-Some.state so_far.0 (sym c.in-Some.ensures) reads c.in_ok-turn.ensures.board),
      ap length pushed ∙ long ∙ ap (λ n. n + 1) so_far.1,
      other-more b c.args.cpu (c.loop-i.i + 1) so_far.2
          (differ b c.args.cpu c.loop-i.board c.loop-i.states (c.loop-i.i + 1) c.args.first.now c.in-Some.state so_far.0 so_far.1 first c.in-Some.ensures
          (λ same. false≢true (sym c.if-same.false ∙ c.same.ensures.1 same))),
    )

pub returns-then-same : goal.returns-then-same
returns-then-same c = λ b first gone one.
    let so_far = c.loop-i.invariant b first gone one in
    let again = sym c.in-Some.ensures ∙ ap (λ (s : State). Some s) (c.same.ensures.0 c.if-same.true) ∙ sym first in (
      sym so_far.1,
      record {
        some = omega (arith, so_far.1);
        few = omega (arith, so_far.1, c.loop-i-test.true);
        turns = so_far.0.turns;
        again = subst (λ (x : BoardState). registers_of x c.args.cpu ≡ registers_of b c.args.cpu) so_far.0.there again;
        least = subst (λ n. AreOther b c.args.cpu n) (sym so_far.1) so_far.2;
      },
    )

-- It has no registers any more.
pub returns-in_default : goal.returns-in_default
returns-in_default c = λ b first gone one.
    let so_far = c.loop-i.invariant b first gone one in
    let there = so_far.0.there ∙ ap (alone b c.args.cpu) so_far.1 in
    let none = ap (λ (x : BoardState). registers_of x c.args.cpu) (sym there) ∙ sym c.in_default.ensures in
    halted b c.args.cpu (c.loop-i.i + 1) (turns-at c.args.states.now b c.args.cpu 0 gone.turns (omega (arith, one)))
    (other-more b c.args.cpu (c.loop-i.i + 1) so_far.2 (λ again. none-some c.args.first.now (sym none ∙ again ∙ first))) (inl none)
  where
    none-some : (s : State) → None ≡ Some s → ⊥
    none-some s is = cc

-- It does something else.
pub returns-then-not-reads : goal.returns-then-not-reads
returns-then-not-reads c = λ b first gone one.
    let so_far = c.loop-i.invariant b first gone one in
    let there = so_far.0.there ∙ ap (alone b c.args.cpu) so_far.1 in
    let turn = ap (λ (x : BoardState). turn_of x c.args.cpu) there in
    halted b c.args.cpu (c.loop-i.i + 1) (turns-at c.args.states.now b c.args.cpu 0 gone.turns (omega (arith, one)))
    (other-more b c.args.cpu (c.loop-i.i + 1) so_far.2
    (differ b c.args.cpu c.loop-i.board c.loop-i.states (c.loop-i.i + 1) c.args.first.now c.in-Some.state so_far.0 so_far.1 first c.in-Some.ensures
    (λ same. false≢true (sym c.if-same.false ∙ c.same.ensures.1 same))))
    (inr (λ is. false≢true (sym c.if-not-reads.true ∙ c.reads.ensures ∙ ap reads (c.in_ok-turn.ensures.is ∙ turn ∙ is))))

-- It has gone on for longer than any loop.
pub returns : goal.returns
returns c = λ b first gone one.
    let so_far = c.loop-i.invariant b first gone one in
    too-long b c.args.cpu (c.loop-i.i + 1) (turns-at c.args.states.now b c.args.cpu 0 gone.turns (omega (arith, one)))
    (omega (arith, c.loop-i-test.false)) so_far.2
