use Rattle.std.proofs.Common.{◌≡◌, inl, inr, true, subst, ◌∙◌, arith}
use Rattle.brd_board.specs.declared.event.Event.TheVariants.{Step}
use Rattle.brd_board.specs.Board.{BoardState, happens}
use Rattle.brd_frames.specs.Reducing.{IsQuiet}
use Rattle.brd_reach.specs.Rounds.{sharing_for}
use Rattle.brd_lazy.specs.Finding.{HasWalked}
use Rattle.brd_lazy.proofs.FindLemmas.{walked-block, walked-more, walked-zero}
use Rattle.brd_lazy.proofs.block.go_few.Goals as goal

pub returns-in-Visible-clause-is : goal.returns-in-Visible-clause-is
returns-in-Visible-clause-is c = λ most more set.
    let walked = c.loop-at.invariant set in
    let it = walked-block (sharing_for c.args.sharing.now c.args.wanted.now) c.args.board.now c.loop-at.board c.step.new.board c.args.cpu c.loop-at.at walked
    (c.in-Visible.ensures.is walked.set) c.step.ensures.board in
    (omega (arith, more, c.loop-at-test.true, c.loop-at.auto.at-end), it.0, it.1)

pub returns-in-Accepted-clause-is : goal.returns-in-Accepted-clause-is
returns-in-Accepted-clause-is c = λ most more set.
    let walked = c.loop-at.invariant set in
    let same = walked-zero (sharing_for c.args.sharing.now c.args.wanted.now) c.args.board.now c.loop-at.board c.args.cpu c.loop-at.at walked c.if-at-eq0.true in
    subst (λ (b : BoardState). IsQuiet b (Step c.args.cpu) × (c.step.new.board ≡ (happens b (Step c.args.cpu)).board)) same
    (c.in-Accepted.ensures.is walked.set, c.step.ensures.board)

pub returns-in-Off-clause-is : goal.returns-in-Off-clause-is
returns-in-Off-clause-is c = λ most more set.
    let walked = c.loop-at.invariant set in
    let same = walked-zero (sharing_for c.args.sharing.now c.args.wanted.now) c.args.board.now c.loop-at.board c.args.cpu c.loop-at.at walked c.if-at-eq0-2.true in
    let off = c.in-Off.ensures.is walked.set in
    (inl (subst (λ (b : BoardState). b.kernel.off ≡ true) same off.0), c.step.ensures.board ∙ off.1 ∙ same)

pub returns-in-Nothing-clause-is : goal.returns-in-Nothing-clause-is
returns-in-Nothing-clause-is c = λ most more set.
    let walked = c.loop-at.invariant set in
    let same = walked-zero (sharing_for c.args.sharing.now c.args.wanted.now) c.args.board.now c.loop-at.board c.args.cpu c.loop-at.at walked c.if-at-eq0-3.true in
    let nothing = c.in-Nothing.ensures.is walked.set in
    (inr (subst (λ (b : BoardState). IsQuiet b (Step c.args.cpu)) same nothing.quiet), c.step.ensures.board ∙ nothing.same ∙ same)

pub returns-clause-is : goal.returns-clause-is
returns-clause-is c = λ most more set.
    subst (λ n. HasWalked (sharing_for c.args.sharing.now c.args.wanted.now) c.args.board.now c.args.cpu n c.loop-at.board)
    (omega (arith, c.loop-at-test.false, c.loop-at.auto.at-end)) (c.loop-at.invariant set)

pub loop-at-preserved : goal.loop-at-preserved
loop-at-preserved c = λ set.
    let walked = c.loop-at.invariant set in
    walked-more (sharing_for c.args.sharing.now c.args.wanted.now) c.args.board.now c.loop-at.board c.step.new.board c.args.cpu c.loop-at.at walked
    (c.in-Invisible.ensures.is walked.set) c.step.ensures.board
