use Rattle.std.proofs.Common.{refl, sym, subst, arith}
use Rattle.std.specs.Prelude.{◌+◌}
use Rattle.brd_reach.specs.Rounds.{sharing_for}
use Rattle.brd_lazy.specs.Finding.{HasWalked}
use Rattle.brd_lazy.proofs.FindLemmas.{walked-block, walked-more}
use Rattle.brd_lazy.proofs.LoopLemmas.{walk-ever}
use Rattle.brd_lazy.proofs.block.go_to.Goals as goal

pub returns-in-Visible-clause-is : goal.returns-in-Visible-clause-is
returns-in-Visible-clause-is c = λ b most more kept walked.
    let at = c.loop-at.invariant b walked in
    let it = walked-block (sharing_for c.args.sharing.now c.args.wanted.now) b c.loop-at.board c.step.new.board c.args.cpu c.loop-at.at at
    (c.in-Visible.ensures.is at.set) c.step.ensures.board in
    (omega (arith, more, c.loop-at-test.true, c.loop-at.auto.at-end), it.0, it.1)

pub returns-then-same-clause-is : goal.returns-then-same-clause-is
returns-then-same-clause-is c = λ b most more kept walked.
    let at = c.loop-at.invariant b walked in
    let on = walked-more (sharing_for c.args.sharing.now c.args.wanted.now) b c.loop-at.board c.step.new.board c.args.cpu c.loop-at.at at
    (c.in-Invisible.ensures.is at.set) c.step.ensures.board in
    walk-ever (sharing_for c.args.sharing.now c.args.wanted.now) b c.args.cpu c.args.count (c.loop-at.at + 1) c.step.new.board most
    (omega (arith, c.loop-at.auto.at))
    (subst (HasWalked (sharing_for c.args.sharing.now c.args.wanted.now) b c.args.cpu c.args.count) (sym (c.if-same.ensures.0 refl)) kept) on

pub returns-clause-is : goal.returns-clause-is
returns-clause-is c = λ b most more kept walked.
    subst (λ n. HasWalked (sharing_for c.args.sharing.now c.args.wanted.now) b c.args.cpu n c.loop-at.board)
    (omega (arith, c.loop-at-test.false, c.loop-at.auto.at-end)) (c.loop-at.invariant b walked)

pub loop-at-preserved : goal.loop-at-preserved
loop-at-preserved c = λ b walked.
    let at = c.loop-at.invariant b walked in
    walked-more (sharing_for c.args.sharing.now c.args.wanted.now) b c.loop-at.board c.step.new.board c.args.cpu c.loop-at.at at
    (c.in-Invisible.ensures.is at.set) c.step.ensures.board
