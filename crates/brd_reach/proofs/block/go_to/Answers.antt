use Rattle.std.proofs.Common.{refl, sym, subst, arith}
use Rattle.std.specs.Prelude.{◌+◌}
use Rattle.brd_reach.specs.Rounds.{HasWalked, sharing_for}
use Rattle.brd_reach.proofs.WalkLemmas.{walk-hidden, walk-visible}
use Rattle.brd_reach.proofs.LoopLemmas.{walk-stays}
use Rattle.brd_reach.proofs.block.go_to.Goals as goal

pub returns-in-Visible : goal.returns-in-Visible
returns-in-Visible c = λ b early well before kept walked.
    let at = c.loop-at.invariant b walked in
    walk-visible (sharing_for c.args.sharing.now c.args.wanted.now) b c.args.cpu c.loop-at.at c.loop-at.board c.step.new.board well at
    (c.in-Visible.ensures.is at.set) c.step.ensures.board

pub returns-then-same : goal.returns-then-same
returns-then-same c = λ b early well before kept walked.
    let at = c.loop-at.invariant b walked in
    let on = walk-hidden (sharing_for c.args.sharing.now c.args.wanted.now) b c.args.cpu c.loop-at.at c.loop-at.board c.step.new.board at
    (c.in-Invisible.ensures.is at.set) c.step.ensures.board in
    walk-stays (sharing_for c.args.sharing.now c.args.wanted.now) b c.args.cpu early (c.loop-at.at + 1) c.step.new.board (omega (arith, before, c.loop-at.auto.at)) well
    (subst (HasWalked (sharing_for c.args.sharing.now c.args.wanted.now) b c.args.cpu early) (sym (c.if-same.ensures.0 refl)) kept) on

pub returns : goal.returns
returns c = λ b early well before kept walked.
    subst (λ n. HasWalked (sharing_for c.args.sharing.now c.args.wanted.now) b c.args.cpu n c.loop-at.board)
    (omega (arith, c.loop-at-test.false, c.loop-at.auto.at-end)) (c.loop-at.invariant b walked)

pub loop-at-preserved : goal.loop-at-preserved
loop-at-preserved c = λ b walked.
    let at = c.loop-at.invariant b walked in
    walk-hidden (sharing_for c.args.sharing.now c.args.wanted.now) b c.args.cpu c.loop-at.at c.loop-at.board c.step.new.board at
    (c.in-Invisible.ensures.is at.set) c.step.ensures.board
