use Rattle.std.proofs.Common.{sym, subst, arith}
use Rattle.brd_reach.specs.Rounds.{sharing_for}
use Rattle.brd_lazy.specs.Finding.{HasWalked}
use Rattle.brd_lazy.proofs.LoopLemmas.{ends-more, walk-cut}
use Rattle.brd_lazy.proofs.block.go_far.Goals as goal

pub go_to-requires : goal.go_to-requires
go_to-requires c = c.next_stop-upto.ensures.low (omega (arith, c.if-done-most.false))

pub returns-then-done-most-clause-is : goal.returns-then-done-most-clause-is
returns-then-done-most-clause-is c = λ b walked.
    walk-cut (sharing_for c.args.sharing.now c.args.wanted.now) b c.args.cpu c.loop.done c.loop.board c.args.most
    (omega (arith, c.if-done-most.true)) (c.loop.invariant b walked)

pub returns-in-Some-clause-is : goal.returns-in-Some-clause-is
returns-in-Some-clause-is c = λ b walked.
    let at = c.loop.invariant b walked in
    c.in-Some.ensures.is b c.args.most c.next_stop-upto.ensures.high
    (subst (HasWalked (sharing_for c.args.sharing.now c.args.wanted.now) b c.args.cpu c.loop.done) (sym c.in_ok-kept.ensures) at) at

pub returns-in-Some-clause-few : goal.returns-in-Some-clause-few
returns-in-Some-clause-few c = ends-more c.next_stop-upto.result c.args.most c.in-Some.block c.next_stop-upto.ensures.high c.in-Some.ensures.few

pub loop-preserved : goal.loop-preserved
loop-preserved c = λ b walked.
    let at = c.loop.invariant b walked in
    c.in_default.ensures.is b c.args.most c.next_stop-upto.ensures.high
    (subst (HasWalked (sharing_for c.args.sharing.now c.args.wanted.now) b c.args.cpu c.loop.done) (sym c.in_ok-kept.ensures) at) at
