use Rattle.std.proofs.Common.{sym, subst, arith}
use Rattle.brd_reach.specs.Rounds.{HasWalked, sharing_for}
use Rattle.brd_reach.proofs.block.go_far.Goals as goal

pub returns-in-Some-go_to : goal.returns-in-Some-go_to
returns-in-Some-go_to c = λ b well walked.
    let at = c.loop.invariant b well walked in
    c.in-Some-go_to.ensures b c.loop.count well (omega arith)
    (subst (HasWalked (sharing_for c.args.sharing.now c.args.wanted.now) b c.args.cpu c.loop.count) (sym c.in_ok-kept.ensures) at) at

pub loop-preserved : goal.loop-preserved
loop-preserved c = λ b well walked.
    let at = c.loop.invariant b well walked in
    c.in_default-go_to.ensures b c.loop.count well (omega arith)
    (subst (HasWalked (sharing_for c.args.sharing.now c.args.wanted.now) b c.args.cpu c.loop.count) (sym c.in_ok-kept.ensures) at) at
