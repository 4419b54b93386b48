use Rattle.brd_shrink.proofs.SettledLemmas.{better-so}
use Rattle.brd_shrink.proofs.moving.better.Goals as goal

pub returns-then-branch-clause-some : goal.returns-then-branch-clause-some
returns-then-branch-clause-some c =
    better-so c.args.wanted.now c.args.board.now c.args.events.now c.in_ok-moved.moved.items c.as_slice-tried.result.now c.args.from c.args.middle c.args.to
    c.switches.result c.switches-2.result c.in_ok-fails.field-0 c.requires.order.0 c.requires.order.1 c.in_ok-moved.ensures c.as_slice-tried.ensures.value
    c.switches.ensures c.switches-2.ensures c.if-switches.true
    c.in_ok-fails.ensures c.if-branch.true
