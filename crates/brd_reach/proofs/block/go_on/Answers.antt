use Rattle.std.proofs.Common.{arith}
use Rattle.brd_reach.proofs.block.go_on.Goals as goal

pub returns : goal.returns
returns c = λ well none walked.
    c.go_far.ensures c.args.place.now well (c.in_default.ensures c.args.place.now 0 well (omega arith) none walked)
