use Rattle.std.proofs.Common.{arith}
use Rattle.brd_spots.proofs.KnownLemmas.{more-same, more-then}
use Rattle.brd_lazy.proofs.settle.settle_all.Goals as goal

pub loop-at-init : goal.loop-at-init
loop-at-init c = record {
  more = more-same c.args.spots.now;
  settled = λ k less. absurd (omega (arith, less));
}

pub loop-at-preserved : goal.loop-at-preserved
loop-at-preserved c = record {
  more = more-then c.args.spots.now c.loop-at.spots c.settle_next.new.spots c.loop-at.invariant.more c.settle_next.ensures.more;
  settled = c.in_ok-next.ensures.known c.args.spots.now c.loop-at.invariant.more c.requires c.loop-at.invariant.settled;
}

pub returns-clause-known : goal.returns-clause-known
returns-clause-known c = λ k less find p is there.
    c.loop-at.invariant.settled k (omega (arith, less, c.loop-at-test.false, c.loop-at.auto.at-end)) find p is there
