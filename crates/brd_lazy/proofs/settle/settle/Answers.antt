use Rattle.std.proofs.Common.{arith}
use Rattle.std.proofs.lemmas.Option.{slice_get-get_or}
use Rattle.brd_spots.proofs.KnownLemmas.{more-same, more-then}
use Rattle.brd_lazy.proofs.FoundLemmas.{settled-next}
use Rattle.brd_lazy.proofs.settle.settle.Goals as goal

pub loop-find-init : goal.loop-find-init
loop-find-init c = record {
  more = more-same c.args.spots.now;
  settled = λ k less. absurd (omega (arith, less));
}

pub loop-find-preserved : goal.loop-find-preserved
loop-find-preserved c = record {
  more = more-then c.args.spots.now c.loop-find.spots c.settle_one.new.spots c.loop-find.invariant.more c.settle_one.ensures.more;
  settled =
      settled-next c.args.spots.now c.args.finds.now c.loop-find.find-index _ c.loop-find.spots c.settle_one.new.spots
      c.loop-find.invariant.more c.settle_one.ensures.more
      (slice_get-get_or c.args.finds.now c.loop-find.find-index _ c.loop-find-test.true) c.loop-find.invariant.settled
      (λ p there. c.in_ok-settle_one.ensures.known p there);
}

pub returns-clause-known : goal.returns-clause-known
returns-clause-known c = λ k less find p is there.
    c.loop-find.invariant.settled k (omega (arith, less, c.loop-find-test.false, c.loop-find.auto.find-index-end)) find p is there
