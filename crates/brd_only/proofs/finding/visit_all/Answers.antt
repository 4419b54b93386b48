use Rattle.std.proofs.Common.{subst, arith}
use Rattle.brd_only.specs.Finding.{VisitedSo}
use Rattle.brd_spots.proofs.KnownLemmas.{more-then, there-is}
use Rattle.brd_only.proofs.HeldLemmas.{done-next}
use Rattle.brd_only.proofs.finding.visit_all.Goals as goal

pub returns-then-at-len-clause-so : goal.returns-then-at-len-clause-so
returns-then-at-len-clause-so g c = λ at less p is. c.loop-at.invariant.done at (omega (arith, less, c.if-at-len.true, c.len.ensures)) p is

pub loop-at-preserved : goal.loop-at-preserved
loop-at-preserved g c =
    let here = there-is c.loop-at.spots c.loop-at.at (omega (arith, c.if-at-len.false, c.len.ensures)) in
    record {
      more = more-then c.args.spots.now c.loop-at.spots c.visit.new.spots c.loop-at.invariant.more c.visit.ensures.more;
      done = done-next c.args.among.now c.args.regions.now c.args.wanted.now c.loop-at.spots c.visit.new.spots
          c.loop-at.at here.0 c.loop-at.invariant.done c.visit.ensures.more here.1
          (subst (VisitedSo c.args.among.now c.args.regions.now c.args.wanted.now c.visit.new.spots here.0)
          c.in-Done.is (c.in_ok-visit.ensures.so here.0 here.1));
    }

pub returns-then-len-most-clause-so : goal.returns-then-len-most-clause-so
returns-then-len-most-clause-so g c = λ at less p is.
    c.loop-at.invariant.done at (omega (arith, less, c.if-len-most.true, c.len-2.ensures, c.loop-at-test.false)) p is
