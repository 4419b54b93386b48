use Rattle.std.proofs.Common.{subst, arith}
use Rattle.brd_reach.specs.Rounds.{VisitedSo, sharing_for}
use Rattle.brd_reach.proofs.RoundLemmas.{done-next, get-more, more-then, there-is}
use Rattle.brd_reach.proofs.round.visit_all.Goals as goal

pub returns-then-at-len-clause-so : goal.returns-then-at-len-clause-so
returns-then-at-len-clause-so c = λ at less place is. c.loop-at.invariant.done at (omega (arith, less, c.if-at-len.true, c.len.ensures)) place is

pub returns-in_err-visit-clause-more : goal.returns-in_err-visit-clause-more
returns-in_err-visit-clause-more c =
    let here = there-is c.loop-at.places c.loop-at.at (omega (arith, c.if-at-len.false, c.len.ensures)) in
    more-then c.args.places.now c.loop-at.places c.visit.new.places c.loop-at.invariant.more (c.visit.ensures.more here.0 here.1)

pub returns-in-Fails-clause-more : goal.returns-in-Fails-clause-more
returns-in-Fails-clause-more c =
    let here = there-is c.loop-at.places c.loop-at.at (omega (arith, c.if-at-len.false, c.len.ensures)) in
    more-then c.args.places.now c.loop-at.places c.visit.new.places c.loop-at.invariant.more (c.visit.ensures.more here.0 here.1)

pub returns-in-Fails-clause-so : goal.returns-in-Fails-clause-so
returns-in-Fails-clause-so c =
    let here = there-is c.loop-at.places c.loop-at.at (omega (arith, c.if-at-len.false, c.len.ensures)) in (
      here.0,
      get-more c.loop-at.places c.visit.new.places c.loop-at.at here.0 (c.visit.ensures.more here.0 here.1) here.1,
      subst (VisitedSo (sharing_for c.args.sharing.now c.args.wanted.now) c.args.among.now c.args.wanted.now c.visit.new.places here.0) c.in-Fails.is
          (c.in_ok-visit.ensures.so here.0 here.1),
    )

pub returns-in-Strays-clause-more : goal.returns-in-Strays-clause-more
returns-in-Strays-clause-more c =
    let here = there-is c.loop-at.places c.loop-at.at (omega (arith, c.if-at-len.false, c.len.ensures)) in
    more-then c.args.places.now c.loop-at.places c.visit.new.places c.loop-at.invariant.more (c.visit.ensures.more here.0 here.1)

pub returns-in-Unknown-clause-more : goal.returns-in-Unknown-clause-more
returns-in-Unknown-clause-more c =
    let here = there-is c.loop-at.places c.loop-at.at (omega (arith, c.if-at-len.false, c.len.ensures)) in
    more-then c.args.places.now c.loop-at.places c.visit.new.places c.loop-at.invariant.more (c.visit.ensures.more here.0 here.1)

pub loop-at-preserved : goal.loop-at-preserved
loop-at-preserved c =
    let here = there-is c.loop-at.places c.loop-at.at (omega (arith, c.if-at-len.false, c.len.ensures)) in
    let more = c.visit.ensures.more here.0 here.1 in
    record {
      more = more-then c.args.places.now c.loop-at.places c.visit.new.places c.loop-at.invariant.more more;
      done = done-next (sharing_for c.args.sharing.now c.args.wanted.now) c.args.among.now c.args.wanted.now c.loop-at.places c.visit.new.places c.loop-at.at here.0
          c.loop-at.invariant.done more here.1
          (subst (VisitedSo (sharing_for c.args.sharing.now c.args.wanted.now) c.args.among.now c.args.wanted.now c.visit.new.places here.0) c.in-Done.is
          (c.in_ok-visit.ensures.so here.0 here.1));
    }
