use Rattle.std.proofs.Common.{◌≤◌, length, subst, arith}
use Rattle.brd_reach.specs.Rounds.{sharing_for}
use Rattle.brd_spots.proofs.KnownLemmas.{more-then}
use Rattle.brd_lazy.specs.Finds.{GoneSo}
use Rattle.brd_lazy.proofs.FoundLemmas.{done-far, more-long}
use Rattle.brd_lazy.proofs.round.visit_all.Goals as goal

pub loop-at-preserved : goal.loop-at-preserved
loop-at-preserved g c =
    let by = sharing_for c.args.sharing.now c.args.wanted.now in
    let within : c.behind-upto.result ≤ length c.loop-at.spots =
    omega (arith, c.behind-upto.ensures.few, c.min.ensures, c.len-in-loop-at.ensures) in
    record {
      more = more-then c.args.spots.now c.loop-at.spots c.visit_some.new.spots c.loop-at.invariant.more c.visit_some.ensures.more;
      done = done-far by c.args.among.now c.args.wanted.now c.loop-at.spots c.visit_some.new.spots c.loop-at.at c.behind-upto.result
          c.visit_some.ensures.more within c.loop-at.invariant.done
          (subst (GoneSo by c.args.among.now c.args.wanted.now c.loop-at.spots c.visit_some.new.spots c.loop-at.at c.behind-upto.result)
          c.in-Holds.is c.in_ok-visit_some.ensures.so);
      within = omega (arith, within, more-long c.loop-at.spots c.visit_some.new.spots c.visit_some.ensures.more);
    }

pub returns-in-Fails-clause-more : goal.returns-in-Fails-clause-more
returns-in-Fails-clause-more g c =
    more-then c.args.spots.now c.loop-at.spots c.visit_some.new.spots c.loop-at.invariant.more c.visit_some.ensures.more

pub returns-in-Strays-clause-more : goal.returns-in-Strays-clause-more
returns-in-Strays-clause-more g c =
    more-then c.args.spots.now c.loop-at.spots c.visit_some.new.spots c.loop-at.invariant.more c.visit_some.ensures.more

pub returns-in-Unknown-clause-more : goal.returns-in-Unknown-clause-more
returns-in-Unknown-clause-more g c =
    more-then c.args.spots.now c.loop-at.spots c.visit_some.new.spots c.loop-at.invariant.more c.visit_some.ensures.more

pub returns-clause-so : goal.returns-clause-so
returns-clause-so g c = λ at less p is.
    c.loop-at.invariant.done at (omega (arith, less, c.loop-at-test.false, c.len.ensures)) p is
