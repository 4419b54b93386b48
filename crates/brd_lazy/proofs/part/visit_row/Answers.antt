use Rattle.std.proofs.Common.{subst, arith}
use Rattle.brd_reach.specs.Rounds.{sharing_for}
use Rattle.brd_spots.proofs.KnownLemmas.{more-same, more-then}
use Rattle.brd_lazy.specs.Finding.{VisitedSo}
use Rattle.brd_lazy.specs.Finds.{with_finds}
use Rattle.brd_lazy.proofs.FoundLemmas.{gone-next, gone-none}
use Rattle.brd_lazy.proofs.part.visit_row.Goals as goal

pub loop-at-init : goal.loop-at-init
loop-at-init c = record {
  more = more-same (with_finds c.args.spots.now c.args.finds.now.items);
  gone = gone-none (sharing_for c.args.sharing.now c.args.wanted.now) c.args.among.now c.args.wanted.now c.args.spots.now
      (with_finds c.args.spots.now c.args.finds.now.items) c.args.from;
}

pub loop-at-preserved : goal.loop-at-preserved
loop-at-preserved c =
    let by = sharing_for c.args.sharing.now c.args.wanted.now in
    let first = with_finds c.args.spots.now c.args.finds.now.items in
    let old = with_finds c.args.spots.now c.loop-at.finds.items in
    let new = with_finds c.args.spots.now c.visit.new.finds.items in
    record {
      more = more-then first old new c.loop-at.invariant.more c.visit.ensures.more;
      gone = gone-next by c.args.among.now c.args.wanted.now c.args.spots.now old new c.args.from c.loop-at.at c.visit.ensures.more
          c.loop-at.invariant.gone
          (λ p is. subst (VisitedSo by c.args.among.now c.args.wanted.now new p) c.in-Done.is (c.in_ok-visit.ensures.so p is));
    }

pub returns-clause-so : goal.returns-clause-so
returns-clause-so c = λ at low less p is.
    c.loop-at.invariant.gone at low (omega (arith, less, c.loop-at-test.false, c.loop-at.auto.at-end)) p is
