use Rattle.std.proofs.Common.{sym, subst, ◌∙◌, arith}
use Rattle.std.proofs.lemmas.Bool.{false≢true}
use Rattle.std.proofs.lemmas.List.{get_or_default}
use Rattle.brd_board.specs.declared.event.Event.TheVariants.{Step}
use Rattle.brd_reach.specs.Rounds.{sharing_for}
use Rattle.brd_spots.specs.Spots.{spot_of}
use Rattle.brd_spots.proofs.KnownLemmas.{more-same, more-then}
use Rattle.brd_lazy.specs.Finding.{TriedSo}
use Rattle.brd_lazy.specs.Finds.{with_finds}
use Rattle.brd_lazy.proofs.FindLemmas.{tried-next}
use Rattle.brd_lazy.proofs.visit.try_all.Goals as goal

pub loop-event-preserved-then-not-affords : goal.loop-event-preserved-then-not-affords
loop-event-preserved-then-not-affords c =
    let seen = with_finds c.args.spots.now c.loop-event.finds.items in
    record {
      more = c.loop-event.invariant.more;
      tried = λ here.
          tried-next (sharing_for c.args.sharing.now c.args.wanted.now) c.args.among.now seen seen
          (spot_of c.args.board.now c.args.margin) c.loop-event.event-index _ (more-same seen) (c.loop-event.invariant.tried here)
          (λ left set. absurd (false≢true (sym c.if-not-affords.true ∙ c.affords.ensures ∙ left)))
          (get_or_default c.args.among.now c.loop-event.event-index (Step 0) _ c.loop-event-test.true) c.loop-event-test.true;
    }

pub loop-event-preserved : goal.loop-event-preserved
loop-event-preserved c =
    let first = with_finds c.args.spots.now c.args.finds.now.items in
    let old = with_finds c.args.spots.now c.loop-event.finds.items in
    let new = with_finds c.args.spots.now c.try_event.new.finds.items in
    record {
      more = more-then first old new c.loop-event.invariant.more c.try_event.ensures.more;
      tried = λ here.
          tried-next (sharing_for c.args.sharing.now c.args.wanted.now) c.args.among.now old new
          (spot_of c.args.board.now c.args.margin) c.loop-event.event-index _ c.try_event.ensures.more (c.loop-event.invariant.tried here)
          (λ left. subst (TriedSo (sharing_for c.args.sharing.now c.args.wanted.now) new
          (spot_of c.args.board.now c.args.margin) _) c.in-Done.is (c.in_ok-try_event.ensures.so here))
          (get_or_default c.args.among.now c.loop-event.event-index (Step 0) _ c.loop-event-test.true) c.loop-event-test.true;
    }

pub returns-clause-so : goal.returns-clause-so
returns-clause-so c = λ here set k less left.
    c.loop-event.invariant.tried here set k (omega (arith, less, c.loop-event-test.false, c.loop-event.auto.event-index-end)) left
