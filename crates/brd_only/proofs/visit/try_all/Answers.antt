use Rattle.std.proofs.Common.{sym, ◌∙◌, arith}
use Rattle.std.proofs.lemmas.Bool.{false≢true}
use Rattle.std.proofs.lemmas.List.{get_or_default}
use Rattle.brd_board.specs.declared.event.Event.TheVariants.{Step}
use Rattle.brd_spots.specs.Spots.{spot_of}
use Rattle.brd_spots.proofs.KnownLemmas.{more-same, more-then, spot-more}
use Rattle.brd_only.proofs.HeldLemmas.{gone-next}
use Rattle.brd_only.proofs.visit.try_all.Goals as goal

pub try_event-requires : goal.try_event-requires
try_event-requires c =
    spot-more c.args.spots.now c.loop-event.spots c.args.at (spot_of c.args.board.now c.args.margin) c.loop-event.invariant.more c.requires

pub loop-event-preserved-then-not-may_go : goal.loop-event-preserved-then-not-may_go
loop-event-preserved-then-not-may_go c = record {
  more = c.loop-event.invariant.more;
  gone =
      gone-next c.args.among.now c.args.regions.now c.args.wanted.now c.loop-event.spots c.loop-event.spots
      (spot_of c.args.board.now c.args.margin) c.loop-event.event-index _ (more-same c.loop-event.spots) c.loop-event.invariant.gone
      (λ may did. absurd (false≢true (sym c.if-not-may_go.true ∙ c.may_go.ensures ∙ may)))
      (get_or_default c.args.among.now c.loop-event.event-index (Step 0) _ c.loop-event-test.true) c.loop-event-test.true;
}

pub loop-event-preserved : goal.loop-event-preserved
loop-event-preserved c = record {
  more = more-then c.args.spots.now c.loop-event.spots c.try_event.new.spots c.loop-event.invariant.more c.try_event.ensures.more;
  gone =
      gone-next c.args.among.now c.args.regions.now c.args.wanted.now c.loop-event.spots c.try_event.new.spots
      (spot_of c.args.board.now c.args.margin) c.loop-event.event-index _ c.try_event.ensures.more c.loop-event.invariant.gone
      (λ may did. c.in_ok-try_event.ensures.held did)
      (get_or_default c.args.among.now c.loop-event.event-index (Step 0) _ c.loop-event-test.true) c.loop-event-test.true;
}

pub returns-clause-gone : goal.returns-clause-gone
returns-clause-gone c = λ k less may did.
    c.loop-event.invariant.gone k (omega (arith, less, c.loop-event-test.false, c.loop-event.auto.event-index-end)) may did
