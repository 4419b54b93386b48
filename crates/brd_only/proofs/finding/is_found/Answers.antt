use Rattle.std.proofs.Common.{sym, ◌∙◌}
use Rattle.std.proofs.lemmas.List.{get_or_default}
use Rattle.brd_board.specs.declared.event.Event.TheVariants.{Step}
use Rattle.brd_explore.specs.Schedules.{start}
use Rattle.brd_spots.specs.Spots.{spot_of}
use Rattle.brd_only.proofs.PathLemmas.{kept-on}
use Rattle.brd_only.proofs.finding.is_found.Goals as goal

pub loop-event-preserved : goal.loop-event-preserved
loop-event-preserved c =
    kept-on c.args.among.now c.args.regions.now (start c.args.board.now c.args.bounds)
    (spot_of c.loop-event.there c.loop-event.margin) (spot_of c.play.new.board c.in-Some.rest) c.args.events.now
    c.loop-event.event-index _ c.loop-event-test.true
    (sym (get_or_default c.args.events.now c.loop-event.event-index (Step 0) _ c.loop-event-test.true))
    c.loop-event.invariant (sym c.keeps_to.ensures ∙ c.if-not-keeps_to.false) c.in-Some.ensures
