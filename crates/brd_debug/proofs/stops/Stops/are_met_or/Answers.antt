use Rattle.std.proofs.Common.{sym, ◌∙◌}
use Rattle.brd_debug.specs.Stops.{concerns}
use Rattle.brd_debug.proofs.StopLemmas.{none-met, both-met}
use Rattle.brd_debug.proofs.stops.Stops.are_met_or.Goals as goal

pub returns-then-concerns : goal.returns-then-concerns
returns-then-concerns c =
    both-met (concerns c.args.self.now.only c.args.event c.args.ahead.by) c.are_seen.result (sym c.concerns.ensures ∙ c.if-concerns.true) c.are_seen.ensures

pub returns : goal.returns
returns c = none-met (concerns c.args.self.now.only c.args.event c.args.ahead.by) (sym c.concerns.ensures ∙ c.if-concerns.false)
