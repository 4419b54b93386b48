use Rattle.brd_ranges.proofs.EntryLemmas.{found_last, found_none}
use Rattle.brd_ranges.proofs.ranges.Ranges.overlaps.Goals as goal

pub returns-in-Some : goal.returns-in-Some
returns-in-Some g c = rw (← c.self.view_is) (found_last c.self.inside.size c.args.low c.args.high c.self.inside.ends.entries c.range.result c.next_back.new.self _ c.self.invariant (c.range.ensures.between tt) c.in-Some.ensures.steps)

pub returns-in-None : goal.returns-in-None
returns-in-None g c = rw (← c.self.view_is) (found_none c.args.low c.args.high c.self.inside.ends.entries c.range.result (c.range.ensures.between tt) c.in-None.ensures.steps.0)
