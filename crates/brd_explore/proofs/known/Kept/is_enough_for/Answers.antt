use Rattle.std.proofs.Common.{sym, ◌∙◌}
use Rattle.brd_explore.specs.Searching.{spot_of}
use Rattle.brd_explore.specs.Knowing.{spot_of_kept}
use Rattle.brd_explore.proofs.EnoughLemmas.{none-enough}
use Rattle.brd_explore.proofs.known.Kept.is_enough_for.Goals as goal

pub returns : goal.returns
returns c = λ wanted among may none is.
    none-enough wanted among c.args.more (spot_of_kept c.args.self.now) (spot_of c.args.search.now) may
    (c.same.ensures.0 is) (c.are_same.ensures c.if-not-are_same.false) (c.covers.ensures c.if-not-covers.false) (sym c.is_enough.ensures ∙ c.if-not-is_enough.false) none
