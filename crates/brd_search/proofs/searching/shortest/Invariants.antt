-- What was found so far is so.
use Rattle.std.specs.Prelude.{option_map}
use Rattle.brd_search.specs.Searches.{Answers}
use Rattle.brd_search.proofs.searching.shortest.Given as goal

abbrev pub invariant-loop-bounds : goal.invariant-loop-bounds
invariant-loop-bounds g l =
    Answers l.plan l.board l.best.bounds (option_map (λ events. events.items) l.best.schedule)

abbrev pub decreases-loop-bounds : goal.decreases-loop-bounds
decreases-loop-bounds g l = l.best.bounds.events
