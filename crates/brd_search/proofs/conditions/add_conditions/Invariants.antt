-- the failures of the conditions so far
use Rattle.std.proofs.Common.{◌≡◌, length}
use Rattle.brd_text.specs.Pieces.{pieces_of}
use Rattle.brd_search.specs.Plans.{each_of, never_of}
use Rattle.brd_search.proofs.PlanLemmas.{behind}
use Rattle.brd_search.proofs.conditions.add_conditions.Given as goal

abbrev pub invariant-pieces : goal.invariant-pieces
invariant-pieces l =
    behind l.fn.failures (each_of (never_of l.symbols) (pieces_of l.text))
    ≡ behind l.failures (each_of (never_of l.symbols) (pieces_of l.rest))

abbrev pub decreases-pieces : goal.decreases-pieces
decreases-pieces l = length l.rest
