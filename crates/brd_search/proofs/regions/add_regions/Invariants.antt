-- the regions of the pieces so far
use Rattle.std.proofs.Common.{◌≡◌, length}
use Rattle.brd_text.specs.Pieces.{pieces_of}
use Rattle.brd_search.specs.Plans.{each_of, region_of}
use Rattle.brd_search.proofs.PlanLemmas.{behind}
use Rattle.brd_search.proofs.regions.add_regions.Given as goal

abbrev pub invariant-pieces : goal.invariant-pieces
invariant-pieces l =
    behind l.fn.regions (each_of (region_of l.symbols) (pieces_of l.text))
    ≡ behind l.regions (each_of (region_of l.symbols) (pieces_of l.rest))

abbrev pub decreases-pieces : goal.decreases-pieces
decreases-pieces l = length l.rest
