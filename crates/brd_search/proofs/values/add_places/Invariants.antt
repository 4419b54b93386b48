-- the addresses of the places so far
use Rattle.std.proofs.Common.{◌≡◌, length}
use Rattle.brd_text.specs.Pieces.{pieces_of}
use Rattle.brd_search.specs.Plans.{each_of, listed_at}
use Rattle.brd_search.proofs.PlanLemmas.{behind}
use Rattle.brd_search.proofs.values.add_places.Given as goal

abbrev pub invariant-pieces : goal.invariant-pieces
invariant-pieces l =
    behind l.fn.words (each_of (listed_at l.symbols) (pieces_of l.text))
    ≡ behind l.words (each_of (listed_at l.symbols) (pieces_of l.rest))

abbrev pub decreases-pieces : goal.decreases-pieces
decreases-pieces l = length l.rest
