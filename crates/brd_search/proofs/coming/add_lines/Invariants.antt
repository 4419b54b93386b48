-- the raises of the lines so far
use Rattle.std.proofs.Common.{◌≡◌, length}
use Rattle.brd_text.specs.Pieces.{pieces_of}
use Rattle.brd_search.specs.Plans.{each_of, raise_of}
use Rattle.brd_search.proofs.PlanLemmas.{behind}
use Rattle.brd_search.proofs.coming.add_lines.Given as goal

abbrev pub invariant-pieces : goal.invariant-pieces
invariant-pieces l =
    behind l.fn.events (each_of raise_of (pieces_of l.text)) ≡ behind l.events (each_of raise_of (pieces_of l.rest))

abbrev pub decreases-pieces : goal.decreases-pieces
decreases-pieces l = length l.rest
