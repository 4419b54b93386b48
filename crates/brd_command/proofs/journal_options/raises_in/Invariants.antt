-- the raises of the pieces so far
use Rattle.std.proofs.Common.{length}
use Rattle.brd_text.specs.Pieces.{pieces_of}
use Rattle.brd_command.proofs.JournalLemmas.{HasRead}
use Rattle.brd_command.proofs.journal_options.raises_in.Given as goal

abbrev pub invariant-pieces : goal.invariant-pieces
invariant-pieces l = HasRead l.text l.raises.items (pieces_of l.rest)

abbrev pub decreases-pieces : goal.decreases-pieces
decreases-pieces l = length l.rest
