-- the words of the places so far
use Rattle.std.proofs.Common.{◌≡◌, length}
use Rattle.brd_text.specs.Pieces.{pieces_of}
use Rattle.brd_printer.specs.Words.{all_words}
use Rattle.brd_printer.proofs.WordsLemmas.{behind}
use Rattle.brd_printer.proofs.words.add_words.Given as goal

abbrev pub invariant-pieces : goal.invariant-pieces
invariant-pieces l =
    behind l.fn.added (all_words l.symbols l.board (pieces_of l.text))
    ≡ behind l.added (all_words l.symbols l.board (pieces_of l.rest))

abbrev pub decreases-pieces : goal.decreases-pieces
decreases-pieces l = length l.rest
