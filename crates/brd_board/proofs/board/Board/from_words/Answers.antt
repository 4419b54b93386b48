-- The image's board is the words' board.
use Rattle.std.proofs.Common.{rules}
use Rattle.brd_board.proofs.BootLemmas.{boot-image_of_words}
use Rattle.brd_board.proofs.board.Board.from_words.Goals as goal

pub returns-clause-words : goal.returns-clause-words
returns-clause-words c = rw (← boot-image_of_words c.args.words.now) (search rules)
