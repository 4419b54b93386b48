use Rattle.brd_ledgers.specs.Blanks.{names_of}
use Rattle.rows_thread.proofs.stationed_once.Given as goal

abbrev pub ghosts-stationed : goal.ghosts-stationed
ghosts-stationed a = record { names = names_of a.blanks }
