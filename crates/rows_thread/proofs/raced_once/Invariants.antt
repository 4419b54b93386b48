use Rattle.brd_ledgers.specs.Blanks.{names_of}
use Rattle.rows_thread.proofs.raced_once.Given as goal

abbrev pub ghosts-raced : goal.ghosts-raced
ghosts-raced g a = record { names = names_of a.blanks }
