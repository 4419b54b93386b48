use Rattle.brd_ledgers.specs.Blanks.{names_of}
use Rattle.test_thread.proofs.tests.races.raced_on.Given as goal

abbrev pub ghosts-raced : goal.ghosts-raced
ghosts-raced g a = record { names = names_of a.blanks }
