use Rattle.brd_ledgers.specs.Blanks.{names_of}
use Rattle.test_thread.proofs.tests.races.does_nothing.Given as goal

abbrev pub ghosts-ends_at_once : goal.ghosts-ends_at_once
ghosts-ends_at_once g a = record { names = names_of a.blanks }
