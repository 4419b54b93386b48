use Rattle.brd_ledgers.specs.Blanks.{names_of}
use Rattle.test_thread.proofs.tests.station.goes_well.Given as goal

abbrev pub ghosts-is_so : goal.ghosts-is_so
ghosts-is_so a = record { names = names_of a.blanks }
