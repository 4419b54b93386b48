use Rattle.brd_ledgers.specs.Blanks.{names_of}
use Rattle.test_thread.proofs.tests.station.commits_well.Given as goal

abbrev pub ghosts-is_committed : goal.ghosts-is_committed
ghosts-is_committed a = record { names = names_of a.blanks }
