use Rattle.brd_ledgers.specs.Blanks.{names_of}
use Rattle.test_command.proofs.tests.race.race_failing.Given as goal

abbrev pub ghosts-race : goal.ghosts-race
ghosts-race g a = record { names = names_of a.blanks }
