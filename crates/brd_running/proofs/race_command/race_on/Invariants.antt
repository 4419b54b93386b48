use Rattle.brd_ledgers.specs.Blanks.{names_of}
use Rattle.brd_running.proofs.race_command.race_on.Given as goal

abbrev pub ghosts-race : goal.ghosts-race
ghosts-race g a = record { names = names_of a.blanks }
