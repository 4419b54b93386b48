use Rattle.brd_command.proofs.ReplayLemmas.{race_shows, race_again}
use Rattle.brd_command.proofs.laws.race_shows_the_headline.Goals as goal

pub returns-clause-headline : goal.returns-clause-headline
returns-clause-headline c = race_shows

pub returns-clause-again : goal.returns-clause-again
returns-clause-again c = race_again
