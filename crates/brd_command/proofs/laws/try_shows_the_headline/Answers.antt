use Rattle.brd_command.proofs.TryLemmas.{try_shows}
use Rattle.brd_command.proofs.laws.try_shows_the_headline.Goals as goal

pub returns : goal.returns
returns c = try_shows
