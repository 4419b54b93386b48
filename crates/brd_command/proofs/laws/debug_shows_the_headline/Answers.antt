use Rattle.brd_command.proofs.HeadlineLemmas.{debug_shows}
use Rattle.brd_command.proofs.laws.debug_shows_the_headline.Goals as goal

pub returns : goal.returns
returns g c = debug_shows
