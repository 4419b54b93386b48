use Rattle.brd_command.proofs.HeadlineLemmas.{run_shows}
use Rattle.brd_command.proofs.laws.run_shows_the_headline.Goals as goal

pub returns : goal.returns
returns c = run_shows
