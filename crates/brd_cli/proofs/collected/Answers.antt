use Rattle.std.proofs.Common.{◌∙◌}
use Rattle.brd_cli.proofs.WordsLemmas.{given_to_the_end}
use Rattle.brd_cli.proofs.collected.Goals as goal

pub returns : goal.returns
returns c = let ran = c.in_ok-words.ensures.ran in ran.2.0 ∙ given_to_the_end ran.0 c.args.words ran.1
