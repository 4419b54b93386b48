use Rattle.brd_config.proofs.Accepted.{says_again}
use Rattle.brd_config.proofs.SaysBack.{says_back}
use Rattle.brd_config.proofs.laws.texts_follow_the_grammar.Goals as goal

pub returns : goal.returns
returns c = record { exact = λ text config. (says_back text config, says_again text config) }
