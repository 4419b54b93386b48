use Rattle.brd_board.proofs.conditional_stores.ConditionalLemmas.{boot-conditional, boot-word}
use Rattle.brd_board.proofs.laws.conditional_stores.Goals as goal

pub returns-clause-exact : goal.returns-clause-exact
returns-clause-exact c = boot-conditional

pub returns-clause-word : goal.returns-clause-word
returns-clause-word c = boot-word
