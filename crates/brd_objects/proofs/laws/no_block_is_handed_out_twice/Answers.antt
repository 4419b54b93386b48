use Rattle.brd_objects.proofs.BlockLemmas.{was-there, all-are-out, none-is-there}
use Rattle.brd_objects.proofs.laws.no_block_is_handed_out_twice.Goals as goal

pub returns-clause-there : goal.returns-clause-there
returns-clause-there c p block apart found = was-there p block apart found

pub returns-clause-none : goal.returns-clause-none
returns-clause-none c p = (all-are-out p, none-is-there p)
