use Rattle.brd_objects.proofs.PoolLemmas.{handed-is-out, handed-others, back-is-there, passed, back-others}
use Rattle.brd_objects.proofs.laws.a_block_is_out_until_it_comes_back.Goals as goal

pub returns-clause-handed : goal.returns-clause-handed
returns-clause-handed c p block is = handed-is-out p block is

pub returns-clause-others : goal.returns-clause-others
returns-clause-others c p block other is apart = handed-others p block other is apart

pub returns-clause-back : goal.returns-clause-back
returns-clause-back c p block nobody = back-is-there p block nobody

pub returns-clause-passed : goal.returns-clause-passed
returns-clause-passed c p block id is = passed p block id is

pub returns-clause-stay : goal.returns-clause-stay
returns-clause-stay c p block other apart = back-others p block other apart
