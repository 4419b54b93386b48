use Rattle.std.proofs.Common.{◌+◌, ◌*◌, arith}
use Rattle.brd_objects.proofs.PoolLemmas.{laid_long}
use Rattle.brd_objects.proofs.BlockLemmas.{laid-within, laid-apart, handed-stay, back-stay}
use Rattle.brd_objects.proofs.laws.blocks_lie_apart.Goals as goal

pub returns-clause-count : goal.returns-clause-count
returns-clause-count c setup = laid_long setup.count setup.distance setup.start

pub returns-clause-within : goal.returns-clause-within
returns-clause-within c setup some fits =
    laid-within setup.count setup.distance setup.start setup.start (setup.start + setup.count * setup.distance) some (omega arith) (omega arith) fits

pub returns-clause-apart : goal.returns-clause-apart
returns-clause-apart c setup some fits = laid-apart setup.count setup.distance setup.start some fits

pub returns-clause-handed : goal.returns-clause-handed
returns-clause-handed c p = handed-stay p

pub returns-clause-back : goal.returns-clause-back
returns-clause-back c p block = back-stay p block
