use Rattle.brd_kernel.proofs.who_waits.FirstLemmas.{made-keeps}
use Rattle.brd_kernel.proofs.who_waits.ServiceLemmas.{serve-keeps, tick-keeps, fault-keeps}
use Rattle.brd_kernel.proofs.laws.who_waits_stands_in_its_list.Goals as goal

pub returns-clause-made : goal.returns-clause-made
returns-clause-made c = made-keeps

pub returns-clause-call : goal.returns-clause-call
returns-clause-call c = serve-keeps

pub returns-clause-tick : goal.returns-clause-tick
returns-clause-tick c = tick-keeps

pub returns-clause-fault : goal.returns-clause-fault
returns-clause-fault c = fault-keeps
