use Rattle.brd_kernel.proofs.DispatchLemmas.{dispatch-settles, dispatch-free, dispatch-held, dispatch-none}
use Rattle.brd_kernel.proofs.laws.dispatch_gives_each_its_first.Goals as goal

pub returns-clause-settled : goal.returns-clause-settled
returns-clause-settled c = dispatch-settles

pub returns-clause-free : goal.returns-clause-free
returns-clause-free c = dispatch-free

pub returns-clause-held : goal.returns-clause-held
returns-clause-held c = dispatch-held

pub returns-clause-none : goal.returns-clause-none
returns-clause-none c = dispatch-none
