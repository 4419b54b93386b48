use Rattle.brd_kernel.proofs.ProfileLemmas.{serve-alike, ticked-alike, fault-alike}
use Rattle.brd_kernel.proofs.laws.the_profile_stays.Goals as goal

pub returns-clause-call : goal.returns-clause-call
returns-clause-call c = serve-alike

pub returns-clause-tick : goal.returns-clause-tick
returns-clause-tick c = ticked-alike

pub returns-clause-fault : goal.returns-clause-fault
returns-clause-fault c = fault-alike
