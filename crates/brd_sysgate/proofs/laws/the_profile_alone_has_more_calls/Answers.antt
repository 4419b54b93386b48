use Rattle.brd_sysgate.proofs.TableLemmas.{profile-refused, others-same}
use Rattle.brd_sysgate.proofs.laws.the_profile_alone_has_more_calls.Goals as goal

pub returns-clause-refused : goal.returns-clause-refused
returns-clause-refused c = profile-refused

pub returns-clause-others : goal.returns-clause-others
returns-clause-others c = others-same
