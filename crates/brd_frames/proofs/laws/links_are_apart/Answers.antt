use Rattle.brd_frames.proofs.LinkLemmas.{others-kept, own-kept, links-alike}
use Rattle.brd_frames.proofs.laws.links_are_apart.Goals as goal

pub returns-clause-others : goal.returns-clause-others
returns-clause-others c = others-kept

pub returns-clause-own : goal.returns-clause-own
returns-clause-own c = own-kept

pub returns-clause-event : goal.returns-clause-event
returns-clause-event c = links-alike
