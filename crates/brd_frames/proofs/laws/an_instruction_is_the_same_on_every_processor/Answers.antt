use Rattle.brd_frames.proofs.GoingLemmas.{processor, goes-there}
use Rattle.brd_frames.proofs.laws.an_instruction_is_the_same_on_every_processor.Goals as goal

pub returns-clause-same : goal.returns-clause-same
returns-clause-same c = processor

pub returns-clause-each : goal.returns-clause-each
returns-clause-each c = goes-there
