use Rattle.brd_threads.proofs.ProcessorLemmas.{booted_are, booted_many}
use Rattle.brd_threads.proofs.laws.processors_are_the_configured_ones.Goals as goal

pub returns-clause-which : goal.returns-clause-which
returns-clause-which c = booted_are

pub returns-clause-many : goal.returns-clause-many
returns-clause-many c = booted_many
