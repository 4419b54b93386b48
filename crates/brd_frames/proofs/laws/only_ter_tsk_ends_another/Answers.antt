use Rattle.brd_frames.proofs.CommuteLemmas.{context-kept}
use Rattle.brd_frames.proofs.EndLemmas.{lives-on}
use Rattle.brd_frames.proofs.laws.only_ter_tsk_ends_another.Goals as goal

pub returns-clause-ends : goal.returns-clause-ends
returns-clause-ends c = lives-on

pub returns-clause-context : goal.returns-clause-context
returns-clause-context c = context-kept
