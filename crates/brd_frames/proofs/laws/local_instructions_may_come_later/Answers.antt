use Rattle.brd_frames.proofs.CommuteLemmas.{locals}
use Rattle.brd_frames.proofs.laws.local_instructions_may_come_later.Goals as goal

pub returns : goal.returns
returns c = locals
