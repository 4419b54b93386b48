use Rattle.brd_explore.proofs.LawLemmas.{board-after}
use Rattle.brd_explore.proofs.laws.a_schedule_is_its_events.Goals as goal

pub returns : goal.returns
returns c = board-after
