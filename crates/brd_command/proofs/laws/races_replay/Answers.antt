use Rattle.brd_command.proofs.ReplayLemmas.{replays}
use Rattle.brd_command.proofs.laws.races_replay.Goals as goal

pub returns : goal.returns
returns c = replays
