use Rattle.brd_exec.proofs.KeptLemmas.{keeps-ran}
use Rattle.brd_exec.proofs.laws.what_stops_changes_nothing.Goals as goal

pub returns : goal.returns
returns c = keeps-ran
