use Rattle.brd_source.proofs.Spelled.{spelled}
use Rattle.brd_source.proofs.laws.spelled_tokens_are_scanned.Goals as goal

pub returns : goal.returns
returns c = λ bytes tokens s. spelled bytes tokens s
