use Rattle.brd_text.proofs.Spelled.{spelled}
use Rattle.brd_text.proofs.laws.spelled_tokens_are_scanned.Goals as goal

pub returns : goal.returns
returns c = λ bytes tokens s. spelled 1 bytes tokens s
