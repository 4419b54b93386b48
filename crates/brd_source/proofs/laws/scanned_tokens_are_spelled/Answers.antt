use Rattle.brd_source.proofs.SpelledBack.{spelled_back}
use Rattle.brd_source.proofs.laws.scanned_tokens_are_spelled.Goals as goal

pub returns : goal.returns
returns c = spelled_back
