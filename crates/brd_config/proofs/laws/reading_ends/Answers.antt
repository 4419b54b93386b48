use Rattle.brd_config.proofs.ReadingEnds.{text_ends}
use Rattle.brd_config.proofs.laws.reading_ends.Goals as goal

pub returns : goal.returns
returns c = text_ends
