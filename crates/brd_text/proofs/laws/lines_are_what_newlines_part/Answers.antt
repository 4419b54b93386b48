use Rattle.brd_text.proofs.LineLemmas.{joined, apart, only_lines}
use Rattle.brd_text.proofs.laws.lines_are_what_newlines_part.Goals as goal

pub returns : goal.returns
returns c = record { joined = joined; apart = apart; only = only_lines }
