use Rattle.brd_running.proofs.DebugLineLemmas.{again, says, unknown_says, says_unknown}
use Rattle.brd_command.proofs.laws.lines_follow_the_grammar.Goals as goal

pub returns-clause-says : goal.returns-clause-says
returns-clause-says c = λ line command known. (says line command known, again line command)

pub returns-clause-unknown : goal.returns-clause-unknown
returns-clause-unknown c = λ line. (unknown_says line, says_unknown line)
