use Rattle.std.proofs.Common.{ap, ◌∙◌}
use Rattle.brd_journal.specs.Reading.{run_of_line}
use Rattle.brd_journal.proofs.FieldLemmas.{line_is, line_again}
use Rattle.brd_journal.proofs.laws.lines_follow_the_grammar.Goals as goal

pub returns : goal.returns
returns c = λ line run. (line_is line run, (λ spells. ap run_of_line spells.text ∙ line_again run spells.can))
