use Rattle.std.proofs.Common.{length}
use Rattle.brd_text.proofs.TurnLemmas.{Goes}
use Rattle.brd_config.specs.declared.fault.ConfigFault.TheVariants.{NoMemory}
use Rattle.brd_config.specs.Meaning.{statement_step, statements_from}
use Rattle.brd_config.specs.View.{state_of}
use Rattle.brd_config.proofs.parser.finished.Given as goal

abbrev pub invariant-statements : goal.invariant-statements
invariant-statements l = Goes NoMemory statement_step (length l.tokens.tokens) (state_of l.draft, l.tokens) (statements_from (state_of l.fn.draft, l.fn.tokens))

abbrev pub decreases-statements : goal.decreases-statements
decreases-statements l = length l.tokens.tokens
