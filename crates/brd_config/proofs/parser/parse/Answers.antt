use Rattle.std.proofs.Common.{Result, subst}
use Rattle.brd_config.specs.declared.fault.ConfigFault.{ConfigFault}
use Rattle.brd_config.specs.Configuration.{Configuration}
use Rattle.brd_config.specs.Faults.{Gives}
use Rattle.brd_config.specs.View.{view}
use Rattle.brd_config.proofs.Accepted.{says_again}
use Rattle.brd_config.proofs.SaysBack.{plain_text}
use Rattle.brd_config.proofs.parser.parse.Goals as goal

pub returns-clause-plain : goal.returns-clause-plain
returns-clause-plain c = λ none. subst (λ (read : Result Configuration ConfigFault). Gives view c.parsed.result read) (plain_text c.args.text.now none) c.parsed.ensures

pub returns-clause-grammar : goal.returns-clause-grammar
returns-clause-grammar c = λ config says. subst (λ (read : Result Configuration ConfigFault). Gives view c.parsed.result read) (says_again c.args.text.now config says) c.parsed.ensures
