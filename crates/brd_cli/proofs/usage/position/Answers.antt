use Rattle.std.proofs.Common.{◌∙◌, ap, ap₂}
use Rattle.std.specs.Prelude.{Option, Some}
use Rattle.clap.specs.Words.{Rule, rule_of}
use Rattle.clap.specs.declared.builder.value_parser.ValueParser.{ValueParser}
use Rattle.brd_cli.proofs.usage.position.Goals as goal

pub returns-clause-rule : goal.returns-clause-rule
returns-clause-rule c =
    let given = c.value_parser-2.ensures.given in
    let parser = given.1 ∙ ap Some (given.2 ∙ c.value_parser.ensures) in
    ap rule_of c.value_parser-2.ensures.others
    ∙ ap₂ (λ (rule : Rule) (parser : Option ValueParser). record rule { parser = parser }) c.valued.ensures.rule parser
