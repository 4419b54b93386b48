use Rattle.std.proofs.Common.{◌∙◌, ◌≡◌, ap, ap₂}
use Rattle.std.specs.Prelude.{Option, Some, pos}
use Rattle.clap.specs.Words.{Rule, rule_of}
use Rattle.clap.specs.declared.builder.value_parser.ValueParser.{ValueParser}
use Rattle.clap.specs.declared.builder.value_parser.ValueParser.TheVariants.{Signed}
use Rattle.brd_cli.proofs.usage.needed_count.Goals as goal

pub returns-clause-rule : goal.returns-clause-rule
returns-clause-rule c =
    let given = c.value_parser-2.ensures.given in
    let range : c.range.result ≡ Signed (pos 0) (pos 4294967295) = rw (c.value_parser.ensures, c.new.ensures.start, c.new.ensures.end) at c.range.ensures in
    let parser = given.1 ∙ ap Some (given.2 ∙ range) in
    ap rule_of c.value_parser-2.ensures.others
    ∙ ap₂ (λ (rule : Rule) (parser : Option ValueParser). record rule { parser = parser }) c.needed.ensures.rule parser
