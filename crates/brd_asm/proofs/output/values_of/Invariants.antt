use Rattle.std.proofs.Common.{◌≡◌, map, drop}
use Rattle.brd_source.specs.View as source
use Rattle.brd_asm.specs.Meaning.{values_of}
use Rattle.brd_asm.proofs.OutputLemmas.{in_front_of}
use Rattle.brd_asm.proofs.output.values_of.Given as goal

-- the values so far and those of what is left are those of all
abbrev pub invariant-loop-expression : goal.invariant-loop-expression
invariant-loop-expression l = in_front_of l.values (values_of l.line l.names (map source.expression_value (drop l.expression-index l.expressions))) ≡ values_of l.line l.names (map source.expression_value l.expressions)
