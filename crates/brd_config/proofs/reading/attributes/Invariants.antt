use Rattle.std.proofs.Common.{◌≤◌, length}
use Rattle.brd_text.proofs.TurnLemmas.{Goes}
use Rattle.brd_config.specs.declared.fault.ConfigFault.TheVariants.{NoMemory}
use Rattle.brd_config.specs.Reading.{attribute_step, attributes_at}
use Rattle.brd_config.proofs.reading.attributes.Given as goal

abbrev pub invariant-attributes : goal.invariant-attributes
invariant-attributes l = record {
  goes : Goes NoMemory (attribute_step l.names l.end) (length l.tokens.tokens) (l.bits, l.tokens) (attributes_at l.names l.end l.fn.tokens);
  room : length l.tokens.tokens ≤ length l.fn.tokens.tokens;
}

abbrev pub decreases-attributes : goal.decreases-attributes
decreases-attributes l = length l.tokens.tokens
