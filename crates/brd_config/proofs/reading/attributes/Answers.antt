use Rattle.std.proofs.Common.{length, refl, arith}
use Rattle.brd_text.proofs.TurnLemmas.{goes_from, flow_more, flow_done, goes_fails}
use Rattle.brd_config.specs.declared.fault.ConfigFault.TheVariants.{NoMemory}
use Rattle.brd_config.specs.Faults.{is_no_memory}
use Rattle.brd_config.specs.Reading.{attribute_step, attributes_at}
use Rattle.brd_config.proofs.reading.attributes.Goals as goal

pub attributes-init : goal.attributes-init
unfolding attributes_at
attributes-init c = record { goes = goes_from NoMemory (attribute_step c.args.names c.args.end) (length c.args.tokens.now.tokens) (0, c.args.tokens.now) _ refl; room = omega arith }

pub attributes-preserved : goal.attributes-preserved
attributes-preserved c = record {
  goes = flow_more NoMemory (attribute_step c.args.names c.args.end) (length c.attributes.tokens.tokens) (length c.joined.new.tokens.tokens) (c.attributes.bits, c.attributes.tokens) (c.in-Ok.all, c.joined.new.tokens) (c.in-Ok.all, c.joined.new.tokens) c.in-Ok.more (attributes_at c.args.names c.args.end c.args.tokens.now) c.attributes.invariant.goes c.in-Ok.ensures.read c.if-more.true c.in-Ok.ensures.shorter;
  room = omega (arith, c.in-Ok.ensures.shorter, c.attributes.invariant.room);
}

pub returns-in-Ok-clause-read : goal.returns-in-Ok-clause-read
returns-in-Ok-clause-read c = flow_done NoMemory (attribute_step c.args.names c.args.end) (length c.attributes.tokens.tokens) (c.attributes.bits, c.attributes.tokens) (c.in-Ok.all, c.joined.new.tokens) (c.in-Ok.all, c.joined.new.tokens) c.in-Ok.more (attributes_at c.args.names c.args.end c.args.tokens.now) c.attributes.invariant.goes c.in-Ok.ensures.read c.if-more.false

pub returns-in-Ok-clause-shorter : goal.returns-in-Ok-clause-shorter
returns-in-Ok-clause-shorter c = omega (arith, c.in-Ok.ensures.shorter, c.attributes.invariant.room)

pub returns-in-Err-clause-read : goal.returns-in-Err-clause-read
returns-in-Err-clause-read c = goes_fails is_no_memory NoMemory (attribute_step c.args.names c.args.end) (length c.attributes.tokens.tokens) (c.attributes.bits, c.attributes.tokens) c.in-Err.fault (attributes_at c.args.names c.args.end c.args.tokens.now) c.attributes.invariant.goes c.in-Err.ensures.read
