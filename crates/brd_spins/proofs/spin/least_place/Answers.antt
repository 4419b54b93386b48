use Rattle.std.proofs.Common.{◌∙◌, ap, arith}
use Rattle.std.specs.Prelude.{min}
use Rattle.brd_spins.proofs.StateLemmas.{least-more}
use Rattle.brd_spins.proofs.spin.least_place.Goals as goal

pub loop-i-preserved : goal.loop-i-preserved
loop-i-preserved c = record {
  first = λ none. absurd (omega (arith, none));
  least = λ some.
      least-more c.args.states.now c.index-states-i.result c.loop-i.i c.loop-i.least c.min-least.result c.loop-i-test.true c.index-states-i.is
      c.loop-i.invariant.first c.loop-i.invariant.least (omega (arith, c.pc.ensures, c.pc.type_inv)) (c.min-least.ensures ∙ ap (min c.loop-i.least) c.pc.ensures);
}
