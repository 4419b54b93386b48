use Rattle.std.proofs.Common.{◌∷◌, [], refl, arith, length-append}
use Rattle.brd_schedule.specs.Steps.{numbers, words_of}
use Rattle.brd_schedule.proofs.StepLemmas.{numbers_next}
use Rattle.brd_schedule.proofs.lowered.numbers.Goals as goal

pub loop-init : goal.loop-init
unfolding numbers
loop-init c = rw c.new-drawn.ensures.items (refl, refl)

pub loop-preserved : goal.loop-preserved
loop-preserved c = (
  numbers_next c.args.end c.loop.counter (words_of c.args.rng.now) c.loop.drawn.items (words_of c.loop.rng) c.below.result (words_of c.below.new.rng)
      c.push.new.self.items c.loop.invariant.0 c.below.ensures.drawn c.in_ok-push.ensures.items,
  rw c.in_ok-push.ensures.items (omega (arith, length-append c.loop.drawn.items (c.below.result ∷ []), c.loop.invariant.1)),
)
