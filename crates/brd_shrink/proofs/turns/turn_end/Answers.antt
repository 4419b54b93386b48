use Rattle.std.proofs.Common.{sym, arith}
use Rattle.brd_shrink.proofs.TurnLemmas.{before-end, uncut-more}
use Rattle.brd_shrink.proofs.turns.turn_end.Goals as goal

pub loop-to-smaller : goal.loop-to-smaller
loop-to-smaller c =
    let more = before-end c.args.events.now c.loop-to.to c.loop-to.invariant.within (sym c.loop-to-test.ensures) in omega (arith, more)

pub loop-to-preserved : goal.loop-to-preserved
loop-to-preserved c =
    let more = before-end c.args.events.now c.loop-to.to c.loop-to.invariant.within (sym c.loop-to-test.ensures) in
    record {
      some = omega (arith, c.loop-to.invariant.some);
      within = omega (arith, more);
      whole = uncut-more c.args.events.now c.args.from c.loop-to.to c.loop-to.invariant.whole (sym c.loop-to-test.ensures);
    }
