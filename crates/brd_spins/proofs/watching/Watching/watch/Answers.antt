use Rattle.std.proofs.Common.{ap, arith}
use Rattle.brd_spins.proofs.WatchLemmas.{watched-on}
use Rattle.brd_spins.proofs.watching.Watching.watch.Goals as goal

pub loop-self-preserved : goal.loop-self-preserved
loop-self-preserved c =
    let events = c.args.journal.now.events in
    let old = c.loop-self.self in
    let moved = c.advance.ensures in
    let comes = c.in-Some.ensures.comes in
    record {
      on = omega (arith, ap (λ p. p.at) c.look.ensures.same, moved.to);
      watched = λ boot are.
          let before = c.loop-self.invariant.watched boot are in
          watched-on boot events c.args.turnings.now old c.look.new.self c.advance.new.self before c.look.ensures.same
          (moved.played boot events c.requires.within comes before.played) (omega (arith, moved.goes.0, moved.goes.2))
          (moved.still boot events comes before.played) c.look.ensures.seen;
    }
