use Rattle.std.proofs.Common.{sym, ◌∙◌, arith}
use Rattle.brd_debug.specs.Stops.{IsStop}
use Rattle.brd_debug.proofs.SearchLemmas.{found-greatest, none-greatest, none-both}
use Rattle.brd_debug.proofs.search.stop_before.Goals as goal

pub returns-then-is_some-clause-greatest : goal.returns-then-is_some-clause-greatest
returns-then-is_some-clause-greatest g c =
    found-greatest (IsStop c.args.stops.now c.args.boot.now c.args.journal.now.events) c.args.begin c.put_between.new.playback.at c.loop-to.to
    c.args.end
    c.last_stop-found.result (sym c.is_some.ensures ∙ c.if-is_some.true) c.in_ok-put_between.ensures.at.0 c.loop-to.invariant.below c.loop-to.invariant.none
    (c.last_stop-found.ensures.greatest c.args.boot.now c.in_ok-put_between.ensures.played)

pub put_between-requires-clause-within : goal.put_between-requires-clause-within
put_between-requires-clause-within g c = omega (arith, c.loop-to.invariant.below, c.requires.within)

pub loop-to-preserved : goal.loop-to-preserved
loop-to-preserved g c = record {
  played = c.last_stop-found.ensures.played c.args.boot.now c.in_ok-put_between.ensures.played;
  below = omega (arith, c.in_ok-put_between.ensures.at.1, c.loop-to.invariant.below);
  none = none-both (IsStop c.args.stops.now c.args.boot.now c.args.journal.now.events) c.put_between.new.playback.at c.loop-to.to c.args.end
      (none-greatest (IsStop c.args.stops.now c.args.boot.now c.args.journal.now.events) c.put_between.new.playback.at c.loop-to.to
      c.last_stop-found.result (sym c.is_some.ensures ∙ c.if-is_some.false)
      (c.last_stop-found.ensures.greatest c.args.boot.now c.in_ok-put_between.ensures.played))
      c.loop-to.invariant.none;
}

pub returns-clause-greatest : goal.returns-clause-greatest
returns-clause-greatest g c = λ m above below stop. c.loop-to.invariant.none m (omega (arith, c.loop-to-test.false, above)) below stop
