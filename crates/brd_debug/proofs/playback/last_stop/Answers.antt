use Rattle.std.proofs.Common.{◌≡◌, ◌+◌, subst, arith}
use Rattle.brd_debug.specs.Stops.{IsStop, IsGreatest}
use Rattle.brd_debug.proofs.SearchLemmas.{greatest-next, greatest-on}
use Rattle.brd_debug.proofs.playback.last_stop.Goals as goal

pub loop-playback-init : goal.loop-playback-init
loop-playback-init c = record {
  from = omega arith;
  on = c.requires.on;
  bytes = c.watched-bytes.ensures;
  played = λ boot is. is;
  greatest = λ boot is m above below. absurd (omega (arith, above, below));
}

pub loop-playback-preserved : goal.loop-playback-preserved
loop-playback-preserved c = record {
  from = omega (arith, c.loop-playback.invariant.from, c.is_stop-stop.ensures.on);
  on = c.is_stop-stop.ensures.on.1;
  bytes = c.is_stop-stop.ensures.bytes;
  played = λ boot is. c.is_stop-stop.ensures.played boot (c.loop-playback.invariant.played boot is);
  greatest = λ boot is. greatest-on (IsStop c.args.stops.now boot c.args.journal.now.events) c.args.playback.now.at (c.loop-playback.playback.at + 1)
      c.is_stop-stop.new.playback.at c.later-last.result (omega (arith, c.is_stop-stop.ensures.on))
      (greatest-next (IsStop c.args.stops.now boot c.args.journal.now.events) c.args.playback.now.at c.loop-playback.playback.at c.is_stop-stop.result
      c.loop-playback.last c.later-last.result (c.is_stop-stop.ensures.stop boot (c.loop-playback.invariant.played boot is))
      c.loop-playback.invariant.from c.later-last.ensures (c.loop-playback.invariant.greatest boot is))
      (c.is_stop-stop.ensures.none boot (c.loop-playback.invariant.played boot is));
}

pub returns-clause-greatest : goal.returns-clause-greatest
returns-clause-greatest c =
    let whole : c.loop-playback.playback.at ≡ c.args.to = omega (arith, c.loop-playback.invariant.on, c.loop-playback-test.false) in
    λ boot is. subst (λ n. IsGreatest (IsStop c.args.stops.now boot c.args.journal.now.events) c.args.playback.now.at n c.loop-playback.last) whole
    (c.loop-playback.invariant.greatest boot is)
