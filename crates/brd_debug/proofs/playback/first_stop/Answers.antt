use Rattle.std.proofs.Common.{◌+◌, sym, ◌∙◌, arith}
use Rattle.std.proofs.lemmas.Bool.{false≢true}
use Rattle.brd_debug.specs.Stops.{IsStop}
use Rattle.brd_debug.proofs.SearchLemmas.{none-more, none-both}
use Rattle.brd_debug.proofs.playback.first_stop.Goals as goal

pub loop-playback-init : goal.loop-playback-init
loop-playback-init c = record {
  from = omega arith;
  on = omega (arith, c.requires.on, c.requires.past);
  bytes = c.watched-bytes.ensures;
  played = λ boot is. is;
  none = λ boot is m above below. absurd (omega (arith, above, below));
  still = λ boot is p above below. absurd (omega (arith, above, below, c.requires.on));
}

pub returns-then-is_stop-clause-least : goal.returns-then-is_stop-clause-least
returns-then-is_stop-clause-least c = λ boot is. (
  c.loop-playback.invariant.from,
  c.is_stop.ensures.on.0,
  (c.is_stop.ensures.stop boot (c.loop-playback.invariant.played boot is)).0 c.if-is_stop.true,
  c.loop-playback.invariant.none boot is,
)

pub returns-then-is_stop-clause-played : goal.returns-then-is_stop-clause-played
returns-then-is_stop-clause-played c = λ boot is. c.is_stop.ensures.played boot (c.loop-playback.invariant.played boot is)

pub returns-then-is_stop-clause-still : goal.returns-then-is_stop-clause-still
returns-then-is_stop-clause-still c = λ boot is p above below.
    c.is_stop.ensures.still boot (c.loop-playback.invariant.played boot is) p (omega (arith, above, c.loop-playback-test.true)) below

pub loop-playback-preserved : goal.loop-playback-preserved
loop-playback-preserved c = record {
  from = omega (arith, c.loop-playback.invariant.from, c.is_stop.ensures.on);
  on = c.is_stop.ensures.on.1;
  bytes = c.is_stop.ensures.bytes;
  played = λ boot is. c.is_stop.ensures.played boot (c.loop-playback.invariant.played boot is);
  none = λ boot is. none-both (IsStop c.args.stops.now boot c.args.journal.now.events) c.args.playback.now.at (c.loop-playback.playback.at + 1)
      c.is_stop.new.playback.at
      (none-more (IsStop c.args.stops.now boot c.args.journal.now.events) c.args.playback.now.at c.loop-playback.playback.at
      (c.loop-playback.invariant.none boot is)
      (λ stop. false≢true (sym c.if-is_stop.false ∙ (c.is_stop.ensures.stop boot (c.loop-playback.invariant.played boot is)).1 stop)))
      (c.is_stop.ensures.none boot (c.loop-playback.invariant.played boot is));
  still = λ boot is p above below.
      c.is_stop.ensures.still boot (c.loop-playback.invariant.played boot is) p (omega (arith, above, c.loop-playback-test.true)) below;
}
