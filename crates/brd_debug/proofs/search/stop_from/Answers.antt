use Rattle.std.proofs.Common.{◌≡◌, ◌<◌, ◌≤◌, sym, ◌∙◌, arith}
use Rattle.brd_debug.specs.Kept.{plan_of}
use Rattle.brd_debug.specs.Stops.{IsStop}
use Rattle.brd_debug.proofs.KeptLemmas.{size-played, order-played}
use Rattle.brd_debug.proofs.SearchLemmas.{found-least, found-more, found-some, none-of, none-least, none-both}
use Rattle.brd_debug.proofs.NotedLemmas.{noted-on, noted-both, noted-nowhere}
use Rattle.brd_debug.proofs.search.stop_from.Goals as goal

pub note-requires-clause-sizes : goal.note-requires-clause-sizes
note-requires-clause-sizes g c = size-played c.args.boot.now c.args.journal.now.events c.loop-playback.playback c.loop-playback.invariant.played

pub note-requires-clause-orders : goal.note-requires-clause-orders
note-requires-clause-orders g c = order-played c.args.boot.now c.args.journal.now.events c.loop-playback.playback c.loop-playback.invariant.played

pub loop-playback-init : goal.loop-playback-init
loop-playback-init g c = record {
  from = omega arith;
  below = c.requires.on;
  none = λ m above below stop. omega (arith, above, below);
  played = c.requires.played;
  kept = c.requires.kept;
  noted = noted-nowhere c.args.boot.now c.args.journal.now.events (plan_of c.args.snapshots.now) c.args.playback.now.at;
}

pub returns-then-is_some-clause-least : goal.returns-then-is_some-clause-least
returns-then-is_some-clause-least g c =
    found-least (IsStop c.args.stops.now c.args.boot.now c.args.journal.now.events) c.args.playback.now.at c.loop-playback.playback.at
    c.first_stop-found.new.playback.at c.args.to c.first_stop-found.result (sym c.is_some.ensures ∙ c.if-is_some.true)
    c.loop-playback.invariant.from c.first_stop-found.ensures.at.1 c.loop-playback.invariant.none
    (c.first_stop-found.ensures.least c.args.boot.now c.loop-playback.invariant.played)

pub returns-then-is_some-clause-noted : goal.returns-then-is_some-clause-noted
returns-then-is_some-clause-noted g c =
    let more : c.loop-playback.playback.at < c.first_stop-found.new.playback.at =
    found-more (IsStop c.args.stops.now c.args.boot.now c.args.journal.now.events) c.loop-playback.playback.at c.first_stop-found.new.playback.at
    c.first_stop-found.result (sym c.is_some.ensures ∙ c.if-is_some.true) (c.first_stop-found.ensures.least c.args.boot.now c.loop-playback.invariant.played) in
    noted-both c.args.boot.now c.args.journal.now.events (plan_of c.args.snapshots.now) (plan_of c.loop-playback.snapshots) (plan_of c.note.new.self)
    c.args.playback.now.at c.loop-playback.playback.at c.first_stop-found.new.playback.at c.loop-playback.invariant.from (omega (arith, more))
    c.loop-playback.invariant.noted
    (noted-on c.args.boot.now c.args.journal.now.events (plan_of c.loop-playback.snapshots) (plan_of c.note.new.self) c.loop-playback.playback.at
    c.min-end.result c.first_stop-found.new.playback.at c.in_ok-note.ensures.noted more (omega (arith, c.min-end.ensures, c.next.ensures.is))
    (c.first_stop-found.ensures.still c.args.boot.now c.loop-playback.invariant.played))

pub loop-playback-preserved : goal.loop-playback-preserved
loop-playback-preserved g c =
    let far : c.min-end.result ≤ c.first_stop-found.new.playback.at =
    c.first_stop-found.ensures.none (none-of c.first_stop-found.result (sym c.is_some.ensures ∙ c.if-is_some.false)) in
    let more : c.loop-playback.playback.at < c.first_stop-found.new.playback.at =
    omega (arith, far, c.min-end.ensures, c.next.ensures.after, c.loop-playback-test.true) in
    record {
      from = omega (arith, more, c.loop-playback.invariant.from);
      below = c.first_stop-found.ensures.at.1;
      none = none-both (IsStop c.args.stops.now c.args.boot.now c.args.journal.now.events) c.args.playback.now.at c.loop-playback.playback.at
          c.first_stop-found.new.playback.at c.loop-playback.invariant.none
          (none-least (IsStop c.args.stops.now c.args.boot.now c.args.journal.now.events) c.loop-playback.playback.at c.first_stop-found.new.playback.at
          c.first_stop-found.result (sym c.is_some.ensures ∙ c.if-is_some.false)
          (c.first_stop-found.ensures.least c.args.boot.now c.loop-playback.invariant.played));
      played = c.first_stop-found.ensures.played c.args.boot.now c.loop-playback.invariant.played;
      kept = c.in_ok-note.ensures.kept c.args.journal.now.events c.loop-playback.invariant.played c.loop-playback.invariant.kept;
      noted = noted-both c.args.boot.now c.args.journal.now.events (plan_of c.args.snapshots.now) (plan_of c.loop-playback.snapshots) (plan_of c.note.new.self)
          c.args.playback.now.at c.loop-playback.playback.at c.first_stop-found.new.playback.at c.loop-playback.invariant.from (omega (arith, more))
          c.loop-playback.invariant.noted
          (noted-on c.args.boot.now c.args.journal.now.events (plan_of c.loop-playback.snapshots) (plan_of c.note.new.self) c.loop-playback.playback.at
          c.min-end.result c.first_stop-found.new.playback.at c.in_ok-note.ensures.noted more (omega (arith, c.min-end.ensures, c.next.ensures.is))
          (c.first_stop-found.ensures.still c.args.boot.now c.loop-playback.invariant.played));
    }

pub returns-clause-least : goal.returns-clause-least
returns-clause-least g c = λ m above below stop.
    c.loop-playback.invariant.none m above (omega (arith, below, c.loop-playback-test.false)) stop

pub returns-clause-at : goal.returns-clause-at
returns-clause-at g c = omega (arith, c.loop-playback-test.false, c.loop-playback.invariant.below)

pub returns-in_err-note-clause-kept : goal.returns-in_err-note-clause-kept
returns-in_err-note-clause-kept g c =
    c.in_err-note.ensures.kept c.args.journal.now.events c.loop-playback.invariant.played c.loop-playback.invariant.kept

pub returns-then-is_some-clause-at : goal.returns-then-is_some-clause-at
returns-then-is_some-clause-at g c =
    found-some (c.first_stop-found.new.playback.at ≡ c.args.to) c.first_stop-found.result (sym c.is_some.ensures ∙ c.if-is_some.true)

pub returns-then-is_some-clause-played : goal.returns-then-is_some-clause-played
returns-then-is_some-clause-played g c = c.first_stop-found.ensures.played c.args.boot.now c.loop-playback.invariant.played

pub returns-then-is_some-clause-kept : goal.returns-then-is_some-clause-kept
returns-then-is_some-clause-kept g c =
    c.in_ok-note.ensures.kept c.args.journal.now.events c.loop-playback.invariant.played c.loop-playback.invariant.kept
