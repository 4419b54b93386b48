use Rattle.std.proofs.Common.{◌<◌, arith}
use Rattle.brd_debug.specs.Kept.{plan_of}
use Rattle.brd_debug.proofs.KeptLemmas.{size-played, order-played}
use Rattle.brd_debug.proofs.NotedLemmas.{noted-on, noted-both, noted-nowhere}
use Rattle.brd_debug.proofs.search.play_on.Goals as goal

pub loop-playback-init : goal.loop-playback-init
loop-playback-init g c = record {
  from = omega arith;
  on = c.requires.on;
  played = c.requires.played;
  kept = c.requires.kept;
  noted = noted-nowhere c.args.boot.now c.args.journal.now.events (plan_of c.args.snapshots.now) c.args.playback.now.at;
}

pub note-requires-clause-sizes : goal.note-requires-clause-sizes
note-requires-clause-sizes g c = size-played c.args.boot.now c.args.journal.now.events c.loop-playback.playback c.loop-playback.invariant.played

pub note-requires-clause-orders : goal.note-requires-clause-orders
note-requires-clause-orders g c = order-played c.args.boot.now c.args.journal.now.events c.loop-playback.playback c.loop-playback.invariant.played

pub loop-playback-preserved : goal.loop-playback-preserved
loop-playback-preserved g c =
    let more : c.loop-playback.playback.at < c.play_to.new.self.at =
    omega (arith, c.play_to.ensures.at.0, c.min-end.ensures, c.next.ensures.after, c.loop-playback-test.true) in
    record {
      from = omega (arith, more, c.loop-playback.invariant.from);
      on = c.play_to.ensures.at.1;
      played = c.play_to.ensures.played c.args.boot.now c.loop-playback.invariant.played;
      kept = c.in_ok-note.ensures.kept c.args.journal.now.events c.loop-playback.invariant.played c.loop-playback.invariant.kept;
      noted = noted-both c.args.boot.now c.args.journal.now.events (plan_of c.args.snapshots.now) (plan_of c.loop-playback.snapshots) (plan_of c.note.new.self)
          c.args.playback.now.at c.loop-playback.playback.at c.play_to.new.self.at c.loop-playback.invariant.from (omega (arith, more))
          c.loop-playback.invariant.noted
          (noted-on c.args.boot.now c.args.journal.now.events (plan_of c.loop-playback.snapshots) (plan_of c.note.new.self) c.loop-playback.playback.at
          c.min-end.result c.play_to.new.self.at c.in_ok-note.ensures.noted more (omega (arith, c.min-end.ensures, c.next.ensures.is))
          (c.play_to.ensures.still c.args.boot.now c.loop-playback.invariant.played));
    }

pub returns-in_err-note-clause-kept : goal.returns-in_err-note-clause-kept
returns-in_err-note-clause-kept g c =
    c.in_err-note.ensures.kept c.args.journal.now.events c.loop-playback.invariant.played c.loop-playback.invariant.kept
