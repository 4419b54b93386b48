use Rattle.std.proofs.Common.{◌≤◌, ◌-◌}
use Rattle.brd_board.specs.Board.{BoardState}
use Rattle.brd_spins.specs.Since.{AreWatched}
use Rattle.brd_spins.proofs.watching.Watching.watch.Given as goal

abbrev pub invariant-loop-self : goal.invariant-loop-self
invariant-loop-self l = record {
  on : l.self.playback.at ≤ l.to;
  watched : (boot : BoardState) → AreWatched boot l.journal.events l.turnings l.fn.self → AreWatched boot l.journal.events l.turnings l.self;
}

abbrev pub decreases-loop-self : goal.decreases-loop-self
decreases-loop-self l = l.to - l.self.playback.at
