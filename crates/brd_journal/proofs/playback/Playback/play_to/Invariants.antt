-- It has played the first events, as many as it says, and past the end those that do nothing.
use Rattle.std.proofs.Common.{◌≤◌, ◌-◌}
use Rattle.brd_board.specs.Board.{BoardState}
use Rattle.brd_journal.specs.Playing.{IsPlayed, AreStill}
use Rattle.brd_journal.proofs.playback.Playback.play_to.Given as goal

abbrev pub invariant-loop-self : goal.invariant-loop-self
invariant-loop-self l = record {
  on : l.self.at ≤ l.to;
  played : (boot : BoardState) → IsPlayed boot l.journal.events l.fn.self → IsPlayed boot l.journal.events l.self;
  still : (boot : BoardState) → IsPlayed boot l.journal.events l.fn.self → AreStill boot l.journal.events l.end l.self.at;
}

abbrev pub decreases-loop-self : goal.decreases-loop-self
decreases-loop-self l = l.end - l.self.at
