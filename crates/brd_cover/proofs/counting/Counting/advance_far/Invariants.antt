-- It isn't past the end; and it has played the first events, as many as it says.
use Rattle.std.proofs.Common.{◌≤◌, ◌-◌}
use Rattle.brd_board.specs.Board.{BoardState}
use Rattle.brd_journal.specs.Playing.{IsPlayed}
use Rattle.brd_cover.proofs.counting.Counting.advance_far.Given as goal

abbrev pub invariant-loop-self : goal.invariant-loop-self
invariant-loop-self l = record {
  on : l.self.playback.at ≤ l.to;
  played : (boot : BoardState) → IsPlayed boot l.journal.events l.fn.self.playback → IsPlayed boot l.journal.events l.self.playback;
}

abbrev pub decreases-loop-self : goal.decreases-loop-self
decreases-loop-self l = l.to - l.self.playback.at
