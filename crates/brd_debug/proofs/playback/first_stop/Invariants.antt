-- It has played the first events, past the end those that do nothing, and none of them since it began is a stop.
use Rattle.std.proofs.Common.{◌≤◌, ◌-◌}
use Rattle.brd_board.specs.Board.{BoardState}
use Rattle.brd_journal.specs.Playing.{IsPlayed, AreStill}
use Rattle.brd_debug.specs.Watching.{AreBytesAt}
use Rattle.brd_debug.specs.Stops.{IsStop, NoneFrom}
use Rattle.brd_debug.proofs.playback.first_stop.Given as goal

abbrev pub invariant-loop-playback : goal.invariant-loop-playback
invariant-loop-playback l = record {
  from : l.fn.playback.at ≤ l.playback.at;
  on : l.playback.at ≤ l.to;
  bytes : AreBytesAt l.stops.watches l.playback.board.memory l.bytes.bytes;
  played : (boot : BoardState) → IsPlayed boot l.journal.events l.fn.playback → IsPlayed boot l.journal.events l.playback;
  none : (boot : BoardState) → IsPlayed boot l.journal.events l.fn.playback → NoneFrom (IsStop l.stops boot l.journal.events) l.fn.playback.at l.playback.at;
  still : (boot : BoardState) → IsPlayed boot l.journal.events l.fn.playback → AreStill boot l.journal.events l.end l.playback.at;
}

abbrev pub decreases-loop-playback : goal.decreases-loop-playback
decreases-loop-playback l = l.end - l.playback.at
