-- It has played the first events, and knows the last of them since it began that is a stop.
use Rattle.std.proofs.Common.{◌≤◌, ◌-◌}
use Rattle.brd_board.specs.Board.{BoardState}
use Rattle.brd_journal.specs.Playing.{IsPlayed}
use Rattle.brd_debug.specs.Watching.{AreBytesAt}
use Rattle.brd_debug.specs.Stops.{IsStop, IsGreatest}
use Rattle.brd_debug.proofs.playback.last_stop.Given as goal

abbrev pub invariant-loop-playback : goal.invariant-loop-playback
invariant-loop-playback l = record {
  from : l.fn.playback.at ≤ l.playback.at;
  on : l.playback.at ≤ l.to;
  bytes : AreBytesAt l.stops.watches l.playback.board.memory l.bytes.bytes;
  played : (boot : BoardState) → IsPlayed boot l.journal.events l.fn.playback → IsPlayed boot l.journal.events l.playback;
  greatest : (boot : BoardState) → IsPlayed boot l.journal.events l.fn.playback →
      IsGreatest (IsStop l.stops boot l.journal.events) l.fn.playback.at l.playback.at l.last;
}

abbrev pub decreases-loop-playback : goal.decreases-loop-playback
decreases-loop-playback l = l.to - l.playback.at
