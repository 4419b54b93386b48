-- It hasn't gone past the end, and its races are those of the events so far.
use Rattle.std.proofs.Common.{◌≤◌, ◌-◌, List}
use Rattle.brd_config.specs.declared.objects.QueueConfig.{QueueConfig}
use Rattle.brd_board.specs.Board.{BoardState}
use Rattle.brd_deeds.specs.Racing.{IsRaced}
use Rattle.brd_command.proofs.races_command.play.Given as goal

abbrev pub invariant-loop-racing : goal.invariant-loop-racing
invariant-loop-racing g l = record {
  on : l.racing.playback.at ≤ l.to;
  shown : l.shown ≤ l.racing.playback.at;
  raced : (queues : List QueueConfig) (boot : BoardState) → IsRaced queues boot l.journal.events l.fn.racing →
      IsRaced queues boot l.journal.events l.racing;
}

abbrev pub decreases-loop-racing : goal.decreases-loop-racing
decreases-loop-racing g l = l.to - l.racing.playback.at
