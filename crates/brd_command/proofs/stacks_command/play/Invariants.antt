-- It hasn't gone past the end, no store below a stack is told, and what is told of stacks is that of the events so far.
use Rattle.std.proofs.Common.{◌≡◌, ◌≤◌, ◌-◌, List}
use Rattle.std.specs.Prelude.{false}
use Rattle.brd_board.specs.Board.{BoardState}
use Rattle.brd_stacks.specs.declared.stack.Stack.{Stack}
use Rattle.brd_stacks.specs.Depths.{some_overflow}
use Rattle.brd_stacks.specs.Following.{IsFollowed}
use Rattle.brd_command.proofs.stacks_command.play.Given as goal

abbrev pub invariant-loop-following : goal.invariant-loop-following
invariant-loop-following g l = record {
  on : l.following.playback.at ≤ l.to;
  calm : some_overflow l.following.tracks.items ≡ false;
  followed : (boot : BoardState) (stacks : List Stack) → IsFollowed boot l.journal.events stacks l.fn.following →
      IsFollowed boot l.journal.events stacks l.following;
}

abbrev pub decreases-loop-following : goal.decreases-loop-following
decreases-loop-following g l = l.to - l.following.playback.at
