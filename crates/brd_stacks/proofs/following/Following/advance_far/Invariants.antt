-- It hasn't gone past the end, no store below a stack is told, and what is told of stacks is that of the events so far.
use Rattle.std.proofs.Common.{◌≡◌, ◌≤◌, ◌-◌, List}
use Rattle.std.specs.Prelude.{false}
use Rattle.brd_board.specs.Board.{BoardState}
use Rattle.brd_stacks.specs.declared.stack.Stack.{Stack}
use Rattle.brd_stacks.specs.Depths.{some_overflow}
use Rattle.brd_stacks.specs.Following.{IsFollowed}
use Rattle.brd_stacks.proofs.following.Following.advance_far.Given as goal

abbrev pub invariant-loop-self : goal.invariant-loop-self
invariant-loop-self l = record {
  on : l.self.playback.at ≤ l.to;
  start : l.fn.self.playback.at ≤ l.self.playback.at;
  calm : some_overflow l.self.tracks.items ≡ false;
  followed : (boot : BoardState) (stacks : List Stack) → IsFollowed boot l.journal.events stacks l.fn.self →
      IsFollowed boot l.journal.events stacks l.self;
}

abbrev pub decreases-loop-self : goal.decreases-loop-self
decreases-loop-self l = l.to - l.self.playback.at
