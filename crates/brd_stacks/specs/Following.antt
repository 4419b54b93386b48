-- A board has played the first events of a list, and their points were taken. No store below a stack came before the
-- last of these points.
use Rattle.std.specs.Prelude.{List, take}
use Rattle.brd_board.specs.declared.event.Event.{Event}
use Rattle.brd_board.specs.Board.{BoardState}
use Rattle.brd_journal.specs.Playing.{IsPlayed}
use Rattle.brd_stacks.specs.declared.stack.Stack.{Stack}
use Rattle.brd_stacks.specs.Depths.{AreFollowed, IsSoonest}
use Rattle.brd_stacks.specs.declared.following.Following.{Following}
use Rattle.brd_stacks.specs.Points.{points_from}

pub record IsFollowed (boot : BoardState) (events : List Event) (stacks : List Stack) (following : Following) :
    Type 0 where
  pub played : IsPlayed boot events following.playback
  pub tracks : AreFollowed stacks (points_from 0 boot (take following.playback.at events)) following.tracks.items
  pub soonest : IsSoonest stacks (points_from 0 boot (take following.playback.at events))
