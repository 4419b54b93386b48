-- The command `trace`, with how deep the stacks of a run became.
use Rattle.std.specs.Prelude.{◌≡◌, ◌≤◌, ◌⊎◌, ℕ, true, List, take, Option}
use Rattle.std.specs.Io.KnownBytes.{Appends}
use Rattle.brd_mem.specs.declared.image.Symbol.{Symbol}
use Rattle.brd_config.specs.declared.config.Config.{Config}
use Rattle.brd_board.specs.declared.event.Event.{Event}
use Rattle.brd_board.specs.Board.{BoardState}
use Rattle.brd_stacks.specs.declared.stack.Stack.{Stack}
use Rattle.brd_stacks.specs.declared.track.Track.{Track}
use Rattle.brd_stacks.specs.Depths.{AreFollowed, IsSoonest, some_overflow}
use Rattle.brd_stacks.specs.Laid.{stacks_of}
use Rattle.brd_stacks.specs.Points.{points_from}
use Rattle.brd_stacks.specs.Text.{stacks_text}

abbrev pub stacks_in : List Symbol → Config → List Stack
stacks_in symbols config = stacks_of symbols config.ram config.tasks config.handlers

-- What was written is how deep each stack became under the first events of a list, up to a position, or up to the first
-- event that stores below a stack: no store below one comes before the last point.
pub record WritesStacks (symbols : List Symbol) (config : Config) (board : BoardState) (events : List Event) (to : ℕ)
    (old new : Option (List ℕ)) : Type 0 where
  pub at : ℕ
  pub tracks : List Track
  pub within : at ≤ to
  pub followed : AreFollowed (stacks_in symbols config) (points_from 0 board (take at events)) tracks
  pub soonest : IsSoonest (stacks_in symbols config) (points_from 0 board (take at events))
  pub ends : (at ≡ to) ⊎ (some_overflow tracks ≡ true)
  pub written : Appends old new (stacks_text symbols tracks)
