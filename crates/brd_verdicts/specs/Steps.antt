-- The last step of each processor that did something.
use Rattle.std.specs.Prelude.{◌≡◌, ◌<◌, ◌≤◌, ℕ, suc, false, List, length, slice_get, slice_index_or, slice_set, take}
use Rattle.std.specs.Prelude.{Option, None, Some}
use Rattle.brd_board.specs.declared.event.Event.{Event}
use Rattle.brd_board.specs.declared.event.Event.TheVariants.{Step, Tick, Raise}
use Rattle.brd_board.specs.Board.{BoardState, happens}
use Rattle.brd_journal.specs.Playing.{board_at, IsPlayed}
use Rattle.brd_journal.specs.Still.{did_nothing}
use Rattle.brd_verdicts.specs.declared.steps.Following.{Following}
use Rattle.brd_verdicts.specs.Accounts.{accounts_of_run}

-- The event of a position is a step of a processor that does something. (One of a processor that isn't there, has
-- nobody to execute or is stopped does nothing, nor one of a board that is off.)
pub record StepsAt (boot : BoardState) (events : List Event) (cpu position : ℕ) : Type 0 where
  pub step : slice_get events position ≡ Some (Step cpu)
  pub does : did_nothing (happens (board_at boot events position) (Step cpu)).report ≡ false

-- from a position on, before another one, no event is
abbrev pub StepsNone : BoardState → List Event → ℕ → ℕ → ℕ → Type 0
StepsNone boot events cpu from to = (p : ℕ) → from ≤ p → p < to → StepsAt boot events cpu p → ⊥

-- Before the position after n events: the last step of the processor that did something is the event of this position;
-- none did, where none is named.
abbrev pub IsLastStep : BoardState → List Event → ℕ → ℕ → Option ℕ → Type 0
IsLastStep boot events n cpu None = StepsNone boot events cpu 0 n
IsLastStep boot events n cpu (Some p) = (p < n) × StepsAt boot events cpu p × StepsNone boot events cpu (suc p) n

-- of each processor, by its number
abbrev pub AreLastSteps : BoardState → List Event → ℕ → List (Option ℕ) → Type 0
AreLastSteps boot events n steps =
    (cpu : ℕ) → 1 ≤ cpu → cpu ≤ 8 → IsLastStep boot events n cpu (slice_index_or steps cpu None)

-- the last steps, where the event of a position was one
abbrev pub kept : Event → ℕ → List (Option ℕ) → List (Option ℕ)
kept (Step cpu) position steps = slice_set steps cpu (Some position)
kept Tick position steps = steps
kept (Raise line) position steps = steps

-- a board has played the first events of a list, and what is found up to there is known
pub record AreFollowed (boot : BoardState) (events : List Event) (following : Following) : Type 0 where
  pub played : IsPlayed boot events following.playback
  pub nine : length following.steps ≡ 9
  pub steps : AreLastSteps boot events following.playback.at following.steps
  pub accounts : following.accounts ≡ accounts_of_run boot (take following.playback.at events)
