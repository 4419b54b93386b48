-- A board that plays a journal: what it has played, and which events do nothing.
use Rattle.std.specs.Prelude.{◌≡◌, ℕ, suc, ◌<◌, ◌≤◌, List, length, take}
use Rattle.brd_board.specs.declared.event.Event.{Event}
use Rattle.brd_board.specs.declared.event.Event.TheVariants.{Step, Tick, Raise}
use Rattle.brd_board.specs.Batch.{AllRun}
use Rattle.brd_board.specs.Board.{BoardState, after}
use Rattle.brd_journal.specs.declared.playback.Playback.{Playback}

-- the board after the first n events
abbrev pub board_at : BoardState → List Event → ℕ → BoardState
board_at boot events position = after boot (take position events)

-- each of the next n of these events is a step that executes an instruction, and no more
abbrev pub AllGoOn : BoardState → Event → ℕ → Type 0
AllGoOn board (Step cpu) count = AllRun board cpu count
AllGoOn board Tick count = count ≡ 0
AllGoOn board (Raise line) count = count ≡ 0

-- a board has played the first n events
pub record IsPlayed (boot : BoardState) (events : List Event) (playback : Playback) : Type 0 where
  pub board : playback.board ≡ board_at boot events playback.at
  pub within : playback.at ≤ length events

-- the event of a position does nothing
abbrev pub IsStill : BoardState → List Event → ℕ → Type 0
IsStill boot events position = board_at boot events (suc position) ≡ board_at boot events position

-- from a position on, before another one, no event does anything
abbrev pub AreStill : BoardState → List Event → ℕ → ℕ → Type 0
AreStill boot events from to = (position : ℕ) → from ≤ position → position < to → IsStill boot events position
