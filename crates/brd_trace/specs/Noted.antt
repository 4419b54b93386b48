-- What is known of a board while it plays a journal: how its tasks stand, what its processors do, whether it is off.
use Rattle.std.specs.Prelude.{◌≡◌, ℕ, Bool, map, if◌then◌else◌, All, Option, None, Some, is_some}
use Rattle.std.specs.Option.{option_map}
use Rattle.brd_board.specs.Board.{BoardState}
use Rattle.brd_trace.specs.declared.notes.Notes.{Notes}
use Rattle.brd_recording.specs.Lanes.{lanes_of}
use Rattle.brd_seen.specs.Seen.{IsSeen}
use Rattle.brd_names.specs.Standings.{tasks_of, standings_of}

-- ---- all of it

-- the position that is kept where a board is off
abbrev pub off_by : Bool → ℕ → Option ℕ
off_by is_off position = if is_off then Some position else None

-- the tasks that are there are known, each as it stands; what each processor does; and whether the board is off
pub record Knows (board : BoardState) (notes : Notes) : Type 0 where
  pub those : map (λ it. it.id) notes.tasks.items ≡ tasks_of board
  pub tasks : All (IsSeen board) notes.tasks.items
  pub standings : notes.standings.of ≡ standings_of board
  pub off : is_some notes.off ≡ board.kernel.off

-- ---- what changes it

-- what is known of the board stays, and what goes on in the lanes of a timeline
pub record KeepsKnown (old new : Notes) : Type 0 where
  pub tasks : new.tasks ≡ old.tasks
  pub standings : new.standings ≡ old.standings
  pub off : new.off ≡ old.off
  pub faults : new.faults ≡ old.faults
  pub recorded : option_map lanes_of new.recording ≡ option_map lanes_of old.recording
