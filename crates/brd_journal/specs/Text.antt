-- The text of a journal (own choice): a first line, which names the byte order, and a line for each run.
use Rattle.std.specs.Prelude.{◌≡◌, ◌⊎◌, ℕ, ◌≤◌, List, [], ◌∷◌, ◌++◌, codes}
use Rattle.std.specs.Fmt.{decimal}
use Rattle.std.specs.List.{flat_map, AllByRecursion}
use Rattle.brd_word.specs.declared.order.Order.{Order}
use Rattle.brd_board.specs.declared.event.Event.{Event}
use Rattle.brd_board.specs.declared.event.Event.TheVariants.{Step, Tick, Raise}
use Rattle.brd_journal.specs.declared.run.Run.{Run}
use Rattle.brd_journal.specs.Runs.{most_count, runs_of}

-- the first line
abbrev pub first_line : Order → List ℕ
first_line Order.Big = codes "board-journal 2 big"
first_line Order.Little = codes "board-journal 2 little"

-- the first line of version 1, which names no byte order, as its boards were all big-endian
abbrev pub first_line_1 : List ℕ
first_line_1 = codes "board-journal 1"

-- a first line is that of a journal of this byte order
abbrev pub IsFirstLine : List ℕ → Order → Type 0
IsFirstLine line order = (line ≡ first_line order) ⊎ ((line ≡ first_line_1) × (order ≡ Order.Big))

-- an event: S and the processor's number, T, or R and the line's number; decimal, without leading zeros
abbrev pub event_text : Event → List ℕ
event_text (Step cpu) = codes "S " ++ decimal cpu
event_text Tick = codes "T"
event_text (Raise line) = codes "R " ++ decimal line

-- the line of a run: its event and how often it comes, with one space between them
abbrev pub line_text : Run → List ℕ
line_text run = event_text run.event ++ 32 ∷ decimal run.count

-- the lines of runs, each ended by a newline
abbrev pub lines_of_runs : List Run → List ℕ
lines_of_runs runs = flat_map (λ run. line_text run ++ 10 ∷ []) runs

-- a text: the first line, ended by a newline too, and the lines of runs
abbrev pub text_of_runs : Order → List Run → List ℕ
text_of_runs order runs = first_line order ++ 10 ∷ lines_of_runs runs

-- the text of a byte order and a list of events
abbrev pub text_of : Order → List Event → List ℕ
text_of order events = text_of_runs order (runs_of events)

-- processors and lines have numbers from 0 to 255 in a text, as in `Event`
abbrev pub IsNumbered : Event → Type 0
IsNumbered (Step cpu) = cpu ≤ 255
IsNumbered Tick = Unit {0}
IsNumbered (Raise line) = line ≤ 255

abbrev pub AreNumbered : List Run → Type 0
AreNumbered runs = AllByRecursion (λ run. IsNumbered run.event) runs

-- what a line can spell
pub record CanBeSpelled (run : Run) : Type 0 where
  pub numbered : IsNumbered run.event
  pub least : 1 ≤ run.count
  pub most : run.count ≤ most_count

-- a line, without its newline, spells a run
pub record SpellsRun (line : List ℕ) (run : Run) : Type 0 where
  pub text : line ≡ line_text run
  pub can : CanBeSpelled run

-- a text spells a byte order and runs, line by line; neighbours may have the same event
pub record SpellsRuns (text : List ℕ) (order : Order) (runs : List Run) : Type 0 where
  pub first : List ℕ
  pub is_first : IsFirstLine first order
  pub lines : text ≡ first ++ 10 ∷ lines_of_runs runs
  pub each : AllByRecursion CanBeSpelled runs
