-- How the text of a script is read: line by line from the front, each as a line of a journal's text that is no step.
-- The first line that has a fault decides.
use Rattle.std.specs.Prelude.{ℕ, ◌+◌, ◌==◌, nat_le, if◌then◌else◌, List, [], ◌∷◌, ◌++◌, length, replicate, Option, None}
use Rattle.std.specs.Prelude.{Some, option_and_then, Result, Ok, Err}
use Rattle.brd_text.specs.Faults.{◌>>=◌, or_fault}
use Rattle.brd_text.specs.Lines.{lines_of}
use Rattle.brd_journal.specs.declared.run.Run.{Run}
use Rattle.brd_journal.specs.Reading.{run_of_line}
use Rattle.brd_threads.specs.declared.fault.ScriptFault.{ScriptFault}
use Rattle.brd_threads.specs.declared.fault.ScriptFault.TheVariants.{Syntax}
use Rattle.brd_threads.specs.declared.outer.Outer.{Outer}
use Rattle.brd_threads.specs.Outers.{outer_of}

-- the most entries that a text may have (own choice)
abbrev pub most_entries : ℕ
most_entries = 1000000

-- entries with `count` more of one at the end, unless that makes too many
abbrev pub repeated_within : List Outer → ℕ → Outer → Option (List Outer)
repeated_within script count entry =
    if nat_le (length script + count) most_entries then Some (script ++ replicate count entry) else None

-- entries with those of a run at the end; none where the run is of steps
abbrev pub with_run : List Outer → Run → Option (List Outer)
with_run script run = option_and_then (repeated_within script run.count) (outer_of run.event)

-- entries with those of a line at the end
abbrev pub with_line : List Outer → List ℕ → Option (List Outer)
with_line script line = option_and_then (with_run script) (run_of_line line)

-- The lines from the one of this number on, after those that made these entries. What stands after the last newline
-- has to be empty.
abbrev pub lines_read : List Outer → ℕ → List (List ℕ) → Result (List Outer) ScriptFault
lines_read script number [] = Err (Syntax number)
lines_read script number (line ∷ []) = if length line == 0 then Ok script else Err (Syntax number)
lines_read script number (line ∷ next ∷ lines) = do
  more ← or_fault (Syntax number) (with_line script line)
  lines_read more (number + 1) (next ∷ lines)

-- the script that a text says, or the text's first fault
unfoldable pub script_of : List ℕ → Result (List Outer) ScriptFault
script_of text = lines_read [] 1 (lines_of text)
