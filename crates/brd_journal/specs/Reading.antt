-- How a text is read: line by line from the front. The first line that has a fault decides, and a line is read before
-- its run is appended. Meaning says what a text says without reading it; that both agree is proved as
-- `laws::texts_follow_the_grammar` and `laws::the_first_wrong_line_decides`.
use Rattle.std.specs.Prelude.{ℕ, zero, suc, ◌+◌, ◌==◌, Bool, not, if◌then◌else◌, List, [], ◌∷◌, length, take, drop}
use Rattle.std.specs.Prelude.{Option, None, Some, option_and_then, option_map, Result, Ok, Err}
use Rattle.std.specs.List.{prefix_len}
use Rattle.std.specs.Str.{bytes_eq}
use Rattle.brd_text.specs.Faults.{◌>>=◌, or_fault}
use Rattle.brd_text.specs.Lines.{lines_of}
use Rattle.brd_text.specs.Numbers.{plain_decimal_of}
use Rattle.brd_word.specs.declared.order.Order.{Order}
use Rattle.brd_board.specs.declared.event.Event.TheVariants.{Step, Tick, Raise}
use Rattle.brd_journal.specs.declared.fault.JournalFault.{JournalFault}
use Rattle.brd_journal.specs.declared.fault.JournalFault.TheVariants.{Syntax}
use Rattle.brd_journal.specs.declared.run.Run.{Run}
use Rattle.brd_journal.specs.Runs.{most_count, copies}
use Rattle.brd_journal.specs.Journal.{JournalState, appended}
use Rattle.brd_journal.specs.Text.{first_line, first_line_1}

-- a byte of a field: a space ends it
unfoldable pub in_field : ℕ → Bool
in_field b = not (b == 32)

-- the first of several fields
abbrev pub first_field : List ℕ → List ℕ
first_field fields = take (prefix_len in_field fields) fields

-- what stands after the space that ends it
abbrev pub other_fields : List ℕ → List ℕ
other_fields fields = drop (prefix_len in_field fields + 1) fields

-- a number that isn't 0
abbrev pub unless_zero : ℕ → Option ℕ
unless_zero zero = None
unless_zero (suc n) = Some (suc n)

-- a count
abbrev pub count_of : List ℕ → Option ℕ
count_of digits = option_and_then unless_zero (plain_decimal_of digits most_count)

-- a number up to 255, and a count after the next space
abbrev pub numbered_of : List ℕ → Option (ℕ × ℕ)
numbered_of fields =
    option_and_then (λ number. option_map (λ count. (number, count)) (count_of (other_fields fields)))
    (plain_decimal_of (first_field fields) 255)

-- the fields after S, T and R
abbrev pub run_of_kind : ℕ → List ℕ → Option Run
run_of_kind kind fields =
    if kind == 83 then option_map (λ p. record { event = Step p.0; count = p.1 }) (numbered_of fields)
    else (if kind == 84 then option_map (λ count. record { event = Tick; count = count }) (count_of fields)
    else (if kind == 82 then option_map (λ p. record { event = Raise p.0; count = p.1 }) (numbered_of fields)
    else None))

-- what a line says
abbrev pub run_of_line : List ℕ → Option Run
run_of_line [] = None
run_of_line (kind ∷ []) = None
run_of_line (kind ∷ space ∷ fields) = if space == 32 then run_of_kind kind fields else None

-- The lines from the one of this number on, after those that made this journal. What stands after the last newline
-- has to be empty.
abbrev pub lines_read : JournalState → ℕ → List (List ℕ) → Result JournalState JournalFault
lines_read journal number [] = Err (Syntax number)
lines_read journal number (line ∷ []) = if length line == 0 then Ok journal else Err (Syntax number)
lines_read journal number (line ∷ next ∷ lines) = do
  run ← or_fault (Syntax number) (run_of_line line)
  more ← appended journal (copies run.event run.count)
  lines_read more (number + 1) (next ∷ lines)

-- the byte order that a first line says
abbrev pub order_of_line : List ℕ → Option Order
order_of_line line =
    if bytes_eq line (first_line Order.Big) then Some Order.Big
    else (if bytes_eq line (first_line Order.Little) then Some Order.Little
    else (if bytes_eq line first_line_1 then Some Order.Big else None))

-- a text's lines: the first line, with a newline, and then those of the runs
abbrev pub journal_by_lines : ℕ → List (List ℕ) → Result JournalState JournalFault
journal_by_lines limit [] = Err (Syntax 1)
journal_by_lines limit (line ∷ []) = Err (Syntax 1)
journal_by_lines limit (line ∷ next ∷ lines) = do
  order ← or_fault (Syntax 1) (order_of_line line)
  lines_read (record { limit = limit; order = order; events = [] }) 2 (next ∷ lines)

-- the journal of this limit that a text says, or the text's first fault
unfoldable pub journal_of : ℕ → List ℕ → Result JournalState JournalFault
journal_of limit text = journal_by_lines limit (lines_of text)
