use Rattle.std.proofs.Common.{◌≡◌, ◌+◌, ◌≤◌, length}
use Rattle.brd_text.specs.Lines.{lines_of}
use Rattle.brd_journal.specs.Reading.{lines_read}
use Rattle.brd_journal.proofs.reading.read_lines.Given as goal

-- to read the lines that are left, after those so far, is to read all
abbrev pub invariant-lines : goal.invariant-lines
invariant-lines l = record {
  same : lines_read l.journal l.number (lines_of l.rest) ≡ lines_read l.fn.journal 2 (lines_of l.fn.text);
  room : l.number + length l.rest ≤ 2 + length l.fn.text;
}

abbrev pub decreases-lines : goal.decreases-lines
decreases-lines l = length l.rest
