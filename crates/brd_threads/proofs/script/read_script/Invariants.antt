use Rattle.std.proofs.Common.{◌≡◌, ◌+◌, ◌≤◌, length}
use Rattle.brd_text.specs.Lines.{lines_of}
use Rattle.brd_threads.specs.Script.{lines_read, script_of}
use Rattle.brd_threads.proofs.script.read_script.Given as goal

-- to read the lines that are left, after those so far, is to read all
abbrev pub invariant-lines : goal.invariant-lines
invariant-lines l = record {
  same : lines_read l.script.items l.number (lines_of l.rest) ≡ script_of l.fn.text;
  room : l.number + length l.rest ≤ 1 + length l.fn.text;
}

abbrev pub decreases-lines : goal.decreases-lines
decreases-lines l = length l.rest
