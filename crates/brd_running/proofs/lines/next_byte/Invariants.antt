-- Reads that were interrupted have taken nothing.
use Rattle.std.proofs.Common.{◌≡◌, ◌-◌, ◌≤◌, List, ℕ}
use Rattle.std.specs.Prelude.{Some, false}
use Rattle.brd_running.proofs.lines.next_byte.Given as goal

abbrev pub invariant-loop-taken : goal.invariant-loop-taken
invariant-loop-taken g l = record {
  bytes : l.taken.bytes ≡ l.fn.taken.bytes;
  reads : l.fn.taken.reads ≤ l.taken.reads;
  on : l.taken.ended ≡ false;
  left : (text : List ℕ) → g.R.Read.remaining l.fn.reader ≡ Some text → g.R.Read.remaining l.reader ≡ Some text;
}

abbrev pub decreases-loop-taken : goal.decreases-loop-taken
decreases-loop-taken g l = 268435456 - l.taken.reads
