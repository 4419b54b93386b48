-- What was taken is the front of the line.
use Rattle.std.proofs.Common.{◌≡◌, ◌+◌, ◌-◌, ◌≤◌, List, ℕ, length}
use Rattle.std.specs.Prelude.{Some}
use Rattle.brd_running.specs.DebugLine.{command_lines, line_size}
use Rattle.brd_running.specs.Lines.{IsLeftOf, KnowsEnd}
use Rattle.brd_running.proofs.LineLemmas.{with_front}
use Rattle.brd_running.proofs.lines.next_line.Given as goal

abbrev pub invariant-loop-byte : goal.invariant-loop-byte
invariant-loop-byte g l = record {
  few : l.taken.bytes ≤ 134217728;
  counted : l.taken.bytes ≡ l.fn.taken.bytes + length l.line.items;
  reads : l.fn.taken.reads ≤ l.taken.reads;
  ended : KnowsEnd l.taken (g.R.Read.remaining l.reader);
  left : (text : List ℕ) → g.R.Read.remaining l.fn.reader ≡ Some text →
      (rest : List ℕ) × (g.R.Read.remaining l.reader ≡ Some rest) × (command_lines text ≡ with_front l.line.items (command_lines rest))
      × (l.taken.bytes + length rest ≡ l.fn.taken.bytes + length text)
      × (l.taken.bytes + line_size rest ≡ l.fn.taken.bytes + line_size text) × IsLeftOf text rest;
}

abbrev pub decreases-loop-byte : goal.decreases-loop-byte
decreases-loop-byte g l = 134217728 - l.taken.bytes
