-- The segments that are left ascend from the end of the last one exactly where all of them ascend.
use Rattle.std.proofs.Common.{◌≤◌, length}
use Rattle.std.specs.Prelude.{◌↔◌}
use Rattle.brd_base.specs.Space.{base, top}
use Rattle.brd_mem.specs.Image.{AreAscending}
use Rattle.brd_mem.proofs.plain.are_ascending.Given as goal

abbrev pub invariant-loop-segment : goal.invariant-loop-segment
invariant-loop-segment l = record {
  same : AreAscending l.low l.left ↔ AreAscending base l.segments;
  room : l.low ≤ top;
}

abbrev pub decreases-loop-segment : goal.decreases-loop-segment
decreases-loop-segment l = length l.left
