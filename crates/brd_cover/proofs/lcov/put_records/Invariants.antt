-- The last line is whole.
use Rattle.std.specs.Prelude.{codes}
use Rattle.brd_timeline.specs.Ends.{EndsWith}
use Rattle.brd_cover.proofs.lcov.put_records.Given as goal

abbrev pub invariant-loop-place : goal.invariant-loop-place
invariant-loop-place l = EndsWith (codes "\n") l.to.items
