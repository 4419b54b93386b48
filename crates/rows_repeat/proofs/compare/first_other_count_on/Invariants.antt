-- the board that does many steps is as at the beginning
use Rattle.std.proofs.Common.{◌≡◌}
use Rattle.rows_repeat.proofs.compare.first_other_count_on.Given as goal

abbrev pub invariant-loop-count : goal.invariant-loop-count
invariant-loop-count l = l.many ≡ l.boot
