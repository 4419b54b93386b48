-- The waits so far, and those among the tasks that are left, are all.
use Rattle.std.proofs.Common.{◌≡◌, ◌++◌, ◌-◌}
use Rattle.std.specs.List.{filter_map, range_with_len}
use Rattle.brd_verdicts.specs.Circle.{wait_in, waits_of}
use Rattle.brd_verdicts.proofs.circle.waits_of.Given as goal

abbrev pub invariant-loop-id : goal.invariant-loop-id
invariant-loop-id l = l.waits ++ filter_map (wait_in l.board) (range_with_len l.id (256 - l.id)) ≡ waits_of l.board
