-- The tasks so far, and those among the numbers that are left, are all.
use Rattle.std.proofs.Common.{◌≡◌, ◌++◌, ◌-◌}
use Rattle.std.specs.List.{filter_map, range_with_len}
use Rattle.brd_seen.specs.Seen.{seen_in, all_seen}
use Rattle.brd_seen.proofs.tasks.tasks_seen.Given as goal

abbrev pub invariant-loop-id : goal.invariant-loop-id
invariant-loop-id l = l.tasks.items ++ filter_map (seen_in l.board) (range_with_len l.id (256 - l.id)) ≡ all_seen l.board
