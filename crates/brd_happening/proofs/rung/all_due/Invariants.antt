-- The lines so far, and those of the places that are left, are all.
use Rattle.std.proofs.Common.{◌≡◌, ◌++◌, ◌-◌}
use Rattle.std.specs.List.{filter_map, range_with_len}
use Rattle.brd_happening.specs.Rung.{due_at, all_due}
use Rattle.brd_happening.proofs.rung.all_due.Given as goal

abbrev pub invariant-loop-place : goal.invariant-loop-place
invariant-loop-place l = l.due ++ filter_map (due_at l.board) (range_with_len l.place (128 - l.place)) ≡ all_due l.board
