-- What is there, with those that are left, is what there was, and all of them.
use Rattle.std.proofs.Common.{◌≡◌, ◌++◌, ◌-◌}
use Rattle.std.specs.List.{flat_map, range_with_len}
use Rattle.brd_summary.specs.Summary.{owned_text, owners_text}
use Rattle.brd_summary.proofs.summary.put_owners.Given as goal

abbrev pub invariant-loop-mutex : goal.invariant-loop-mutex
invariant-loop-mutex l =
    l.out.items ++ flat_map (owned_text l.board) (range_with_len l.mutex (256 - l.mutex))
    ≡ l.fn.out.items ++ owners_text l.board
