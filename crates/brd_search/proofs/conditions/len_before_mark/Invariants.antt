-- What was passed are other bytes.
use Rattle.std.proofs.Common.{◌≡◌, ◌+◌, drop}
use Rattle.std.specs.List.{position_or_len}
use Rattle.brd_search.specs.Plans.{is_mark}
use Rattle.brd_search.proofs.conditions.len_before_mark.Given as goal

abbrev pub invariant-loop-i : goal.invariant-loop-i
invariant-loop-i l = l.i + position_or_len is_mark (drop l.i l.text) ≡ position_or_len is_mark l.text
