use Rattle.std.proofs.Common.{◌≡◌, ◌≤◌, drop, Some}
use Rattle.brd_text.specs.Numbers.{value_behind, at_most}
use Rattle.brd_text.proofs.numeral.value.Given as goal

-- the digits that are left complete the value so far as all of them do from 0
abbrev pub invariant-loop-byte : goal.invariant-loop-byte
invariant-loop-byte l = record {
  same : at_most l.most (value_behind l.base (Some l.value) (drop l.byte-index l.digits)) ≡ at_most l.most (value_behind l.base (Some 0) l.digits);
  small : l.value ≤ l.most;
}
