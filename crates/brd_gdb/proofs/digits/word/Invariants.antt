use Rattle.std.proofs.Common.{◌≡◌, ◌≤◌, drop, Some}
use Rattle.brd_text.specs.Numbers.{value_behind, at_most, most_word}
use Rattle.brd_gdb.proofs.digits.word.Given as goal

-- the digits that are left complete the value so far as all of them do from 0
abbrev pub invariant-loop-byte : goal.invariant-loop-byte
invariant-loop-byte l = record {
  same : at_most most_word (value_behind 16 (Some l.value) (drop l.byte-index l.digits)) ≡ at_most most_word (value_behind 16 (Some 0) l.digits);
  small : l.value ≤ most_word;
}
