-- What was passed are other bytes.
use Rattle.std.proofs.Common.{◌≡◌, ◌+◌, drop, eqb}
use Rattle.std.specs.List.{position_or_len}
use Rattle.brd_text.proofs.pieces.len_before.Given as goal

abbrev pub invariant-loop-i : goal.invariant-loop-i
invariant-loop-i l =
    l.i + position_or_len (λ byte. eqb byte l.mark) (drop l.i l.text) ≡ position_or_len (λ byte. eqb byte l.mark) l.text
