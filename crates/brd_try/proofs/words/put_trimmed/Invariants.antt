-- The digits so far are zeros.
use Rattle.std.proofs.Common.{◌≡◌, drop}
use Rattle.brd_try.specs.Told.{trimmed}
use Rattle.brd_try.proofs.words.put_trimmed.Given as goal

abbrev pub invariant-loop-i : goal.invariant-loop-i
invariant-loop-i l = record {
  rest : trimmed (drop l.i l.digits) ≡ trimmed l.digits;
  same : l.line.items ≡ l.fn.line.items;
}
