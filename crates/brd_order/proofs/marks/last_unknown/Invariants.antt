use Rattle.std.proofs.Common.{◌≡◌, ◌<◌, ◌≤◌, ℕ}
use Rattle.std.specs.Prelude.{IfSome, Some}
use Rattle.std.specs.List.{slice_get}
use Rattle.brd_order.specs.declared.deed.Mark.{Mark}
use Rattle.brd_order.specs.Races.{IsIn}
use Rattle.brd_order.specs.Marks.{IsUnknown}
use Rattle.brd_order.specs.Tables.{counts_of}
use Rattle.brd_order.proofs.marks.last_unknown.Given as goal

abbrev pub invariant-loop-i : goal.invariant-loop-i
invariant-loop-i l = record {
  unknown : IfSome l.found (λ m. IsIn m l.marks × IsUnknown (counts_of l.clock) l.new m);
  last : (k : ℕ) (m : Mark) → k < l.i → slice_get l.marks k ≡ Some m → IsUnknown (counts_of l.clock) l.new m →
      (best : Mark) × (l.found ≡ Some best) × (m.at ≤ best.at);
}
