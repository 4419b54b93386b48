use Rattle.std.proofs.Common.{◌≡◌, ◌≤◌, ℕ}
use Rattle.std.specs.Prelude.{Some, slice_get}
use Rattle.brd_spins.specs.declared.spin.Spin.{Spin}
use Rattle.brd_spins.specs.Since.{AreAscending, AreFound, AreListed}
use Rattle.brd_spins.proofs.spinning.listed.Given as goal

abbrev pub invariant-loop-i : goal.invariant-loop-i
invariant-loop-i l = record {
  each : AreListed l.turnings l.lefts l.spins;
  found : AreFound l.turnings l.i l.spins;
  low : (at : ℕ) (spin : Spin) → slice_get l.spins at ≡ Some spin → spin.cpu ≤ l.i;
  ascending : AreAscending l.spins;
}
