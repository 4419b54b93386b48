use Rattle.std.proofs.Common.{◌≡◌, length}
use Rattle.brd_spins.specs.Spins.{AreTurnings}
use Rattle.brd_spins.proofs.looping.turnings_of.Given as goal

abbrev pub invariant-loop-i : goal.invariant-loop-i
invariant-loop-i l = record {
  many : length l.turnings.items ≡ l.i;
  are : AreTurnings l.board l.turnings.items;
}
