use Rattle.std.proofs.Common.{◌≡◌, ◌≤◌, take}
use Rattle.brd_spins.specs.Spins.{IsLeastPlace}
use Rattle.brd_spins.proofs.spin.least_place.Given as goal

abbrev pub invariant-loop-i : goal.invariant-loop-i
invariant-loop-i l = record {
  first : l.i ≡ 0 → l.least ≡ 4294967295;
  least : 1 ≤ l.i → IsLeastPlace (take l.i l.states) l.least;
}
