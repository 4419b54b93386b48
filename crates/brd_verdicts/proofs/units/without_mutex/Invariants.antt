-- Those so far that are left.
use Rattle.std.proofs.Common.{◌≡◌, take}
use Rattle.brd_verdicts.specs.Units.{without_mutex}
use Rattle.brd_verdicts.proofs.units.without_mutex.Given as goal

abbrev pub invariant-loop-unit : goal.invariant-loop-unit
invariant-loop-unit l = record {
  kept : l.left ≡ without_mutex l.mutex (take l.unit-index l.units);
}
