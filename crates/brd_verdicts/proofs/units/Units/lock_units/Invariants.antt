-- Those so far that are tasks' own.
use Rattle.std.proofs.Common.{◌≡◌, take}
use Rattle.std.specs.List.{filter}
use Rattle.brd_verdicts.specs.Units.{is_own}
use Rattle.brd_verdicts.proofs.units.Units.lock_units.Given as goal

abbrev pub invariant-loop-unit : goal.invariant-loop-unit
invariant-loop-unit l = record {
  kept : l.units ≡ filter (is_own l.self l.board) (take l.unit-index l.unit-items);
}
