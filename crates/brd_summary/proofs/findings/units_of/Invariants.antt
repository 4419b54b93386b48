-- Those so far that are of it.
use Rattle.std.proofs.Common.{◌≡◌, take}
use Rattle.std.specs.List.{filter}
use Rattle.brd_verdicts.specs.Circle.{is_of}
use Rattle.brd_summary.proofs.findings.units_of.Given as goal

abbrev pub invariant-loop-unit : goal.invariant-loop-unit
invariant-loop-unit l = l.held ≡ filter (is_of l.wait) (take l.unit-index l.units)
