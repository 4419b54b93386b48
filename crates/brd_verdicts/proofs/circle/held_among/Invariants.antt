-- Those so far that are held among all.
use Rattle.std.proofs.Common.{◌≡◌, take}
use Rattle.std.specs.List.{filter}
use Rattle.brd_verdicts.specs.Circle.{is_held}
use Rattle.brd_verdicts.proofs.circle.held_among.Given as goal

abbrev pub invariant-loop-wait : goal.invariant-loop-wait
invariant-loop-wait l = record {
  kept : l.held ≡ filter (is_held l.units l.those) (take l.wait-index l.those);
}
