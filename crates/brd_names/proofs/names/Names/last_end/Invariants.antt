-- The greatest end so far, and those of the segments that are left, are those of all.
use Rattle.std.proofs.Common.{◌≡◌, drop}
use Rattle.std.specs.Prelude.{max}
use Rattle.brd_names.specs.Addresses.{last_end}
use Rattle.brd_names.proofs.names.Names.last_end.Given as goal

abbrev pub invariant-loop-segment : goal.invariant-loop-segment
invariant-loop-segment l =
    max l.last (last_end l.address (drop l.segment-index l.segments)) ≡ last_end l.address l.segments
