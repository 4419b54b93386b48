-- None of the segments so far holds the address.
use Rattle.std.proofs.Common.{◌≡◌, drop}
use Rattle.std.specs.List.{list_any}
use Rattle.brd_names.specs.Addresses.{is_in}
use Rattle.brd_names.proofs.names.Names.loads.Given as goal

abbrev pub invariant-loop-segment : goal.invariant-loop-segment
invariant-loop-segment l =
    list_any (is_in l.address) (drop l.segment-index l.segments) ≡ list_any (is_in l.address) l.segments
