-- the stops so far and those of the points that are left are all
use Rattle.std.proofs.Common.{◌≡◌, drop}
use Rattle.brd_stub.specs.Points.{with_stops, stops_of}
use Rattle.brd_stub.proofs.points.load.Given as goal

abbrev pub invariant-loop-point : goal.invariant-loop-point
invariant-loop-point l =
    record l.debugger { stops = with_stops l.debugger.stops (drop l.point-index l.points) }
    ≡ record l.initial.debugger { stops = stops_of l.points }
