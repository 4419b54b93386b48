-- the bytes so far and those that are left are all, and nothing else changes
use Rattle.std.proofs.Common.{◌≡◌, ◌-◌}
use Rattle.brd_stub.specs.Points.{add_bytes}
use Rattle.brd_stub.proofs.points.watch_accesses.Given as goal

abbrev pub invariant-loop-i : goal.invariant-loop-i
invariant-loop-i l = record {
  same : l.debugger ≡ record l.initial.debugger {
    stops = record l.initial.debugger.stops {
      accesses =
          l.debugger.stops.accesses;
    };
  };
  bytes : add_bytes l.debugger.stops.accesses l.address l.i (l.length - l.i) ≡ add_bytes
      l.initial.debugger.stops.accesses l.address 0 l.length;
}
