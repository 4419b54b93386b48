-- the bytes so far and those that are left are all, and nothing else changes
use Rattle.std.proofs.Common.{◌≡◌, ◌-◌}
use Rattle.brd_stub.specs.Points.{add_bytes}
use Rattle.brd_stub.proofs.points.watch_bytes.Given as goal

abbrev pub invariant-loop-i : goal.invariant-loop-i
invariant-loop-i l = record {
  same : l.debugger ≡ record l.initial.debugger {
    stops = record l.initial.debugger.stops {
      watches =
          l.debugger.stops.watches;
    };
  };
  bytes : add_bytes l.debugger.stops.watches l.address l.i (l.length - l.i) ≡ add_bytes
      l.initial.debugger.stops.watches l.address 0 l.length;
}
