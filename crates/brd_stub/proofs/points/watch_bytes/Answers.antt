use Rattle.std.proofs.Common.{ℕ, List, refl, ap}
use Rattle.brd_debug.specs.declared.stops.Stops.{Stops}
use Rattle.brd_debug.specs.Debugger.{DebuggerState}
use Rattle.brd_stub.proofs.PointLemmas.{same-marks, next-bytes}
use Rattle.brd_stub.proofs.points.watch_bytes.Goals as goal

pub loop-i-preserved : goal.loop-i-preserved
loop-i-preserved c = record {
  same = same-marks (λ (s : Stops) (m : List ℕ). record s { watches = m }) (λ (s : Stops). s.watches)
      (λ (s : Stops) (a b : List ℕ). refl) (λ (s : Stops) (a : List ℕ). refl) c.args.debugger.now c.loop-i.debugger
      c.watch_byte.new.self _ c.loop-i.invariant.same c.watch_byte.ensures.is;
  bytes = next-bytes (λ (s : Stops). s.watches) c.loop-i.debugger c.watch_byte.new.self
      c.args.debugger.now.stops.watches
      c.args.address c.loop-i.i c.args.length c.loop-i-test.true
      (ap (λ (d : DebuggerState). d.stops.watches) c.watch_byte.ensures.is) c.loop-i.invariant.bytes;
}
