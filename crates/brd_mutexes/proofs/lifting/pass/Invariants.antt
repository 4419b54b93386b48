use Rattle.std.proofs.Common.{◌≡◌, length, drop}
use Rattle.std.specs.Prelude.{◌||◌}
use Rattle.brd_mutexes.specs.Passes.{lifts, passed}
use Rattle.brd_mutexes.proofs.lifting.pass.Given as goal

abbrev pub invariant-loop-i : goal.invariant-loop-i
invariant-loop-i l = record {
  rest : passed 0 l.holders l.fn.priorities ≡ passed l.i (drop l.i l.holders) l.priorities;
  any : lifts 0 l.holders l.fn.priorities ≡ (l.lifted || lifts l.i (drop l.i l.holders) l.priorities);
  long : length l.priorities ≡ length l.fn.priorities;
}
