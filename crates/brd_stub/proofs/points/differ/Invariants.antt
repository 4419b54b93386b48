-- no byte so far differs
use Rattle.std.proofs.Common.{◌≡◌, ◌-◌}
use Rattle.brd_stub.specs.Reasons.{differ}
use Rattle.brd_stub.proofs.points.differ.Given as goal

abbrev pub invariant-loop-i : goal.invariant-loop-i
invariant-loop-i l =
    differ l.before.memory l.after.memory l.address l.i (l.length - l.i) ≡ differ l.before.memory l.after.memory
    l.address 0 l.length
