-- n steps were done.
use Rattle.std.proofs.Common.{◌≡◌, Some}
use Rattle.brd_exec.specs.Lent.{lent}
use Rattle.brd_lent.proofs.decoded.Decoded.run.Given as goal

abbrev pub invariant-loop-done : goal.invariant-loop-done
invariant-loop-done l = lent l.done l.fn.context l.window l.start ≡ Some l.context
