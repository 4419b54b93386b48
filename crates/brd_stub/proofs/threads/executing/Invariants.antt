-- nobody is executed on the processors so far
use Rattle.std.proofs.Common.{◌≡◌, ◌-◌}
use Rattle.brd_stub.specs.Threads.{first_executing}
use Rattle.brd_stub.proofs.threads.executing.Given as goal

abbrev pub invariant-loop-other : goal.invariant-loop-other
invariant-loop-other l = first_executing l.board (9 - l.other) l.other l.cpu ≡ first_executing l.board 8 1 l.cpu
