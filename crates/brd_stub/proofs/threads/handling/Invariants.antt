-- none of the processors so far runs the handler
use Rattle.std.proofs.Common.{◌≡◌, ◌-◌}
use Rattle.brd_stub.specs.Threads.{handling_from}
use Rattle.brd_stub.proofs.threads.handling.Given as goal

abbrev pub invariant-loop-cpu : goal.invariant-loop-cpu
invariant-loop-cpu l = handling_from l.board l.line (9 - l.cpu) l.cpu ≡ handling_from l.board l.line 8 1
