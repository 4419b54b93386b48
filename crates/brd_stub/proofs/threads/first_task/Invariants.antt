-- there is no task of the IDs so far
use Rattle.std.proofs.Common.{◌≡◌, ◌-◌}
use Rattle.brd_stub.specs.Threads.{first_task_from}
use Rattle.brd_stub.proofs.threads.first_task.Given as goal

abbrev pub invariant-loop-id : goal.invariant-loop-id
invariant-loop-id l = first_task_from l.board (256 - l.id) l.id ≡ first_task_from l.board 255 1
