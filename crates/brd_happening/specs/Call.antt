-- A service call: what is asked for, and what becomes of it, by its caller after the event.
use Rattle.std.specs.Prelude.{◌==◌, Bool, true, false, not, ◌&&◌, if◌then◌else◌, Option, None, Some}
use Rattle.brd_exec.specs.State.{State, read}
use Rattle.brd_tasks.specs.declared.status.WaitReason.{WaitReason}
use Rattle.brd_tasks.specs.declared.task.TaskView.{TaskView}
use Rattle.brd_kernel.specs.declared.call.Call.{Call}
use Rattle.brd_kernel.specs.declared.processor.Standing.{Standing}
use Rattle.brd_sysgate.specs.declared.place.Asked.{Asked}
use Rattle.brd_sysgate.specs.Gate.{asked}
use Rattle.brd_board.specs.Board.{BoardState, task_of, registers_of}
use Rattle.brd_happening.specs.declared.found.Found.{Found}
use Rattle.brd_happening.specs.declared.release.AskedCall.{AskedCall}
use Rattle.brd_happening.specs.declared.call.{Answer.Answer, CallMade.CallMade}
use Rattle.brd_happening.specs.declared.call.Answer.TheVariants.{Given, Waits, Again, Never}
use Rattle.brd_happening.specs.Release.{asked_of}

-- ext_tsk ends its caller, ext_ker turns the board off; from a task each is let through and never refused
abbrev pub ends_task : Call → Bool
ends_task Call.ExtTsk = true
ends_task Call.ExtKer = true
ends_task _ = false

-- ret_int ends its handler; from a handler it is let through and never refused
abbrev pub ends_handler : Call → Bool
ends_handler Call.RetInt = true
ends_handler _ = false

abbrev pub never_returns_by : Standing → Option Asked → Bool
never_returns_by who None = false
never_returns_by (Standing.Task id) (Some it) = ends_task it.call
never_returns_by (Standing.Handler line) (Some it) = ends_handler it.call
never_returns_by Standing.Idle (Some it) = false
never_returns_by Standing.Stopped (Some it) = false

-- a call that doesn't return to who makes it
abbrev pub never_returns : Standing → AskedCall → Bool
never_returns who it = never_returns_by who (asked it.number it.arguments)

-- A call that is to be made again leaves its caller where it was. (After any other the caller's next two instructions
-- lie elsewhere, also where a branch leads to its own delay slot.)
abbrev pub goes_on : State → State → Bool
goes_on before after = not ((before.pc == after.pc) && (before.npc == after.npc))

-- $v0, and $v1
abbrev pub given : State → Answer
given s = Given (read s 2) (read s 3)

-- what becomes of a call whose caller doesn't wait
abbrev pub answer_at_once : State → State → Answer
answer_at_once before after = if goes_on before after then given after else Again

abbrev pub answer_seen : State → TaskView → Option WaitReason → Answer
answer_seen before view (Some reason) = Waits reason view.due
answer_seen before view None = answer_at_once before view.context

-- what becomes of a task's call
abbrev pub answer_in_task : State → Option TaskView → Answer
answer_in_task before None = Never
answer_in_task before (Some view) = answer_seen before view view.waiting

-- what becomes of a handler's call, which never waits
abbrev pub answer_in_handler : State → Option State → Answer
answer_in_handler before None = Never
answer_in_handler before (Some after) = answer_at_once before after

abbrev pub answer_of : Found → BoardState → Standing → Answer
answer_of found after (Standing.Task id) = answer_in_task found.context (task_of after id)
answer_of found after (Standing.Handler line) = answer_in_handler found.context (registers_of after found.cpu)
answer_of found after Standing.Idle = answer_in_handler found.context (registers_of after found.cpu)
answer_of found after Standing.Stopped = answer_in_handler found.context (registers_of after found.cpu)

-- the call of the SYSCALL that was found, by the board after it
abbrev pub call_of : Found → BoardState → CallMade
call_of found after =
    let it = asked_of found.context in
    record { asked = it; answer = if never_returns found.who it then Never else answer_of found after found.who }
