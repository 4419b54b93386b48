-- The states of a task, and which one each transition leads to (uITRON 4.0 specification, "Task States"). What a task
-- waits for stands in its status; there is one level of suspension (own choice).
use Rattle.std.specs.Prelude.{Bool, true, false, Option, None, Some}
use Rattle.brd_tasks.specs.declared.status.WaitReason.{WaitReason}
use Rattle.brd_tasks.specs.declared.status.TaskState.{TaskState}
use Rattle.brd_tasks.specs.declared.status.TaskState.TheVariants as state
use Rattle.brd_tasks.specs.declared.status.Status.{Status}
use Rattle.brd_tasks.specs.declared.status.Status.TheVariants.{Dormant, Ready, Waiting, Suspended, WaitingSuspended}

abbrev pub state_of : Status → TaskState
state_of Dormant = state.Dormant
state_of Ready = state.Ready
state_of (Waiting reason) = state.Waiting
state_of Suspended = state.Suspended
state_of (WaitingSuspended reason) = state.WaitingSuspended

abbrev pub waiting_of : Status → Option WaitReason
waiting_of Dormant = None
waiting_of Ready = None
waiting_of (Waiting reason) = Some reason
waiting_of Suspended = None
waiting_of (WaitingSuspended reason) = Some reason

abbrev pub is_dormant : Status → Bool
is_dormant Dormant = true
is_dormant Ready = false
is_dormant (Waiting reason) = false
is_dormant Suspended = false
is_dormant (WaitingSuspended reason) = false

abbrev pub is_ready : Status → Bool
is_ready Dormant = false
is_ready Ready = true
is_ready (Waiting reason) = false
is_ready Suspended = false
is_ready (WaitingSuspended reason) = false

abbrev pub is_waiting : Status → Bool
is_waiting Dormant = false
is_waiting Ready = false
is_waiting (Waiting reason) = true
is_waiting Suspended = false
is_waiting (WaitingSuspended reason) = true

abbrev pub is_suspended : Status → Bool
is_suspended Dormant = false
is_suspended Ready = false
is_suspended (Waiting reason) = false
is_suspended Suspended = true
is_suspended (WaitingSuspended reason) = true

-- The transitions: the status to which each one leads, from each status that it applies to.

-- a task begins to wait
abbrev pub blocked : WaitReason → Status → Option Status
blocked reason Dormant = None
blocked reason Ready = Some (Waiting reason)
blocked reason (Waiting other) = None
blocked reason Suspended = None
blocked reason (WaitingSuspended other) = None

-- a wait ends
abbrev pub released : Status → Option Status
released Dormant = None
released Ready = None
released (Waiting reason) = Some Ready
released Suspended = None
released (WaitingSuspended reason) = Some Suspended

-- sus_tsk
abbrev pub suspended : Status → Option Status
suspended Dormant = None
suspended Ready = Some Suspended
suspended (Waiting reason) = Some (WaitingSuspended reason)
suspended Suspended = None
suspended (WaitingSuspended reason) = None

-- rsm_tsk
abbrev pub resumed : Status → Option Status
resumed Dormant = None
resumed Ready = None
resumed (Waiting reason) = None
resumed Suspended = Some Ready
resumed (WaitingSuspended reason) = Some (Waiting reason)
