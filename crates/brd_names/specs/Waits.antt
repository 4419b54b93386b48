-- The states of tasks, and what they wait for, in words.
use Rattle.std.specs.Prelude.{ℕ, List, [], ◌++◌, codes, Option, None, Some}
use Rattle.brd_tasks.specs.declared.status.TaskState.{TaskState}
use Rattle.brd_tasks.specs.declared.status.WaitReason.{WaitReason}
use Rattle.brd_tasks.specs.declared.status.WaitReason.TheVariants as reason
use Rattle.brd_tasks.specs.declared.status.WaitKind.{WaitKind}
use Rattle.brd_names.specs.Lines.{named_text}

-- ---- a task

abbrev pub state_text : TaskState → List ℕ
state_text TaskState.Dormant = codes "dormant"
state_text TaskState.Ready = codes "ready"
state_text TaskState.Waiting = codes "waiting"
state_text TaskState.Suspended = codes "suspended"
state_text TaskState.WaitingSuspended = codes "waiting-suspended"

abbrev pub kind_text : WaitKind → List ℕ
kind_text WaitKind.Semaphore = codes "for semaphore"
kind_text WaitKind.Flag = codes "for event flag"
kind_text WaitKind.Room = codes "to send to data queue"
kind_text WaitKind.Datum = codes "to receive from data queue"
kind_text WaitKind.Mutex = codes "for mutex"
kind_text WaitKind.Block = codes "for a block of pool"
kind_text WaitKind.Message = codes "to receive from mailbox"

abbrev pub reason_text : WaitReason → List ℕ
reason_text reason.Sleep = codes "for a wake-up"
reason_text reason.Delay = codes "for time to pass"
reason_text (reason.On kind id) = named_text (kind_text kind) id

abbrev pub due_text : Option ℕ → List ℕ
due_text None = []
due_text (Some tick) = named_text (codes ", until tick") tick

abbrev pub wait_text : WaitReason → Option ℕ → List ℕ
wait_text reason due = codes "waits " ++ reason_text reason ++ due_text due
