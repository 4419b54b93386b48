-- Tasks that wait, and whose wait could end.
use Rattle.std.specs.Prelude.{Bool, false, Option, None, Some}
use Rattle.brd_tasks.specs.declared.task.Task.{Task}
use Rattle.brd_tasks.specs.Status.{is_waiting}

abbrev pub is_waiting_task : Option Task → Bool
is_waiting_task None = false
is_waiting_task (Some task) = is_waiting task.status
