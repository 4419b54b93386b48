-- The service calls that are answered in an event: the one that the event makes, and those of the tasks whose waits it
-- ends.
use Rattle.std.specs.Prelude.{ℕ, nat_le, Bool, List, map, slice_index_or, slice_set, unwrap_or, Option, None, Some}
use Rattle.std.specs.Option.{option_map}
use Rattle.std.specs.List.{cons_option}
use Rattle.brd_kernel.specs.declared.call.Call.{Call}
use Rattle.brd_kernel.specs.declared.processor.Standing.{Standing}
use Rattle.brd_sysgate.specs.Gate.{asked}
use Rattle.brd_happening.specs.declared.release.{AskedCall.AskedCall, Release.Release}
use Rattle.brd_happening.specs.declared.call.{Answer.Answer, CallMade.CallMade}
use Rattle.brd_happening.specs.declared.call.Answer.TheVariants.{Given, Waits, Again, Never}
use Rattle.brd_happening.specs.declared.happening.{What.What, Happening.Happening}
use Rattle.brd_happening.specs.declared.happening.What.TheVariants as what
use Rattle.brd_verdicts.specs.declared.answers.Answered.{Answered}

-- the call that is asked for, where one has its number
abbrev pub call_in : AskedCall → Option Call
call_in it = option_map (λ a. a.call) (asked it.number it.arguments)

-- the call was refused, or ended without what was waited for: the answer is a negative number
abbrev pub is_error : ℕ → Bool
is_error code = nat_le 0x80000000 code

abbrev pub task_by : Option Standing → Option ℕ
task_by (Some (Standing.Task id)) = Some id
task_by (Some (Standing.Handler line)) = None
task_by (Some Standing.Idle) = None
task_by (Some Standing.Stopped) = None
task_by None = None

-- ---- the call that an event makes

abbrev pub given_by : Happening → AskedCall → Answer → Option Answered
given_by it call (Given code second) =
    Some (record { task = task_by it.who; call = call; code = code; place = unwrap_or it.place 0 })
given_by it call (Waits reason due) = None
given_by it call Again = None
given_by it call Never = None

-- its answer, if it is answered at once
abbrev pub own_answer : Happening → What → Option Answered
own_answer it (what.Call made) = given_by it made.asked made.answer
own_answer it _ = None

-- ---- calls that wait

-- where the last wait of each task began, by its ID
abbrev pub waits_from : Option ℕ → ℕ → Answer → List ℕ → List ℕ
waits_from (Some task) place (Waits reason due) begun = slice_set begun task place
waits_from task place answer begun = begun

abbrev pub begun_after : Happening → What → List ℕ → List ℕ
begun_after it (what.Call made) begun = waits_from (task_by it.who) (unwrap_or it.place 0) made.answer begun
begun_after it _ begun = begun

-- the answer of a task whose wait has ended, to the call that was made where the wait began
abbrev pub late_answer : List ℕ → Release → Answered
late_answer begun it =
    record { task = Some it.task; call = it.asked; code = it.code; place = slice_index_or begun it.task 0 }

-- all of an event, that of its own call first
abbrev pub answers_in : List ℕ → Happening → List Answered
answers_in begun it = cons_option (own_answer it it.what) (map (late_answer begun) it.released)
