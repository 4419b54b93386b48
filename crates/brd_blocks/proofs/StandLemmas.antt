-- Who executes on a processor stands well, where it is tested so.
use Rattle.std.proofs.Common.{◌≡◌, ℕ, Bool, true, false, not, refl, sym, ap, subst, ◌∙◌}
use Rattle.std.specs.Prelude.{if◌then◌else◌, Option, None, Some, is_some}
use Rattle.std.specs.Option.{option_map}
use Rattle.std.proofs.lemmas.Bool.{false≢true}
use Rattle.brd_exec.specs.State.{State}
use Rattle.brd_tasks.specs.declared.status.Status.{Status}
use Rattle.brd_tasks.specs.declared.status.Status.TheVariants.{Dormant, Ready, Waiting, Suspended, WaitingSuspended}
use Rattle.brd_tasks.specs.declared.task.Task.{Task}
use Rattle.brd_tasks.specs.Status.{state_of, is_dormant, is_waiting}
use Rattle.brd_tasks.specs.Tasks.{task_at, context_at, shown}
use Rattle.brd_kernel.specs.declared.processor.Processor.{Processor}
use Rattle.brd_kernel.specs.declared.processor.Executor.{Executor}
use Rattle.brd_kernel.specs.declared.processor.Executor.TheVariants as executor
use Rattle.brd_kernel.specs.declared.processor.Standing.{Standing}
use Rattle.brd_kernel.specs.declared.processor.Standing.TheVariants as standing
use Rattle.brd_kernel.specs.Kernel.{processor_at, executor_by, executor_in, executor_on, context_of, standing_by, standing_in}
use Rattle.brd_time.specs.Time.{due_of}
use Rattle.brd_kernel.specs.Waits.{shown_until}
use Rattle.brd_board.specs.Board.{BoardState, task_of}
use Rattle.brd_frames.specs.Steady.{is_waiting_task}
use Rattle.brd_frames.specs.Apart.{is_handling, is_steady}
use Rattle.brd_frames.specs.Ending.{is_live, is_live_at}
use Rattle.brd_frames.specs.Agents.{agent_by}
use Rattle.brd_blocks.specs.Looking.{has_place, is_ready_state, is_ready_in, stands_in, stands_by, stands_on}
use Rattle.brd_blocks.specs.Stepping.{StandsWell, AllStandWell}
use Rattle.brd_blocks.proofs.OwnLemmas.{and-left, and-right}
use Rattle.brd_blocks.proofs.StepLemmas.{place-of}

-- A task that is ready neither waits nor is dormant.

abbrev IsUp : Option Task → Type 0
IsUp task = (not (is_waiting_task task) ≡ true) × (is_live task ≡ true)

status-up : (status : Status) → is_ready_state (state_of status) ≡ true → (not (is_waiting status) ≡ true) × (not (is_dormant status) ≡ true)
status-up Ready is = (refl, refl)
status-up Dormant is = absurd (false≢true is)
status-up (Waiting reason) is = absurd (false≢true is)
status-up Suspended is = absurd (false≢true is)
status-up (WaitingSuspended reason) is = absurd (false≢true is)

task-up : (context : State) (due : Option ℕ) (task : Option Task) →
    is_ready_in (option_map (shown_until due) (option_map (shown context) task)) ≡ true → IsUp task
task-up context due None is = absurd (false≢true is)
task-up context due (Some task) is = status-up task.status is

ready-up : (b : BoardState) (id : ℕ) → is_ready_in (task_of b id) ≡ true → IsUp (task_at b.kernel.tasks id)
ready-up b id is = task-up (context_at b.kernel.tasks id) (due_of b.kernel.time id) (task_at b.kernel.tasks id) is

-- What a processor does and who executes there.

abbrev Stands : Standing → Executor → Type 0
Stands (standing.Task id) who = who ≡ executor.Task id
Stands (standing.Handler line) who = who ≡ executor.Handler
Stands standing.Idle who = ⊥
Stands standing.Stopped who = ⊥

marks-stand : (running handling : Option ℕ) (who : Executor) → executor_by running handling ≡ Some who → Stands (standing_by running handling) who
marks-stand running (Some line) who is = cc
marks-stand (Some id) None who is = cc
marks-stand None None who is = let wrong : ⊥ = cc in wrong

stopped-stand : (stopped : Bool) (running handling : Option ℕ) (who : Executor) →
    (if stopped then None else executor_by running handling) ≡ Some who →
    Stands (if stopped then standing.Stopped else standing_by running handling) who
stopped-stand true running handling who is = let wrong : ⊥ = cc in wrong
stopped-stand false running handling who is = marks-stand running handling who is

-- who handles an interrupt
marks-handling : (running handling : Option ℕ) → executor_by running handling ≡ Some executor.Handler → is_some handling ≡ true
marks-handling running (Some line) is = refl
marks-handling (Some id) None is = let wrong : ⊥ = cc in absurd wrong
marks-handling None None is = let wrong : ⊥ = cc in absurd wrong

stopped-handling : (stopped : Bool) (running handling : Option ℕ) →
    (if stopped then None else executor_by running handling) ≡ Some executor.Handler → is_some handling ≡ true
stopped-handling true running handling is = let wrong : ⊥ = cc in absurd wrong
stopped-handling false running handling is = marks-handling running handling is

handling : (found : Option Processor) → executor_in found ≡ Some executor.Handler → is_handling found ≡ true
handling None is = let wrong : ⊥ = cc in absurd wrong
handling (Some p) is = stopped-handling p.stopped p.running p.handling is

-- All of it.

same-task : (id other : ℕ) → executor.Task id ≡ executor.Task other → id ≡ other
same-task id other is = cc

in-well : (b : BoardState) (cpu : ℕ) (doing : Standing) (who : Executor) → executor_on b.kernel cpu ≡ Some who → Stands doing who →
    stands_in b doing (context_of b.kernel cpu who) ≡ true → StandsWell b cpu who
in-well b cpu (standing.Task id) who executes is well =
    let up = ready-up b id (and-right (has_place (context_of b.kernel cpu who)) (is_ready_in (task_of b id)) well) in
    let place = place-of b.kernel cpu who (and-left (has_place (context_of b.kernel cpu who)) (is_ready_in (task_of b id)) well) in
    record {
      place = place;
      steady = subst (λ x. is_steady b.kernel (agent_by cpu x) ≡ true) (sym is) up.0;
      live = λ other same. subst (λ n. is_live_at b n ≡ true) (same-task id other (sym is ∙ same)) up.1;
    }
in-well b cpu (standing.Handler line) who executes is well = record {
  place = place-of b.kernel cpu who well;
  steady = subst (λ x. is_steady b.kernel (agent_by cpu x) ≡ true) (sym is)
      (handling (processor_at b.kernel cpu) (executes ∙ ap Some is));
  live = λ other same. let wrong : executor.Handler ≡ executor.Task other = sym is ∙ same in let false : ⊥ = cc in absurd false;
}
in-well b cpu standing.Idle who executes is well = absurd is
in-well b cpu standing.Stopped who executes is well = absurd is

found-well : (b : BoardState) (cpu : ℕ) (found : Option Processor) (who : Executor) → executor_on b.kernel cpu ≡ Some who →
    executor_in found ≡ Some who →
    stands_by b (option_map standing_in found) (option_map (context_of b.kernel cpu) (executor_in found)) ≡ true → StandsWell b cpu who
found-well b cpu None who executes is well = let wrong : ⊥ = cc in absurd wrong
found-well b cpu (Some p) who executes is well =
    in-well b cpu (standing_in p) who executes (stopped-stand p.stopped p.running p.handling who is)
    (subst (λ (by : Option Executor). stands_by b (Some (standing_in p)) (option_map (context_of b.kernel cpu) by) ≡ true) is well)

pub all-well : (b : BoardState) (cpu : ℕ) → stands_on b cpu ≡ true → AllStandWell b cpu
all-well b cpu well who executes = found-well b cpu (processor_at b.kernel cpu) who executes executes well
