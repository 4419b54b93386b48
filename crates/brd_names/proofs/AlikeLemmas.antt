-- Of an event that does no more than execute an instruction, raise a line, or nothing, all is known of the board that
-- was known before.
use Rattle.std.proofs.Common.{◌≡◌, ℕ, List, [], ◌∷◌, map, refl, sym, ap, ◌∙◌}
use Rattle.std.proofs.lemmas.Bool.{false≢true}
use Rattle.std.specs.Prelude.{Bool, true, false, if◌then◌else◌, nat_lt, Option, None, Some, is_some}
use Rattle.std.specs.Option.{option_map}
use Rattle.std.specs.List.{range_with_len}
use Rattle.brd_time.specs.Time.{due_of, last_count}
use Rattle.brd_exec.specs.State.{State}
use Rattle.brd_exec.specs.Step.{Ran, ran}
use Rattle.brd_exec.specs.declared.outcome.Outcome.{Outcome}
use Rattle.brd_exec.specs.declared.outcome.Outcome.TheVariants.{Done, Syscall, Exception}
use Rattle.brd_tasks.specs.declared.task.Task.{Task}
use Rattle.brd_tasks.specs.declared.task.TaskView.{TaskView}
use Rattle.brd_tasks.specs.Tasks.{task_at, shown}
use Rattle.brd_kernel.specs.declared.processor.Processor.{Processor}
use Rattle.brd_kernel.specs.declared.processor.Standing.{Standing}
use Rattle.brd_kernel.specs.declared.processor.Executor.{Executor}
use Rattle.brd_kernel.specs.declared.processor.Executor.TheVariants as executor
use Rattle.brd_kernel.specs.Kernel.{processor_at, executor_on, context_of, deliverable, can_be_raised}
use Rattle.brd_kernel.specs.Waits.{shown_until}
use Rattle.brd_board.specs.Executing.{executed_by, executed_in}
use Rattle.brd_board.specs.declared.event.Event.{Event}
use Rattle.brd_board.specs.declared.event.Event.TheVariants.{Step, Tick, Raise}
use Rattle.brd_board.specs.Board.{BoardState, Happened, task_of, standing_of, with_executed, happens, happens_on}
use Rattle.brd_board.specs.Board.{stepped_in, accepts_or_executes, executes_in, instruction_done}
use Rattle.brd_board.specs.Runs.{without_context}
use Rattle.brd_names.specs.Standings.{tasks_of, standings_of, may_change}
use Rattle.brd_names.proofs.ThereLemmas.{same-tasks}

-- tasks stand as they did, whatever their contexts, processors do what they did, and the board is on or off as it was
pub record Alike (b new : BoardState) : Type 0 where
  pub tasks : (id : ℕ) → option_map without_context (task_of new id) ≡ option_map without_context (task_of b id)
  pub standings : (cpu : ℕ) → standing_of new cpu ≡ standing_of b cpu
  pub off : new.kernel.off ≡ b.kernel.off

pub alike-same : (b : BoardState) → Alike b b
alike-same b = record { tasks = λ id. refl; standings = λ cpu. refl; off = refl }

pub alike-then : (b mid new : BoardState) → Alike b mid → Alike mid new → Alike b new
alike-then b mid new one more = record {
  tasks = λ id. more.tasks id ∙ one.tasks id;
  standings = λ cpu. more.standings cpu ∙ one.standings cpu;
  off = more.off ∙ one.off;
}

-- ---- one event

shown-without : (due : Option ℕ) (one other : State) (row : Option Task) →
    option_map without_context (option_map (shown_until due) (option_map (shown one) row))
    ≡ option_map without_context (option_map (shown_until due) (option_map (shown other) row))
shown-without due one other None = refl
shown-without due one other (Some task) = refl

context-alike : (b : BoardState) (cpu : ℕ) (who : Executor) (address : ℕ) (left : Ran) →
    Alike b (with_executed b (executed_by b.kernel cpu who address left))
context-alike b cpu executor.Handler address left = record { tasks = λ id. refl; standings = λ other. refl; off = refl }
context-alike b cpu (executor.Task at) address left = record {
  tasks = λ id. shown-without (due_of b.kernel.time id) _ _ (task_at b.kernel.tasks id);
  standings = λ other. refl;
  off = refl;
}

-- what is meant, of what happens in an event
abbrev Leaves : BoardState → Happened → Type 0
Leaves b h = may_change h.report ≡ false → Alike b h.board

either : (test : Bool) (b : BoardState) (one other : Happened) → Leaves b one → Leaves b other →
    Leaves b (if test then one else other)
either true b one other first second = first
either false b one other first second = second

done-leaves : (b c : BoardState) (cpu address : ℕ) (outcome : Outcome) → Alike b c → Leaves b (instruction_done c cpu address outcome)
done-leaves b c cpu address Done alike told = alike
done-leaves b c cpu address Syscall alike told = absurd (false≢true (sym told))
done-leaves b c cpu address (Exception code epc bd) alike told = absurd (false≢true (sym told))

executes-leaves : (b : BoardState) (cpu : ℕ) (who : Option Executor) →
    Leaves b (executes_in b cpu (executed_in b.kernel cpu b.memory b.links who))
executes-leaves b cpu None told = alike-same b
executes-leaves b cpu (Some who) told =
    let left = ran cpu (context_of b.kernel cpu who) b.memory b.links in
    let address = (context_of b.kernel cpu who).pc in
    done-leaves b (with_executed b (executed_by b.kernel cpu who address left)) cpu address left.outcome
    (context-alike b cpu who address left) told

accepts-leaves : (b : BoardState) (cpu : ℕ) (line : Option ℕ) → Leaves b (accepts_or_executes b cpu line)
accepts-leaves b cpu None told = executes-leaves b cpu (executor_on b.kernel cpu) told
accepts-leaves b cpu (Some line) told = absurd (false≢true (sym told))

step-leaves : (b : BoardState) (cpu : ℕ) (found : Option Processor) → Leaves b (stepped_in b cpu found)
step-leaves b cpu None told = alike-same b
step-leaves b cpu (Some p) told =
    either p.stopped b _ _ (λ told. alike-same b) (accepts-leaves b cpu (deliverable b.kernel cpu)) told

on-leaves : (b : BoardState) (event : Event) → Leaves b (happens_on b event)
on-leaves b (Step cpu) told = step-leaves b cpu (processor_at b.kernel cpu) told
on-leaves b Tick told =
    either (nat_lt b.kernel.time.count last_count) b _ _ (λ told. absurd (false≢true (sym told))) (λ told. alike-same b) told
on-leaves b (Raise line) told =
    either (can_be_raised b.kernel line) b _ _
    (λ told. record { tasks = λ id. refl; standings = λ cpu. refl; off = refl }) (λ told. alike-same b) told

-- An ordinary instruction, and an event that did nothing, change no task, no standing, and not whether the board is off.
pub unchanged : (b : BoardState) (event : Event) → may_change (happens b event).report ≡ false → Alike b (happens b event).board
unfolding happens
unchanged b event told = either b.kernel.off b _ _ (λ told. alike-same b) (on-leaves b event) told

-- ---- what is known

same-map : (f g : ℕ → Option Standing) (xs : List ℕ) → ((x : ℕ) → f x ≡ g x) → map f xs ≡ map g xs
same-map f g [] same = refl
same-map f g (x ∷ xs) same = ap (λ y. y ∷ map f xs) (same x) ∙ ap (λ ys. g x ∷ ys) (same-map f g xs same)

without-there : (one other : Option TaskView) → option_map without_context one ≡ option_map without_context other → is_some one ≡ is_some other
without-there None None same = refl
without-there None (Some view) same = ap is_some same
without-there (Some view) None same = ap is_some same
without-there (Some view) (Some other) same = refl

pub alike-tasks : (b new : BoardState) → Alike b new → tasks_of new ≡ tasks_of b
alike-tasks b new alike = same-tasks b new (λ id. without-there (task_of new id) (task_of b id) (alike.tasks id))

pub alike-standings : (b new : BoardState) → Alike b new → standings_of new ≡ standings_of b
alike-standings b new alike =
    ap (λ those. None ∷ those) (same-map (standing_of new) (standing_of b) (range_with_len 1 8) alike.standings)
