-- Service calls and ticks release tasks, and with the profile exceptions; nothing else does.
use Rattle.std.proofs.Common.{◌≡◌, ℕ, refl, sym, ap, ◌∙◌, arith}
use Rattle.std.specs.Prelude.{Bool, true, false, not, ◌&&◌, ◌==◌, if◌then◌else◌, nat_lt, is_some, List, [], ◌∷◌, slice_index_or, slice_set, Option, None, Some}
use Rattle.std.specs.Option.{option_map}
use Rattle.std.specs.List.{cons_option, filter_map, range_with_len}
use Rattle.std.proofs.lemmas.Bool.{false≢true}
use Rattle.std.proofs.lemmas.Bool.Decides.{nat_tests}
use Rattle.std.proofs.lemmas.List.{get_or-set_other}
use Rattle.brd_exec.specs.State.{State}
use Rattle.brd_exec.specs.Step.{ran}
use Rattle.brd_exec.specs.declared.outcome.Outcome.{Outcome}
use Rattle.brd_exec.specs.declared.outcome.Outcome.TheVariants.{Done, Syscall, Exception}
use Rattle.brd_tasks.specs.declared.status.Status.{Status}
use Rattle.brd_tasks.specs.declared.status.Status.TheVariants as status
use Rattle.brd_tasks.specs.declared.task.Task.{Task}
use Rattle.brd_tasks.specs.declared.task.Request.{Request}
use Rattle.brd_tasks.specs.declared.task.TaskView.{TaskView}
use Rattle.brd_tasks.specs.Status.{waiting_of, is_ready}
use Rattle.brd_tasks.specs.Tasks.{TaskTable, task_at, context_at, shown, where_there, noted, patched, without_activation, ended_by, ended}
use Rattle.brd_time.specs.Time.{last_count, due_of}
use Rattle.brd_kernel.specs.declared.processor.Processor.{Processor}
use Rattle.brd_kernel.specs.declared.processor.Executor.{Executor}
use Rattle.brd_kernel.specs.declared.processor.Executor.TheVariants as executor
use Rattle.brd_kernel.specs.Kernel.{KernelState, with_tasks, processor_at, running_in, running_on, executor_on, context_of, with_context_of, handles, deliverable, can_be_raised}
use Rattle.brd_kernel.specs.Waits.{shown_until, seen_at, ended_in, given_below, all_given_in, priorities_of, prioritized_below, prioritized}
use Rattle.brd_kernel.specs.Waits.{faulted_task, faulted_in, ended_by_fault}
use Rattle.brd_kernel.proofs.SameLemmas.{same-prioritized, same-context}
use Rattle.brd_kernel.proofs.ProfileLemmas.{fault-alike}
use Rattle.brd_kernel.specs.Running.{is_ready_on, IsRunning}
use Rattle.brd_board.specs.Executing.{executed_by, executed_in}
use Rattle.brd_board.specs.declared.event.Event.{Event}
use Rattle.brd_board.specs.declared.event.Event.TheVariants.{Step, Tick, Raise}
use Rattle.brd_board.specs.Board.{BoardState, Happened, with_executed, happens, happens_on, stepped_in, accepts_or_executes, executes_in, instruction_done, task_of}
use Rattle.brd_happening.specs.declared.release.{Waiter.Waiter, Release.Release}
use Rattle.brd_happening.specs.Release.{waiter_by, waiter_seen, release_by, waiter_in, waiters_of, has_ended, release_seen, release_in}
use Rattle.brd_happening.specs.Happening.{releases, happening_of}
use Rattle.brd_happening.proofs.CallLemmas.{all-released}

-- A task that goes on waiting isn't released.

abbrev waits : Option TaskView → Bool
waits None = false
waits (Some view) = is_some view.waiting

not-released : (waiting dormant same : Bool) (release : Release) → waiting ≡ true →
    (if not waiting && not dormant && same then Some release else None) ≡ None
not-released true dormant same release is = refl
not-released false dormant same release is = absurd (false≢true is)

still-waits : (waiter : Waiter) (view : Option TaskView) → waits view ≡ true → release_seen waiter view ≡ None
still-waits waiter None is = refl
still-waits waiter (Some view) is =
    not-released (is_some view.waiting) (has_ended view.state) (view.activations == waiter.activations) (release_by waiter view) is

passes-by : (waiting : Bool) (id : ℕ) (view : TaskView) (after : BoardState) (rest : List Waiter) → (waiting ≡ true → waits (task_of after id) ≡ true) →
    filter_map (release_in after) (cons_option (if waiting then Some (waiter_by id view) else None) rest) ≡ filter_map (release_in after) rest
passes-by true id view after rest goes_on =
    ap (λ (o : Option Release). cons_option o (filter_map (release_in after) rest)) (still-waits (waiter_by id view) (task_of after id) (goes_on refl))
passes-by false id view after rest goes_on = refl

passes : (id : ℕ) (view : Option TaskView) (after : BoardState) (rest : List Waiter) → (waits view ≡ true → waits (task_of after id) ≡ true) →
    filter_map (release_in after) (cons_option (waiter_seen id view) rest) ≡ filter_map (release_in after) rest
passes id None after rest goes_on = refl
passes id (Some view) after rest goes_on = passes-by (is_some view.waiting) id view after rest goes_on

none-of : (b after : BoardState) (ids : List ℕ) → ((id : ℕ) → waits (task_of b id) ≡ true → waits (task_of after id) ≡ true) →
    filter_map (release_in after) (filter_map (waiter_in b) ids) ≡ []
none-of b after [] goes_on = refl
none-of b after (id ∷ ids) goes_on =
    passes id (task_of b id) after (filter_map (waiter_in b) ids) (goes_on id) ∙ none-of b after ids goes_on

-- Who waits, by the rows of tasks.

abbrev row-waits : Option Task → Bool
row-waits None = false
row-waits (Some task) = is_some (waiting_of task.status)

seen-row : (due : Option ℕ) (context : State) (row : Option Task) →
    waits (option_map (shown_until due) (option_map (shown context) row)) ≡ row-waits row
seen-row due context None = refl
seen-row due context (Some task) = refl

-- who waits goes on waiting
abbrev Stay : KernelState → KernelState → Type 0
Stay k new = (id : ℕ) → row-waits (task_at k.tasks id) ≡ true → row-waits (task_at new.tasks id) ≡ true

stays-seen : (k new : KernelState) → Stay k new → (id : ℕ) → waits (seen_at k id) ≡ true → waits (seen_at new id) ≡ true
stays-seen k new stay id is =
    seen-row (due_of new.time id) (context_at new.tasks id) (task_at new.tasks id)
    ∙ stay id (sym (seen-row (due_of k.time id) (context_at k.tasks id) (task_at k.tasks id)) ∙ is)

-- the running task of each processor doesn't wait
abbrev RunsOn : KernelState → Type 0
RunsOn k = (cpu id : ℕ) → running_on k cpu ≡ Some id → row-waits (task_at k.tasks id) ≡ false

ready-row : (s : Status) (here : Bool) → (is_ready s && here) ≡ true → is_some (waiting_of s) ≡ false
ready-row status.Dormant here is = absurd (false≢true is)
ready-row status.Ready here is = refl
ready-row (status.Waiting reason) here is = absurd (false≢true is)
ready-row status.Suspended here is = refl
ready-row (status.WaitingSuspended reason) here is = absurd (false≢true is)

ready-waits : (row : Option Task) (cpu : ℕ) → is_ready_on row cpu ≡ true → row-waits row ≡ false
ready-waits None cpu is = absurd (false≢true is)
ready-waits (Some task) cpu is = ready-row task.status (task.cpu == cpu) is

runs-on : (k : KernelState) → IsRunning k → RunsOn k
runs-on k was cpu id is = ready-waits (task_at k.tasks id) cpu (was.ready cpu id is)

context-stays : (k : KernelState) (cpu : ℕ) (who : Executor) (s : State) → Stay k (with_context_of k cpu who s)
context-stays k cpu executor.Handler s = λ id is. is
context-stays k cpu (executor.Task at) s = λ id is. is

context-runs : (k : KernelState) (cpu : ℕ) (who : Executor) (s : State) → RunsOn k → RunsOn (with_context_of k cpu who s)
context-runs k cpu executor.Handler s was = was
context-runs k cpu (executor.Task at) s was = was

handles-stays : (k : KernelState) (cpu line : ℕ) (p : Option Processor) → Stay k (handles k cpu line p)
handles-stays k cpu line None = λ id is. is
handles-stays k cpu line (Some p) = λ id is. is

-- An exception ends a task that runs, and so doesn't wait.

set-other : (rows : List (Option Task)) (id at : ℕ) (row : Option Task) → (id == at) ≡ false →
    slice_index_or (slice_set rows id row) at None ≡ slice_index_or rows at None
set-other rows id at row test = grind (arith, nat_tests, test, get_or-set_other rows id at row None)

noted-other : (t : TaskTable) (id at : ℕ) (row : Option Task) → (id == at) ≡ false →
    task_at (where_there t row (λ task. patched t id (without_activation task))) at ≡ task_at t at
noted-other t id at None test = refl
noted-other t id at (Some task) test = set-other t.rows id at (Some (without_activation task)) test

ended-by-other : (t : TaskTable) (id at : ℕ) (task : Task) (request : Option Request) → (id == at) ≡ false →
    task_at (ended_by t id task request) at ≡ task_at t at
ended-by-other t id at task None test = set-other t.rows id at _ test
ended-by-other t id at task (Some request) test = set-other t.rows id at _ test

ended-other : (t : TaskTable) (id at : ℕ) (row : Option Task) → (id == at) ≡ false →
    task_at (where_there t row (λ task. ended_by t id task task.activation)) at ≡ task_at t at
ended-other t id at None test = refl
ended-other t id at (Some task) test = ended-by-other t id at task task.activation test

equal : (m n : ℕ) → (m == n) ≡ true → m ≡ n
equal m n is = grind (arith, nat_tests, is)

other-stays : (same : Bool) (t : TaskTable) (id at : ℕ) → (id == at) ≡ same → row-waits (task_at t id) ≡ false → row-waits (task_at t at) ≡ true →
    row-waits (task_at (ended (noted without_activation t id) id) at) ≡ true
other-stays true t id at test none is = absurd (false≢true (sym none ∙ ap (λ n. row-waits (task_at t n)) (equal id at test) ∙ is))
other-stays false t id at test none is =
    ap row-waits (ended-other (noted without_activation t id) id at (task_at (noted without_activation t id) id) test
    ∙ noted-other t id at (task_at t id) test) ∙ is

-- Without the profile nothing is given back, and no priority is given.

plain : (test : Bool) (one other : KernelState) → test ≡ false → (if test then one else other) ≡ other
plain true one other is = absurd (false≢true (sym is))
plain false one other is = refl

plain-given : (k : KernelState) (id : ℕ) → k.standard ≡ false → all_given_in k id ≡ k
plain-given k id is = plain k.standard (given_below k id 256) k is

plain-prioritized : (k : KernelState) → k.standard ≡ false → prioritized k ≡ k
plain-prioritized k is = plain k.standard (prioritized_below k (priorities_of k) 256) k is

fault-task : (k : KernelState) (cpu : ℕ) (p : Processor) (running : Option ℕ) → k.standard ≡ false →
    ((id : ℕ) → running ≡ Some id → row-waits (task_at k.tasks id) ≡ false) → Stay k (faulted_task k cpu p running)
fault-task k cpu p None is none = λ id waited. waited
fault-task k cpu p (Some id) is none = λ at waited.
    let noted-so : KernelState = with_tasks k (noted without_activation k.tasks id) in
    ap (λ (left : KernelState). row-waits (task_at (ended_in left id).tasks at)) (plain-given noted-so id is)
    ∙ other-stays (id == at) k.tasks id at refl (none id refl) waited

either-stays : (test : Bool) (k one other : KernelState) → Stay k one → Stay k other → Stay k (if test then one else other)
either-stays true k one other first second = first
either-stays false k one other first second = second

faulted-stays : (k : KernelState) (cpu : ℕ) (p : Option Processor) → k.standard ≡ false → processor_at k cpu ≡ p → RunsOn k →
    Stay k (faulted_in k cpu p)
faulted-stays k cpu None plain is was = λ id waited. waited
faulted-stays k cpu (Some p) plain is was =
    either-stays (is_some p.handling) k _ (faulted_task k cpu p p.running) (λ id waited. waited)
    (fault-task k cpu p p.running plain (λ id runs. was cpu id (ap running_in is ∙ runs)))

fault-stays : (k : KernelState) (cpu : ℕ) → k.standard ≡ false → RunsOn k → Stay k (ended_by_fault k cpu)
fault-stays k cpu plain was = λ id waited.
    let left : KernelState = faulted_in k cpu (processor_at k cpu) in
    ap (λ (new : KernelState). row-waits (task_at new.tasks id))
    (plain-prioritized left (sym (same-prioritized left).standard ∙ fault-alike k cpu ∙ plain))
    ∙ faulted-stays k cpu (processor_at k cpu) plain refl was id waited

-- Events.

abbrev Goes : BoardState → Happened → Type 0
Goes b h = releases b.kernel.standard h.report ≡ false → Stay b.kernel h.board.kernel

either : (test : Bool) (b : BoardState) (one other : Happened) → Goes b one → Goes b other → Goes b (if test then one else other)
either true b one other first second = first
either false b one other first second = second

goes-done : (b c : BoardState) (cpu address : ℕ) (outcome : Outcome) → c.kernel.standard ≡ b.kernel.standard → RunsOn c.kernel →
    Stay b.kernel c.kernel → Goes b (instruction_done c cpu address outcome)
goes-done b c cpu address Done same runs stay = λ told. stay
goes-done b c cpu address Syscall same runs stay = λ told. absurd (false≢true (sym told))
goes-done b c cpu address (Exception code epc bd) same runs stay =
    λ told id is. fault-stays c.kernel cpu (same ∙ told) runs id (stay id is)

goes-executes : (b : BoardState) (cpu : ℕ) (who : Option Executor) → RunsOn b.kernel →
    Goes b (executes_in b cpu (executed_in b.kernel cpu b.memory b.links who))
goes-executes b cpu None runs = λ told id is. is
goes-executes b cpu (Some who) runs =
    let left = ran cpu (context_of b.kernel cpu who) b.memory b.links in
    let address = (context_of b.kernel cpu who).pc in
    goes-done b (with_executed b (executed_by b.kernel cpu who address left)) cpu address left.outcome
    (same-context b.kernel cpu who left.state).standard (context-runs b.kernel cpu who left.state runs) (context-stays b.kernel cpu who left.state)

goes-accepts : (b : BoardState) (cpu : ℕ) (line : Option ℕ) → RunsOn b.kernel → Goes b (accepts_or_executes b cpu line)
goes-accepts b cpu None runs = goes-executes b cpu (executor_on b.kernel cpu) runs
goes-accepts b cpu (Some line) runs = λ told. handles-stays b.kernel cpu line (processor_at b.kernel cpu)

goes-step : (b : BoardState) (cpu : ℕ) (found : Option Processor) → RunsOn b.kernel → Goes b (stepped_in b cpu found)
goes-step b cpu None runs = λ told id is. is
goes-step b cpu (Some p) runs = either p.stopped b _ _ (λ told id is. is) (goes-accepts b cpu (deliverable b.kernel cpu) runs)

goes-on : (b : BoardState) (event : Event) → RunsOn b.kernel → Goes b (happens_on b event)
goes-on b (Step cpu) runs = goes-step b cpu (processor_at b.kernel cpu) runs
goes-on b Tick runs =
    either (nat_lt b.kernel.time.count last_count) b _ _ (λ told. absurd (false≢true (sym told))) (λ told id is. is)
goes-on b (Raise line) runs = either (can_be_raised b.kernel line) b _ _ (λ told id is. is) (λ told id is. is)

event-goes : (b : BoardState) (event : Event) → RunsOn b.kernel → Goes b (happens b event)
unfolding happens
event-goes b event runs = either b.kernel.off b _ _ (λ told id is. is) (goes-on b event runs)

released-by : (released : Bool) (b after : BoardState) → (released ≡ false → filter_map (release_in after) (waiters_of b) ≡ []) →
    (if released then filter_map (release_in after) (waiters_of b) else []) ≡ filter_map (release_in after) (waiters_of b)
released-by true b after none = refl
released-by false b after none = sym (none refl)

pub alone-released : (b : BoardState) (event : Event) → IsRunning b.kernel →
    (happening_of b event).released ≡ filter_map (release_in (happens b event).board) (waiters_of b)
alone-released b event was =
    let after = (happens b event).board in
    all-released b event
    ∙ released-by (releases b.kernel.standard (happens b event).report) b after
    (λ told. none-of b after (range_with_len 1 255) (stays-seen b.kernel after.kernel (event-goes b event (runs-on b.kernel was) told)))
