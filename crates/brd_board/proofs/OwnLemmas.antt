-- An ordinary instruction changes only its own context.
use Rattle.std.proofs.Common.{◌≡◌, ℕ, List, refl, sym, ap, subst, ◌∙◌, arith}
use Rattle.std.proofs.lemmas.Bool.{false≢true}
use Rattle.std.proofs.lemmas.Bool.Decides.{nat_tests}
use Rattle.std.proofs.lemmas.List.{get_or-set_other}
use Rattle.std.specs.Prelude.{Bool, true, false, ◌==◌, [], Option, None, Some, unwrap_or, is_some, nat_lt, if◌then◌else◌, slice_index_or, slice_set, Ok}
use Rattle.std.specs.Option.{option_map}
use Rattle.brd_exec.specs.State.{State}
use Rattle.brd_exec.specs.Step.{Ran, ran}
use Rattle.brd_exec.specs.declared.outcome.Outcome.{Outcome}
use Rattle.brd_exec.specs.declared.outcome.Outcome.TheVariants.{Done, Syscall, Exception}
use Rattle.brd_mem.specs.declared.image.Image.{Image}
use Rattle.brd_config.specs.Configuration.{Configuration, IsConfiguration}
use Rattle.brd_tasks.specs.declared.task.Task.{Task}
use Rattle.brd_tasks.specs.Tasks.{task_at, context_at, shown, no_context}
use Rattle.brd_time.specs.Time.{due_of, last_count}
use Rattle.brd_kernel.specs.declared.processor.Processor.{Processor}
use Rattle.brd_kernel.specs.declared.processor.Executor.{Executor}
use Rattle.brd_kernel.specs.declared.processor.Executor.TheVariants as executor
use Rattle.brd_kernel.specs.declared.processor.Standing.TheVariants as standing
use Rattle.brd_kernel.specs.Kernel.{KernelState, processor_at, running_in, executor_by, executor_in, executor_on, handler_context_at, context_of, context_on, with_context_of, standing_by, standing_in, deliverable, can_be_raised}
use Rattle.brd_board.specs.Executing.{Executed, executed_by, executed_in, executed}
use Rattle.brd_kernel.specs.Waits.{shown_until, seen_at}
use Rattle.brd_kernel.specs.Running.{IsRunning}
use Rattle.brd_kernel.proofs.who_runs.RunningLemmas.{runs-once}
use Rattle.brd_board.specs.declared.event.Event.{Event}
use Rattle.brd_board.specs.declared.event.Event.TheVariants.{Step, Tick, Raise}
use Rattle.brd_board.specs.declared.event.Report.TheVariants as report
use Rattle.brd_board.specs.Board.{BoardState, Happened, with_executed, happens, happens_on, after, stepped_in, accepts_or_executes, executes_in, instruction_done}
use Rattle.brd_board.specs.Boot.{boot}
use Rattle.brd_board.specs.Runs.{without_context, ChangesOnlyItsOwn}
use Rattle.brd_board.proofs.RunningLemmas.{boot-runs}

-- Who executes on a processor.

task-by : (stopped : Bool) (running handling : Option ℕ) (id : ℕ) →
    (if stopped then None else executor_by running handling) ≡ Some (executor.Task id) →
    (running ≡ Some id) × ((if stopped then standing.Stopped else standing_by running handling) ≡ standing.Task id)
task-by true running handling id is = let wrong : ⊥ = cc in absurd wrong
task-by false running (Some line) id is = let wrong : ⊥ = cc in absurd wrong
task-by false None None id is = let wrong : ⊥ = cc in absurd wrong
task-by false (Some other) None id is = let same : other ≡ id = cc in (ap Some same, ap standing.Task same)

task-runs : (found : Option Processor) (id : ℕ) → executor_in found ≡ Some (executor.Task id) →
    (running_in found ≡ Some id) × (option_map standing_in found ≡ Some (standing.Task id))
task-runs None id is = let wrong : ⊥ = cc in absurd wrong
task-runs (Some p) id is =
    let both = task-by p.stopped p.running p.handling id is in
    (both.0, ap Some both.1)

-- Where a context is written, the others stay.

set-other : (xs : List State) (i at : ℕ) (x d : State) → (i == at) ≡ false → slice_index_or (slice_set xs i x) at d ≡ slice_index_or xs at d
set-other xs i at x d test = grind (arith, nat_tests, test, get_or-set_other xs i at x d)

other-task : (same : Bool) (k : KernelState) (id at : ℕ) (s : State) → (id == at) ≡ same → (same ≡ true → ⊥) →
    context_at (with_context_of k 0 (executor.Task id) s).tasks at ≡ context_at k.tasks at
other-task true k id at s test never = absurd (never refl)
other-task false k id at s test never = set-other k.tasks.contexts id at s no_context test

equal : (m n : ℕ) → (m == n) ≡ true → m ≡ n
equal m n is = grind (arith, nat_tests, is)

seen-other : (k : KernelState) (cpu : ℕ) (who : Executor) (s : State) (id : ℕ) → ((other : ℕ) → who ≡ executor.Task other → other ≡ id → ⊥) →
    seen_at (with_context_of k cpu who s) id ≡ seen_at k id
seen-other k cpu executor.Handler s id never = refl
seen-other k cpu (executor.Task other) s id never =
    ap (λ c. option_map (shown_until (due_of k.time id)) (option_map (shown c) (task_at k.tasks id)))
    (other-task (other == id) k other id s refl (λ is. never other refl (equal other id is)))

shown-without : (due : Option ℕ) (one other : State) (row : Option Task) →
    option_map without_context (option_map (shown_until due) (option_map (shown one) row))
    ≡ option_map without_context (option_map (shown_until due) (option_map (shown other) row))
shown-without due one other None = refl
shown-without due one other (Some task) = refl

seen-without : (k : KernelState) (cpu : ℕ) (who : Executor) (s : State) (id : ℕ) →
    option_map without_context (seen_at (with_context_of k cpu who s) id) ≡ option_map without_context (seen_at k id)
seen-without k cpu executor.Handler s id = refl
seen-without k cpu (executor.Task other) s id = shown-without (due_of k.time id) _ _ (task_at k.tasks id)

-- Another processor executes in another context.

apart-by : (same : Bool) (cpu other : ℕ) → (cpu == other) ≡ same → (other ≡ cpu → ⊥) → (cpu == other) ≡ false
apart-by true cpu other test never = absurd (never (sym (equal cpu other test)))
apart-by false cpu other test never = test

context-other : (k : KernelState) (cpu other : ℕ) (who by : Executor) (s : State) → IsRunning k → executor_on k cpu ≡ Some who →
    executor_on k other ≡ Some by → (other ≡ cpu → ⊥) → context_of (with_context_of k cpu who s) other by ≡ context_of k other by
context-other k cpu other executor.Handler executor.Handler s was one two never =
    set-other k.handler_contexts cpu other s no_context (apart-by (cpu == other) cpu other refl never)
context-other k cpu other executor.Handler (executor.Task id) s was one two never = refl
context-other k cpu other (executor.Task id) executor.Handler s was one two never = refl
context-other k cpu other (executor.Task id) (executor.Task at) s was one two never =
    other-task (id == at) k id at s refl
    (λ is. never ((runs-once k cpu id was (task-runs (processor_at k cpu) id one).0).alone other
    ((task-runs (processor_at k other) at two).0 ∙ ap Some (sym (equal id at is)))))

context-stays : (k : KernelState) (cpu other : ℕ) (who : Executor) (s : State) (by : Option Executor) → IsRunning k →
    executor_on k cpu ≡ Some who → executor_on k other ≡ by → (other ≡ cpu → ⊥) →
    option_map (context_of (with_context_of k cpu who s) other) by ≡ option_map (context_of k other) by
context-stays k cpu other who s None was one two never = refl
context-stays k cpu other who s (Some by) was one two never = ap Some (context-other k cpu other who by s was one two never)

processors-stay : (k : KernelState) (cpu other : ℕ) (who : Executor) (s : State) →
    processor_at (with_context_of k cpu who s) other ≡ processor_at k other
processors-stay k cpu other executor.Handler s = refl
processors-stay k cpu other (executor.Task id) s = refl

handlers-stay : (k : KernelState) (cpu other : ℕ) (who : Executor) (s : State) → (other ≡ cpu → ⊥) →
    handler_context_at (with_context_of k cpu who s) other ≡ handler_context_at k other
handlers-stay k cpu other executor.Handler s never =
    set-other k.handler_contexts cpu other s no_context (apart-by (cpu == other) cpu other refl never)
handlers-stay k cpu other (executor.Task id) s never = refl

registers-stay : (k : KernelState) (cpu other : ℕ) (who : Executor) (s : State) → IsRunning k → executor_on k cpu ≡ Some who →
    (other ≡ cpu → ⊥) → context_on (with_context_of k cpu who s) other ≡ context_on k other
registers-stay k cpu other who s was one never =
    ap (λ p. option_map (context_of (with_context_of k cpu who s) other) (executor_in p)) (processors-stay k cpu other who s)
    ∙ context-stays k cpu other who s (executor_on k other) was one refl never

-- What is left as it was, whoever executes.
record Stays (k new : KernelState) : Type 0 where
  rows : new.tasks.rows ≡ k.tasks.rows
  ready : new.tasks.ready ≡ k.tasks.ready
  semaphores : new.semaphores ≡ k.semaphores
  flags : new.flags ≡ k.flags
  queues : new.queues ≡ k.queues
  mutexes : new.mutexes ≡ k.mutexes
  pools : new.pools ≡ k.pools
  mailboxes : new.mailboxes ≡ k.mailboxes
  spin_locks : new.spin_locks ≡ k.spin_locks
  lines : new.lines ≡ k.lines
  time : new.time ≡ k.time
  timers : new.timers ≡ k.timers
  clock : new.clock ≡ k.clock
  standard : new.standard ≡ k.standard
  console : new.console ≡ k.console
  off : new.off ≡ k.off

stays : (k : KernelState) (cpu : ℕ) (who : Executor) (s : State) → Stays k (with_context_of k cpu who s)
stays k cpu executor.Handler s = record {
  rows = refl;
  ready = refl;
  semaphores = refl;
  flags = refl;
  queues = refl;
  mutexes = refl;
  pools = refl;
  mailboxes = refl;
  spin_locks = refl;
  lines = refl;
  time = refl;
  timers = refl;
  clock = refl;
  standard = refl;
  console = refl;
  off = refl;
}
stays k cpu (executor.Task id) s = record {
  rows = refl;
  ready = refl;
  semaphores = refl;
  flags = refl;
  queues = refl;
  mutexes = refl;
  pools = refl;
  mailboxes = refl;
  spin_locks = refl;
  lines = refl;
  time = refl;
  timers = refl;
  clock = refl;
  standard = refl;
  console = refl;
  off = refl;
}

-- an instruction that has ended so
own-instruction : (b : BoardState) (cpu : ℕ) (who : Executor) (left : Ran) → IsRunning b.kernel → executor_on b.kernel cpu ≡ Some who →
    ChangesOnlyItsOwn b (Step cpu) (context_of b.kernel cpu who).pc
    (with_executed b (executed_by b.kernel cpu who (context_of b.kernel cpu who).pc left))
own-instruction b cpu who left was executes =
    let k : KernelState = b.kernel in
    let rest : Stays k (with_context_of k cpu who left.state) = stays k cpu who left.state in
    record {
      cpu = cpu;
      context = context_of k cpu who;
      steps = refl;
      executes = ap (option_map (context_of k cpu)) executes;
      lies = refl;
      tasks = λ id never. seen-other k cpu who left.state id
          (λ other is same. never ((task-runs (processor_at k cpu) id (executes ∙ ap Some (is ∙ ap executor.Task same))).1));
      own = λ id. seen-without k cpu who left.state id;
      rows = rest.rows;
      handlers = λ other never. handlers-stay k cpu other who left.state never;
      registers = λ other never. registers-stay k cpu other who left.state was executes never;
      processors = λ other. processors-stay k cpu other who left.state;
      standings = λ other. ap (option_map standing_in) (processors-stay k cpu other who left.state);
      faults = λ other. refl;
      ready = λ other. ap (λ lists. slice_index_or lists other []) rest.ready;
      semaphores = rest.semaphores;
      flags = rest.flags;
      queues = rest.queues;
      mutexes = rest.mutexes;
      pools = rest.pools;
      mailboxes = rest.mailboxes;
      spin_locks = rest.spin_locks;
      lines = rest.lines;
      time = rest.time;
      timers = rest.timers;
      clock = rest.clock;
      standard = rest.standard;
      console = rest.console;
      off = rest.off;
    }

-- Events.

-- what is meant, of what happens in an event
abbrev Owns : BoardState → Event → Happened → Type 0
Owns b event h = (address : ℕ) → h.report ≡ report.Ran address → ChangesOnlyItsOwn b event address h.board

either : (test : Bool) (b : BoardState) (event : Event) (one other : Happened) → Owns b event one → Owns b event other →
    Owns b event (if test then one else other)
either true b event one other first second = first
either false b event one other first second = second

own-done : (b : BoardState) (cpu : ℕ) (e : Executed) (outcome : Outcome) →
    ChangesOnlyItsOwn b (Step cpu) e.ended.address (with_executed b e) →
    Owns b (Step cpu) (instruction_done (with_executed b e) cpu e.ended.address outcome)
own-done b cpu e Done own address is =
    let same : e.ended.address ≡ address = cc in
    subst (λ at. ChangesOnlyItsOwn b (Step cpu) at (with_executed b e)) same own
own-done b cpu e Syscall own address is = let wrong : ⊥ = cc in absurd wrong
own-done b cpu e (Exception code epc bd) own address is = let wrong : ⊥ = cc in absurd wrong

own-executed : (b : BoardState) (cpu : ℕ) (who : Option Executor) (e : Executed) → IsRunning b.kernel → executor_on b.kernel cpu ≡ who →
    executed_in b.kernel cpu b.memory b.links who ≡ Some e → ChangesOnlyItsOwn b (Step cpu) e.ended.address (with_executed b e)
own-executed b cpu None e was on is = absurd (false≢true (ap is_some is))
own-executed b cpu (Some who) e was on is =
    subst (λ (x : Executed). ChangesOnlyItsOwn b (Step cpu) x.ended.address (with_executed b x)) (ap (λ (o : Option Executed). unwrap_or o e) is)
    (own-instruction b cpu who (ran cpu (context_of b.kernel cpu who) b.memory b.links) was on)

own-executes : (b : BoardState) (cpu : ℕ) (done : Option Executed) → IsRunning b.kernel → executed b.kernel cpu b.memory b.links ≡ done →
    Owns b (Step cpu) (executes_in b cpu done)
own-executes b cpu None was is = λ address told. let wrong : ⊥ = cc in absurd wrong
own-executes b cpu (Some e) was is =
    own-done b cpu e e.ended.outcome (own-executed b cpu (executor_on b.kernel cpu) e was refl is)

own-accepts : (b : BoardState) (cpu : ℕ) (line : Option ℕ) → IsRunning b.kernel → Owns b (Step cpu) (accepts_or_executes b cpu line)
own-accepts b cpu None was = own-executes b cpu (executed b.kernel cpu b.memory b.links) was refl
own-accepts b cpu (Some line) was = λ address told. let wrong : ⊥ = cc in absurd wrong

own-step : (b : BoardState) (cpu : ℕ) (found : Option Processor) → IsRunning b.kernel → Owns b (Step cpu) (stepped_in b cpu found)
own-step b cpu None was = λ address told. let wrong : ⊥ = cc in absurd wrong
own-step b cpu (Some p) was =
    either p.stopped b (Step cpu) _ _ (λ address told. let wrong : ⊥ = cc in absurd wrong) (own-accepts b cpu (deliverable b.kernel cpu) was)

own-on : (b : BoardState) (event : Event) → IsRunning b.kernel → Owns b event (happens_on b event)
own-on b (Step cpu) was = own-step b cpu (processor_at b.kernel cpu) was
own-on b Tick was =
    either (nat_lt b.kernel.time.count last_count) b Tick _ _ (λ address told. let wrong : ⊥ = cc in absurd wrong)
    (λ address told. let wrong : ⊥ = cc in absurd wrong)
own-on b (Raise line) was =
    either (can_be_raised b.kernel line) b (Raise line) _ _ (λ address told. let wrong : ⊥ = cc in absurd wrong)
    (λ address told. let wrong : ⊥ = cc in absurd wrong)

own-event : (b : BoardState) (event : Event) → IsRunning b.kernel → Owns b event (happens b event)
unfolding happens
own-event b event was = either b.kernel.off b event _ _ (λ address told. let wrong : ⊥ = cc in absurd wrong) (own-on b event was)

pub event-owns : (b : BoardState) (event : Event) (address : ℕ) → IsRunning b.kernel → (happens b event).report ≡ report.Ran address →
    ChangesOnlyItsOwn b event address (happens b event).board
event-owns b event address was = own-event b event was address

pub boot-owns : (image : Image) (config : Configuration) (b : BoardState) (events : List Event) (event : Event) (address : ℕ) →
    IsConfiguration config → boot image config ≡ Ok b → (happens (after b events) event).report ≡ report.Ran address →
    ChangesOnlyItsOwn (after b events) event address (happens (after b events) event).board
boot-owns image config b events event address valid is =
    event-owns (after b events) event address (boot-runs image config b events valid is)
