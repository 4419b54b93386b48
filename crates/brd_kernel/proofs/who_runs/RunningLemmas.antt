-- Who runs, where it is ready.
use Rattle.std.proofs.Common.{◌≡◌, ◌≤◌, ℕ, suc, ◌+◌, List, [], ◌∷◌, length, refl, sym, ap, subst, ◌∙◌, arith}
use Rattle.std.specs.Prelude.{Bool, true, false, ◌==◌, ◌&&◌, nat_lt, if◌then◌else◌, Option, None, Some, is_some, slice_index_or}
use Rattle.std.proofs.lemmas.Bool.{false≢true}
use Rattle.std.proofs.lemmas.Bool.Decides.{nat_tests}
use Rattle.std.proofs.lemmas.List.{length-set}
use Rattle.std.proofs.Math.ListN.{get_or-eq_default}
use Rattle.brd_exec.specs.State.{State}
use Rattle.brd_queue.specs.Queue.{Plain, has}
use Rattle.brd_queue.proofs.PriorityLemmas.{has-priority_in}
use Rattle.brd_tasks.specs.declared.task.Task.{Task}
use Rattle.brd_tasks.specs.Status.{is_ready}
use Rattle.brd_tasks.specs.Tasks.{TaskTable, task_at, ready_on, first_id}
use Rattle.brd_tasks.specs.Ready.{IsProcessor, ready_priority, IsConsistent}
use Rattle.brd_kernel.specs.declared.processor.Processor.{Processor}
use Rattle.brd_kernel.specs.declared.processor.Executor.{Executor}
use Rattle.brd_kernel.specs.declared.processor.Executor.TheVariants as executor
use Rattle.brd_kernel.specs.Kernel.{KernelState, processor_at, is_held, running_in, running_on, with_processor, with_context_of, unmarked}
use Rattle.brd_kernel.specs.Dispatch.{dispatched_one, dispatched_from, dispatched}
use Rattle.brd_kernel.specs.Running.{is_ready_on, IsOrderly, IsRunning, RunsOnce}
use Rattle.brd_kernel.proofs.who_waits.ListLemmas.{same-number, written-at}
use Rattle.brd_kernel.proofs.DispatchLemmas.{at-dispatched, dispatch-none}
use Rattle.brd_kernel.proofs.who_runs.ReadyLemmas.{KeepsReady, KeepsOthers, all-keep, context-orderly}

is-some-by : (test : Bool) (priority : ℕ) → is_some (if test then Some priority else None) ≡ test
is-some-by true priority = refl
is-some-by false priority = refl

listed-row : (row : Option Task) (cpu : ℕ) → is_some (ready_priority row cpu) ≡ is_ready_on row cpu
listed-row None cpu = refl
listed-row (Some task) cpu = is-some-by (is_ready task.status && task.cpu == cpu) task.priority

-- a task stands in a ready list exactly where it is ready on that processor
pub listed-ready : (t : TaskTable) (id cpu : ℕ) → IsConsistent t → has id (ready_on t cpu) ≡ is_ready_on (task_at t id) cpu
listed-ready t id cpu was =
    has-priority_in id (ready_on t cpu) ∙ ap is_some (was.listed id cpu) ∙ listed-row (task_at t id) cpu

one-number : (ready : Bool) (at cpu other : ℕ) → (ready && at == cpu) ≡ true → (ready && at == other) ≡ true → other ≡ cpu
one-number true at cpu other first second = sym (same-number at other second) ∙ same-number at cpu first
one-number false at cpu other first second = absurd (false≢true first)

-- a task is ready on one processor
pub one-processor : (row : Option Task) (cpu other : ℕ) → is_ready_on row cpu ≡ true → is_ready_on row other ≡ true → other ≡ cpu
one-processor None cpu other first second = absurd (false≢true first)
one-processor (Some task) cpu other first second = one-number (is_ready task.status) task.cpu cpu other first second

pub runs-once : (k : KernelState) (cpu id : ℕ) → IsRunning k → running_on k cpu ≡ Some id → RunsOnce k cpu id
runs-once k cpu id was runs = record {
  listed = listed-ready k.tasks id cpu was.tasks.consistent ∙ was.ready cpu id runs;
  only = λ other there. one-processor (task_at k.tasks id) cpu other (was.ready cpu id runs)
      (sym (listed-ready k.tasks id other was.tasks.consistent) ∙ there);
  alone = λ other is. one-processor (task_at k.tasks id) cpu other (was.ready cpu id runs) (was.ready other id is);
}

-- Between an event's effects and its dispatch the running task of each held processor is ready there.

abbrev pub held_in : Option Processor → Bool
held_in None = false
held_in (Some p) = is_held p

pub record HoldsReady (k : KernelState) : Type 0 where
  pub processors : length k.processors ≡ 9
  pub nobody : processor_at k 0 ≡ None
  pub tasks : IsOrderly k.tasks
  pub held : (cpu id : ℕ) → held_in (processor_at k cpu) ≡ true → running_on k cpu ≡ Some id → is_ready_on (task_at k.tasks id) cpu ≡ true

pub runs-hold : (k : KernelState) → IsRunning k → HoldsReady k
runs-hold k was = record {
  processors = was.processors;
  nobody = was.nobody;
  tasks = was.tasks;
  held = λ cpu id held. was.ready cpu id;
}

-- The dispatch.

dispatched-length : (t : TaskTable) (cpu : ℕ) (ps : List (Option Processor)) → length (dispatched_from t cpu ps) ≡ length ps
dispatched-length t cpu [] = refl
dispatched-length t cpu (p ∷ ps) = ap suc (dispatched-length t (cpu + 1) ps)

first-there : (id : ℕ) (ready : List Plain) → first_id ready ≡ Some id → has id ready ≡ true
first-there id [] is = let wrong : ⊥ = cc in absurd wrong
first-there id (x ∷ xs) is =
    let same : x.id ≡ id = cc in
    grind (arith, nat_tests, same)

chosen-ready : (held : Bool) (k : KernelState) (cpu id : ℕ) (p : Processor) → HoldsReady k → processor_at k cpu ≡ Some p → is_held p ≡ held →
    (if held then p else record p { running = first_id (ready_on k.tasks cpu) }).running ≡ Some id →
    is_ready_on (task_at k.tasks id) cpu ≡ true
chosen-ready true k cpu id p was there test runs = was.held cpu id (ap held_in there ∙ test) (ap running_in there ∙ runs)
chosen-ready false k cpu id p was there test runs =
    sym (listed-ready k.tasks id cpu was.tasks.consistent) ∙ first-there id (ready_on k.tasks cpu) runs

chosen-by : (k : KernelState) (cpu id : ℕ) (found : Option Processor) → HoldsReady k → processor_at k cpu ≡ found →
    running_in (dispatched_one found (ready_on k.tasks cpu)) ≡ Some id → is_ready_on (task_at k.tasks id) cpu ≡ true
chosen-by k cpu id None was there runs = let wrong : ⊥ = cc in absurd wrong
chosen-by k cpu id (Some p) was there runs = chosen-ready (is_held p) k cpu id p was there refl runs

pub dispatch-runs : (k : KernelState) → HoldsReady k → IsRunning (dispatched k)
dispatch-runs k was = record {
  processors = dispatched-length k.tasks 0 k.processors ∙ was.processors;
  nobody = dispatch-none k 0 was.nobody;
  tasks = was.tasks;
  ready = λ cpu id runs.
      chosen-by k cpu id (processor_at k cpu) was refl (ap running_in (sym (at-dispatched k cpu)) ∙ runs);
}

-- What leaves who runs.

pub tasks-run : (k new : KernelState) → new.processors ≡ k.processors → KeepsReady k.tasks new.tasks → IsRunning k → IsRunning new
tasks-run k new same keeps was = record {
  processors = ap length same ∙ was.processors;
  nobody = ap (λ ps. slice_index_or ps 0 None) same ∙ was.nobody;
  tasks = keeps.orderly;
  ready = λ cpu id runs. keeps.ready id cpu (was.ready cpu id (ap (λ ps. running_in (slice_index_or ps cpu None)) (sym same) ∙ runs));
}

pub parts-run : (k new : KernelState) → new.processors ≡ k.processors → new.tasks ≡ k.tasks → IsRunning k → IsRunning new
parts-run k new same tasks was = tasks-run k new same (subst (KeepsReady k.tasks) (sym tasks) (all-keep k.tasks was.tasks)) was

pub ready-hold : (k new : KernelState) → new.processors ≡ k.processors → IsOrderly new.tasks →
    ((id cpu : ℕ) → is_ready_on (task_at k.tasks id) cpu ≡ true → is_ready_on (task_at new.tasks id) cpu ≡ true) → HoldsReady k → HoldsReady new
ready-hold k new same orderly keeps was = record {
  processors = ap length same ∙ was.processors;
  nobody = ap (λ ps. slice_index_or ps 0 None) same ∙ was.nobody;
  tasks = orderly;
  held = λ cpu id held runs. keeps id cpu (was.held cpu id (ap (λ ps. held_in (slice_index_or ps cpu None)) (sym same) ∙ held)
      (ap (λ ps. running_in (slice_index_or ps cpu None)) (sym same) ∙ runs));
}

pub context-runs : (k : KernelState) (cpu : ℕ) (who : Executor) (s : State) → IsRunning k → IsRunning (with_context_of k cpu who s)
context-runs k cpu executor.Handler s was = parts-run k (with_context_of k cpu executor.Handler s) refl refl was
context-runs k cpu (executor.Task id) s was =
    tasks-run k (with_context_of k cpu (executor.Task id) s) refl
    (record { orderly = context-orderly k.tasks id s was.tasks; ready = λ at other is. is }) was

pub context-holds : (k : KernelState) (cpu : ℕ) (who : Executor) (s : State) → HoldsReady k → HoldsReady (with_context_of k cpu who s)
context-holds k cpu executor.Handler s was =
    ready-hold k (with_context_of k cpu executor.Handler s) refl was.tasks (λ at other is. is) was
context-holds k cpu (executor.Task id) s was =
    ready-hold k (with_context_of k cpu (executor.Task id) s) refl (context-orderly k.tasks id s was.tasks) (λ at other is. is) was

-- A processor is marked, or handles an interrupt or ends to.

written-processor : (k : KernelState) (cpu at : ℕ) (p other : Processor) → processor_at k cpu ≡ Some p →
    processor_at (with_processor k cpu other) at ≡ (if cpu == at then Some other else processor_at k at)
written-processor k cpu at p other there = written-at k.processors cpu at p (Some other) there

zero-by : (here : Bool) (k : KernelState) (cpu : ℕ) (p other : Processor) → (cpu == 0) ≡ here → processor_at k cpu ≡ Some p →
    processor_at k 0 ≡ None → (if here then Some other else processor_at k 0) ≡ None
zero-by true k cpu p other test there none =
    let wrong : ◌≡◌ {A = Option Processor} None (Some p) = sym none ∙ ap (processor_at k) (sym (same-number cpu 0 test)) ∙ there in
    let no : ⊥ = cc in absurd no
zero-by false k cpu p other test there none = none

written-nobody : (k : KernelState) (cpu : ℕ) (p other : Processor) → processor_at k cpu ≡ Some p → processor_at k 0 ≡ None →
    processor_at (with_processor k cpu other) 0 ≡ None
written-nobody k cpu p other there none = written-processor k cpu 0 p other there ∙ zero-by (cpu == 0) k cpu p other refl there none

running-by : (here : Bool) (k : KernelState) (cpu at : ℕ) (p other : Processor) → (cpu == at) ≡ here → processor_at k cpu ≡ Some p →
    other.running ≡ p.running → running_in (if here then Some other else processor_at k at) ≡ running_on k at
running-by true k cpu at p other test there same =
    same ∙ ap running_in (sym there) ∙ ap (running_on k) (same-number cpu at test)
running-by false k cpu at p other test there same = refl

pub marked-runs : (k : KernelState) (cpu : ℕ) (p other : Processor) → processor_at k cpu ≡ Some p → other.running ≡ p.running → IsRunning k →
    IsRunning (with_processor k cpu other)
marked-runs k cpu p other there same was = record {
  processors = length-set k.processors cpu (Some other) ∙ was.processors;
  nobody = written-nobody k cpu p other there was.nobody;
  tasks = was.tasks;
  ready = λ at id runs. was.ready at id (sym (running-by (cpu == at) k cpu at p other refl there same)
      ∙ ap running_in (sym (written-processor k cpu at p other there)) ∙ runs);
}

-- One task is no longer ready.

-- it runs on no processor that is held
abbrev pub IsntHeld : KernelState → ℕ → Type 0
IsntHeld k id = (cpu : ℕ) → held_in (processor_at k cpu) ≡ true → running_on k cpu ≡ Some id → ⊥

other-held : (same : Bool) (k : KernelState) (t : TaskTable) (id other cpu : ℕ) → (id == other) ≡ same → KeepsOthers k.tasks t id → IsntHeld k id →
    IsRunning k → held_in (processor_at k cpu) ≡ true → running_on k cpu ≡ Some other → is_ready_on (task_at t other) cpu ≡ true
other-held true k t id other cpu test keeps free was held runs =
    absurd (free cpu held (runs ∙ ap Some (sym (same-number id other test))))
other-held false k t id other cpu test keeps free was held runs = keeps.ready other cpu test (was.ready cpu other runs)

pub others-hold : (k new : KernelState) (id : ℕ) → new.processors ≡ k.processors → KeepsOthers k.tasks new.tasks id → IsntHeld k id → IsRunning k →
    HoldsReady new
others-hold k new id same keeps free was = record {
  processors = ap length same ∙ was.processors;
  nobody = ap (λ ps. slice_index_or ps 0 None) same ∙ was.nobody;
  tasks = keeps.orderly;
  held = λ cpu other held runs. other-held (id == other) k new.tasks id other cpu refl keeps free was
      (ap (λ ps. held_in (slice_index_or ps cpu None)) (sym same) ∙ held)
      (ap (λ ps. running_in (slice_index_or ps cpu None)) (sym same) ∙ runs);
}

-- a task runs on a processor that isn't held, so on none that is
pub free-isnt_held : (k : KernelState) (cpu id : ℕ) (p : Processor) → processor_at k cpu ≡ Some p → p.running ≡ Some id → is_held p ≡ false →
    IsRunning k → IsntHeld k id
free-isnt_held k cpu id p there runs free was at held other =
    let same : at ≡ cpu = (runs-once k cpu id was (ap running_in there ∙ runs)).alone at other in
    false≢true (sym (ap held_in there ∙ free) ∙ ap (λ n. held_in (processor_at k n)) (sym same) ∙ held)

-- it ends, and its processor has no marks
exit-held : (here same : Bool) (k : KernelState) (t : TaskTable) (cpu at id other : ℕ) (p : Processor) → (cpu == at) ≡ here → (id == other) ≡ same →
    processor_at k cpu ≡ Some p → p.running ≡ Some id → is_held (unmarked p) ≡ false → KeepsOthers k.tasks t id → IsRunning k →
    held_in (if here then Some (unmarked p) else processor_at k at) ≡ true →
    running_in (if here then Some (unmarked p) else processor_at k at) ≡ Some other → is_ready_on (task_at t other) at ≡ true
exit-held true same k t cpu at id other p test named there runs free keeps was held is = absurd (false≢true (sym free ∙ held))
exit-held false false k t cpu at id other p test named there runs free keeps was held is = keeps.ready other at named (was.ready at other is)
exit-held false true k t cpu at id other p test named there runs free keeps was held is =
    let elsewhere : at ≡ cpu = (runs-once k cpu id was (ap running_in there ∙ runs)).alone at (is ∙ ap Some (sym (same-number id other named))) in
    let no : ⊥ = grind (arith, nat_tests, test, elsewhere) in
    absurd no

pub exit-holds : (k out : KernelState) (cpu id : ℕ) (p : Processor) → processor_at k cpu ≡ Some p → p.running ≡ Some id →
    is_held (unmarked p) ≡ false → out.processors ≡ k.processors → KeepsOthers k.tasks out.tasks id → IsRunning k →
    HoldsReady (with_processor out cpu (unmarked p))
exit-holds k out cpu id p there runs free same keeps was =
    let found : processor_at out cpu ≡ Some p = ap (λ ps. slice_index_or ps cpu None) same ∙ there in
    let written : (at : ℕ) → processor_at (with_processor out cpu (unmarked p)) at ≡ (if cpu == at then Some (unmarked p) else processor_at k at) =
    λ at. written-processor out cpu at p (unmarked p) found
    ∙ ap (λ ps. if cpu == at then Some (unmarked p) else slice_index_or ps at None) same in
    record {
      processors = length-set out.processors cpu (Some (unmarked p)) ∙ ap length same ∙ was.processors;
      nobody = written-nobody out cpu p (unmarked p) found (ap (λ ps. slice_index_or ps 0 None) same ∙ was.nobody);
      tasks = keeps.orderly;
      held = λ at other held is. exit-held (cpu == at) (id == other) k out.tasks cpu at id other p refl refl there runs free keeps was
          (ap held_in (sym (written at)) ∙ held) (ap running_in (sym (written at)) ∙ is);
    }

number-by : (zero small : Bool) (k : KernelState) (cpu : ℕ) (p : Processor) → (cpu == 0) ≡ zero → nat_lt cpu 9 ≡ small → IsRunning k →
    processor_at k cpu ≡ Some p → IsProcessor cpu
number-by true small k cpu p test below was there =
    let wrong : ◌≡◌ {A = Option Processor} None (Some p) = sym was.nobody ∙ ap (processor_at k) (sym (same-number cpu 0 test)) ∙ there in
    let no : ⊥ = cc in absurd no
number-by false true k cpu p test below was there = (grind (arith, nat_tests, test), grind (arith, nat_tests, below))
number-by false false k cpu p test below was there =
    let past : length k.processors ≤ cpu = grind (arith, nat_tests, below, was.processors) in
    let wrong : ◌≡◌ {A = Option Processor} None (Some p) = sym (get_or-eq_default k.processors None past) ∙ there in
    let no : ⊥ = cc in absurd no

-- a number at which there is a processor is one
pub number-there : (k : KernelState) (cpu : ℕ) (p : Processor) → IsRunning k → processor_at k cpu ≡ Some p → IsProcessor cpu
number-there k cpu p was there = number-by (cpu == 0) (nat_lt cpu 9) k cpu p refl refl was there
