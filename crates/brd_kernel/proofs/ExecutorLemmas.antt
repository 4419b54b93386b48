-- The task that executes on each processor, as it is kept.
use Rattle.std.proofs.Common.{◌≡◌, ◌<◌, ℕ, zero, suc, ◌+◌, List, ◌∷◌, map, refl, sym, ap, ◌∙◌}
use Rattle.std.specs.Prelude.{Bool, true, false, ◌&&◌, nat_le, if◌then◌else◌, slice_index_or, slice_set, replicate, Option, None, Some, IfSome, is_some}
use Rattle.std.specs.Option.{option_map}
use Rattle.std.specs.List.{range_with_len}
use Rattle.std.proofs.lemmas.Bool.{false≢true}
use Rattle.std.proofs.lemmas.List.{map-set}
use Rattle.std.proofs.Math.ListN.{get_or-map}
use Rattle.brd_tasks.specs.Tasks.{are_there}
use Rattle.brd_tasks.proofs.ThereLemmas.{there-is}
use Rattle.brd_kernel.specs.declared.processor.Processor.{Processor}
use Rattle.brd_kernel.specs.declared.processor.Executor.{Executor}
use Rattle.brd_kernel.specs.declared.processor.Executor.TheVariants as executor
use Rattle.brd_kernel.specs.Kernel.{KernelState, idle, running_in, executor_by, executor_in}
use Rattle.brd_kernel.specs.Always.{is_task_or_none, HasContext, task_of, task_executing}
use Rattle.brd_kernel.specs.Making.{idle_one, idle_ones}

-- none executes on a processor that is idle

idle-executes : (there : Bool) → task_executing (if there then Some idle else None) ≡ None
idle-executes true = refl
idle-executes false = refl

none-from : (processors from n : ℕ) → replicate n None ≡ map task_executing (map (idle_one processors) (range_with_len from n))
none-from processors from zero = refl
none-from processors from (suc n) =
    ap (λ (e : Option ℕ). e ∷ replicate n None) (sym (idle-executes (nat_le 1 from && nat_le from processors)))
    ∙ ap (λ (es : List (Option ℕ)). task_executing (idle_one processors from) ∷ es) (none-from processors (from + 1) n)

pub none-executes : (processors : ℕ) (ps : List (Option Processor)) → ps ≡ idle_ones processors 9 → replicate 9 None ≡ map task_executing ps
unfolding idle_ones
none-executes processors ps are = none-from processors 0 9 ∙ ap (map task_executing) (sym are)

-- a processor is written anew
pub executing-set : (es : List (Option ℕ)) (ps : List (Option Processor)) (cpu : ℕ) (p : Processor) → es ≡ map task_executing ps →
    slice_set es cpu (task_executing (Some p)) ≡ map task_executing (slice_set ps cpu (Some p))
executing-set es ps cpu p are = ap (λ (l : List (Option ℕ)). slice_set l cpu (task_executing (Some p))) are ∙ sym (map-set task_executing ps cpu (Some p))

-- what is kept is the task that executes
executing-kept : (es : List (Option ℕ)) (ps : List (Option Processor)) (cpu : ℕ) → es ≡ map task_executing ps →
    slice_index_or es cpu None ≡ task_executing (slice_index_or ps cpu None)
executing-kept es ps cpu are = ap (λ (l : List (Option ℕ)). slice_index_or l cpu None) are ∙ get_or-map task_executing ps cpu None

task-is : (who : Option Executor) (id : ℕ) → task_of who ≡ Some id → who ≡ Some (executor.Task id)
task-is None id is = absurd (false≢true (ap is_some is))
task-is (Some executor.Handler) id is = absurd (false≢true (ap is_some is))
task-is (Some (executor.Task other)) id is = ap (option_map executor.Task) is

pub executor-is : (es : List (Option ℕ)) (ps : List (Option Processor)) (cpu id : ℕ) → es ≡ map task_executing ps →
    slice_index_or es cpu None ≡ Some id → executor_in (slice_index_or ps cpu None) ≡ Some (executor.Task id)
executor-is es ps cpu id are is = task-is (executor_in (slice_index_or ps cpu None)) id (sym (executing-kept es ps cpu are) ∙ is)

-- who executes has a context

by-has : (k : KernelState) (cpu : ℕ) (running handling : Option ℕ) → cpu < 9 → is_task_or_none (are_there k.tasks) running ≡ true →
    IfSome (executor_by running handling) (HasContext k cpu)
by-has k cpu None None within known = tt
by-has k cpu (Some id) None within known = sym (there-is k.tasks id) ∙ known
by-has k cpu None (Some line) within known = within
by-has k cpu (Some id) (Some line) within known = within

unless-has : (stopped : Bool) (k : KernelState) (cpu : ℕ) (who : Option Executor) → IfSome who (HasContext k cpu) →
    IfSome (if stopped then None else who) (HasContext k cpu)
unless-has true k cpu who has = tt
unless-has false k cpu who has = has

pub executor-has : (k : KernelState) (cpu : ℕ) (p : Option Processor) → cpu < 9 → is_task_or_none (are_there k.tasks) (running_in p) ≡ true →
    IfSome (executor_in p) (HasContext k cpu)
executor-has k cpu None within known = tt
executor-has k cpu (Some p) within known = unless-has p.stopped k cpu (executor_by p.running p.handling) (by-has k cpu p.running p.handling within known)
