-- Whoever runs is a task that is there.
use Rattle.std.proofs.Common.{◌≡◌, ℕ, zero, suc, List, [], ◌∷◌, refl, sym, ◌∙◌}
use Rattle.std.specs.Prelude.{Bool, true, false, ◌&&◌, slice_index_or, slice_set, Option, None, Some, IfSome}
use Rattle.brd_tasks.specs.Tasks.{TaskTable, are_there}
use Rattle.brd_tasks.specs.Ready.{IsConsistent}
use Rattle.brd_tasks.proofs.ThereLemmas.{there-is, there-small}
use Rattle.brd_kernel.specs.declared.processor.Processor.{Processor}
use Rattle.brd_kernel.specs.Kernel.{running_in}
use Rattle.brd_kernel.specs.Always.{IsIdOrNone, is_task_or_none, run_tasks}

pub both : (one other : Bool) → one ≡ true → other ≡ true → (one && other) ≡ true
both true other first second = second
both false other first second = first

pub first-of : (one other : Bool) → (one && other) ≡ true → one ≡ true
first-of true other is = refl
first-of false other is = is

pub second-of : (one other : Bool) → (one && other) ≡ true → other ≡ true
second-of true other is = is
second-of false other is = let wrong : ⊥ = cc in absurd wrong

-- of each processor
pub run-at : (there : List Bool) (ps : List (Option Processor)) (cpu : ℕ) → run_tasks there ps ≡ true →
    is_task_or_none there (running_in (slice_index_or ps cpu None)) ≡ true
run-at there [] zero is = refl
run-at there [] (suc cpu) is = refl
run-at there (p ∷ ps) zero is = first-of (is_task_or_none there (running_in p)) (run_tasks there ps) is
run-at there (p ∷ ps) (suc cpu) is = run-at there ps cpu (second-of (is_task_or_none there (running_in p)) (run_tasks there ps) is)

-- a processor is written anew
pub run-set : (there : List Bool) (ps : List (Option Processor)) (cpu : ℕ) (p : Processor) → is_task_or_none there p.running ≡ true →
    run_tasks there ps ≡ true → run_tasks there (slice_set ps cpu (Some p)) ≡ true
run-set there [] zero p known is = refl
run-set there [] (suc cpu) p known is = refl
run-set there (x ∷ xs) zero p known is = both _ _ known (second-of (is_task_or_none there (running_in x)) (run_tasks there xs) is)
run-set there (x ∷ xs) (suc cpu) p known is =
    both _ _ (first-of (is_task_or_none there (running_in x)) (run_tasks there xs) is)
    (run-set there xs cpu p known (second-of (is_task_or_none there (running_in x)) (run_tasks there xs) is))

pub known-small : (t : TaskTable) (running : Option ℕ) → IsConsistent t → is_task_or_none (are_there t) running ≡ true → IsIdOrNone running
known-small t None was known = tt
known-small t (Some id) was known = there-small t id was (sym (there-is t id) ∙ known)

-- of a processor, where there is one

pub some-run : (there : List Bool) (p : Option Processor) → is_task_or_none there (running_in p) ≡ true →
    IfSome p (λ (x : Processor). is_task_or_none there x.running ≡ true)
some-run there None is = tt
some-run there (Some p) is = is

pub some-small : (p : Option Processor) → IsIdOrNone (running_in p) → IfSome p (λ (x : Processor). IsIdOrNone x.running)
some-small None is = tt
some-small (Some p) is = is
