-- As the kernel is made nobody runs and nobody is ready; then tasks are started.
use Rattle.std.proofs.Common.{◌≡◌, ◌<◌, ◌≤◌, ℕ, List, [], length, refl, sym, ap, subst, ◌∙◌, arith}
use Rattle.std.specs.Prelude.{Bool, true, false, ◌&&◌, nat_lt, nat_le, if◌then◌else◌, slice_index_or, All, Option, None, Some}
use Rattle.std.proofs.lemmas.Bool.Decides.{nat_tests}
use Rattle.std.proofs.lemmas.List.FromFn.{length-map-range_with_len, get_or-map-range_with_len}
use Rattle.std.proofs.Math.ListN.{get_or-eq_default}
use Rattle.brd_queue.specs.Queue.{AreApart}
use Rattle.brd_tasks.specs.declared.task.TaskSetup.{TaskSetup}
use Rattle.brd_tasks.specs.declared.task.Request.TheVariants.{Assigned}
use Rattle.brd_tasks.specs.Ready.{IsSetup}
use Rattle.brd_tasks.specs.Tasks.{made, activated}
use Rattle.brd_tasks.proofs.MadeLemmas.{same-at, made-consistent}
use Rattle.brd_kernel.specs.Kernel.{KernelState, idle, running_in, with_tasks}
use Rattle.brd_kernel.specs.Making.{idle_one, idle_ones}
use Rattle.brd_kernel.specs.Running.{IsOrderly, IsRunning}
use Rattle.brd_kernel.proofs.who_runs.ReadyLemmas.{activated-keeps}
use Rattle.brd_kernel.proofs.who_runs.RunningLemmas.{tasks-run}

ones-length : (processors n : ℕ) → length (idle_ones processors n) ≡ n
unfolding idle_ones
ones-length processors n = length-map-range_with_len (idle_one processors) 0 n

idle-runs : (there : Bool) → running_in (if there then Some idle else None) ≡ None
idle-runs true = refl
idle-runs false = refl

nobody-by : (small : Bool) (processors n cpu : ℕ) → nat_lt cpu n ≡ small → running_in (slice_index_or (idle_ones processors n) cpu None) ≡ None
unfolding idle_ones
nobody-by true processors n cpu test =
    let small : cpu < n = grind (arith, nat_tests, test) in
    ap running_in (get_or-map-range_with_len (idle_one processors) 0 n cpu cpu None small (omega arith))
    ∙ idle-runs (nat_le 1 cpu && nat_le cpu processors)
nobody-by false processors n cpu test =
    let past : length (idle_ones processors n) ≤ cpu = grind (arith, nat_tests, test, ones-length processors n) in
    ap running_in (get_or-eq_default (idle_ones processors n) None past)

none-at-0 : (processors : ℕ) → slice_index_or (idle_ones processors 9) 0 None ≡ None
unfolding idle_ones
none-at-0 processors = get_or-map-range_with_len (idle_one processors) 0 9 0 0 None (omega arith) (omega arith)

made-orderly : (setups : List TaskSetup) → All IsSetup setups → IsOrderly (made setups)
made-orderly setups all = record {
  consistent = made-consistent setups all;
  once = λ cpu. subst AreApart (sym (same-at 9 cpu [])) tt;
}

-- a kernel with these processors and tasks, as it is made
pub made-runs : (k : KernelState) (processors : ℕ) (setups : List TaskSetup) → k.processors ≡ idle_ones processors 9 → k.tasks ≡ made setups →
    All IsSetup setups → IsRunning k
made-runs k processors setups ones tasks all = record {
  processors = ap length ones ∙ ones-length processors 9;
  nobody = ap (λ ps. slice_index_or ps 0 None) ones ∙ none-at-0 processors;
  tasks = subst IsOrderly (sym tasks) (made-orderly setups all);
  ready = λ cpu id runs.
      let wrong : ◌≡◌ {A = Option ℕ} None (Some id) =
      sym (ap (λ ps. running_in (slice_index_or ps cpu None)) ones ∙ nobody-by (nat_lt cpu 9) processors 9 cpu refl) ∙ runs in
      let no : ⊥ = cc in
      absurd no;
}

-- a task is started
pub started-runs : (k : KernelState) (id : ℕ) → IsRunning k → IsRunning (with_tasks k (activated k.tasks id Assigned))
started-runs k id was =
    tasks-run k (with_tasks k (activated k.tasks id Assigned)) refl (activated-keeps k.tasks id Assigned was.tasks tt) was
