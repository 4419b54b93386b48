use Rattle.std.proofs.Common.{◌≡◌, ◌<◌, length, sym, subst, ap, arith}
use Rattle.std.specs.Prelude.{Option, Some, true, IfSome}
use Rattle.brd_tasks.specs.Tasks.{are_there}
use Rattle.brd_kernel.specs.declared.processor.Executor.{Executor}
use Rattle.brd_kernel.specs.declared.processor.Executor.TheVariants as executor
use Rattle.brd_kernel.specs.Kernel.{KernelState, processor_at, executor_on}
use Rattle.brd_kernel.specs.Always.{run_tasks, HasContext}
use Rattle.brd_kernel.proofs.ThereLemmas.{run-at}
use Rattle.brd_kernel.proofs.ExecutorLemmas.{executor-is, executor-has}
use Rattle.brd_kernel.proofs.kernel.Kernel.executor.Goals as goal

pub returns-in-Some-clause-there : goal.returns-in-Some-clause-there
returns-in-Some-clause-there c =
    let k : KernelState = c.args.self.now in
    let run : run_tasks (are_there k.tasks) k.processors ≡ true =
    subst (λ (s : KernelState). run_tasks (are_there s.tasks) s.processors ≡ true) c.self.view_is c.self.invariant.0.kernel.running in
    let who : executor_on k c.args.cpu ≡ Some (executor.Task c.in-Some.id) =
    subst (λ (s : KernelState). executor_on s c.args.cpu ≡ Some (executor.Task c.in-Some.id)) c.self.view_is
    (executor-is c.self.inside.common.executing c.self.inside.common.processors c.args.cpu c.in-Some.id c.self.invariant.0.executing c.in-Some.is) in
    subst (λ (x : Option Executor). IfSome x (HasContext k c.args.cpu)) who
    (executor-has k c.args.cpu (processor_at k c.args.cpu) c.if-cpu-lt9.true (run-at (are_there k.tasks) k.processors c.args.cpu run))

pub returns-in-Some-clause-place : goal.returns-in-Some-clause-place
returns-in-Some-clause-place c =
    let k : KernelState = c.args.self.now in
    let within : c.in-Some.id < length c.self.inside.common.tasks.contexts =
    c.are_consistent.ensures.contexts c.in-Some.id
    (subst (λ (s : KernelState). HasContext s c.args.cpu (executor.Task c.in-Some.id)) (sym c.self.view_is) (returns-in-Some-clause-there c)) in
    let count : length c.self.inside.common.tasks.contexts ≡ length k.tasks.contexts = ap (λ (s : KernelState). length s.tasks.contexts) c.self.view_is in
    omega (arith, within, count)
