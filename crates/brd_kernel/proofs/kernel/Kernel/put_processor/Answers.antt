use Rattle.std.proofs.Common.{◌≡◌, sym, subst, rules}
use Rattle.std.specs.Prelude.{true, slice_set, Some}
use Rattle.brd_tasks.specs.Tasks.{are_there}
use Rattle.brd_kernel.specs.Kernel.{KernelState}
use Rattle.brd_kernel.specs.Always.{is_task_or_none, run_tasks}
use Rattle.brd_kernel.proofs.ThereLemmas.{run-set}
use Rattle.brd_kernel.proofs.ExecutorLemmas.{executing-set}
use Rattle.brd_kernel.proofs.kernel.Kernel.put_processor.Goals as goal

pub invariant_of-self : goal.invariant_of-self
invariant_of-self c =
    let known : is_task_or_none (are_there c.self.inside.common.tasks) c.args.processor.running ≡ true =
    subst (λ (k : KernelState). is_task_or_none (are_there k.tasks) c.args.processor.running ≡ true) (sym c.self.view_is) c.requires.known in
    let run : run_tasks (are_there c.self.inside.common.tasks) (slice_set c.self.inside.common.processors c.args.cpu (Some c.args.processor)) ≡ true =
    run-set (are_there c.self.inside.common.tasks) c.self.inside.common.processors c.args.cpu c.args.processor known c.self.invariant.0.kernel.running in (
      record {
        kernel = search (rules, run);
        quiet = c.self.invariant.0.quiet;
        executing = rw c.task.ensures (executing-set c.self.inside.common.executing c.self.inside.common.processors c.args.cpu c.args.processor c.self.invariant.0.executing);
      },
      c.self.invariant.1,
    )
