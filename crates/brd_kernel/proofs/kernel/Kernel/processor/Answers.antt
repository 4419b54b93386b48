use Rattle.std.proofs.Common.{◌≡◌, subst}
use Rattle.std.specs.Prelude.{Option, None, true, IfSome, slice_index_or}
use Rattle.brd_tasks.specs.Tasks.{are_there}
use Rattle.brd_kernel.specs.declared.processor.Processor.{Processor}
use Rattle.brd_kernel.specs.Kernel.{KernelState, running_in}
use Rattle.brd_kernel.specs.Always.{is_task_or_none}
use Rattle.brd_kernel.proofs.ThereLemmas.{run-at, known-small, some-run, some-small}
use Rattle.brd_kernel.proofs.kernel.Kernel.processor.Goals as goal

pub returns-then-cpu-lt9-clause-small : goal.returns-then-cpu-lt9-clause-small
returns-then-cpu-lt9-clause-small c =
    let found : Option Processor = slice_index_or c.self.inside.common.processors c.args.cpu None in
    some-small found (known-small c.self.inside.common.tasks (running_in found) c.are_consistent.ensures
    (run-at (are_there c.self.inside.common.tasks) c.self.inside.common.processors c.args.cpu c.self.invariant.0.kernel.running))

pub returns-then-cpu-lt9-clause-known : goal.returns-then-cpu-lt9-clause-known
returns-then-cpu-lt9-clause-known c =
    let found : Option Processor = slice_index_or c.self.inside.common.processors c.args.cpu None in
    subst (λ (k : KernelState). IfSome found (λ (p : Processor). is_task_or_none (are_there k.tasks) p.running ≡ true)) c.self.view_is
    (some-run (are_there c.self.inside.common.tasks) found
    (run-at (are_there c.self.inside.common.tasks) c.self.inside.common.processors c.args.cpu c.self.invariant.0.kernel.running))
