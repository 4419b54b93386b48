use Rattle.std.proofs.Common.{sym, subst}
use Rattle.brd_kernel.specs.declared.processor.Executor.{Executor}
use Rattle.brd_kernel.specs.declared.processor.Executor.TheVariants as executor
use Rattle.brd_kernel.specs.Kernel.{KernelState}
use Rattle.brd_kernel.specs.Always.{HasContext}
use Rattle.brd_kernel.proofs.kernel.Kernel.context.Goals as goal

pub context-requires : goal.context-requires
context-requires c =
    let there : HasContext c.args.self.now c.args.cpu (executor.Task c.in-Task.id) =
    subst (λ (who : Executor). HasContext c.args.self.now c.args.cpu who) c.in-Task.is c.in_ok-executor.ensures.there in
    record { there = subst (λ (k : KernelState). HasContext k c.args.cpu (executor.Task c.in-Task.id)) (sym c.self.view_is) there }
