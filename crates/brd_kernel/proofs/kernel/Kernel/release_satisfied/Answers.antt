use Rattle.std.proofs.Common.{sym, ap, subst, ◌∙◌}
use Rattle.brd_kernel.specs.Kernel.{KernelState}
use Rattle.brd_kernel.specs.Common.{kernel_of}
use Rattle.brd_kernel.specs.Services.{with_satisfied_released}
use Rattle.brd_kernel.proofs.WaitLemmas.{IsTurn, released-turn, released-end}
use Rattle.brd_kernel.proofs.kernel.Kernel.release_satisfied.Goals as goal

turn : (c : goal.After-release) → IsTurn c.loop-task.self c.release.new.self c.args.id
turn c =
    let k : KernelState = kernel_of c.self.inside.common c.self.inside.semaphores c.self.inside.flags c.self.inside.queues c.self.inside.mutexes c.self.inside.pools c.self.inside.mailboxes in
    subst (λ s. IsTurn s c.release.new.self c.args.id) c.self.view_is
    (released-turn k c.release.new.self c.next_satisfied.new.self c.args.id c.in-Some.task c.in-Some.pattern c.next_satisfied.ensures.bits
    (sym c.next_satisfied.ensures.who ∙ c.in-Some.is) c.next_satisfied.ensures.is c.release.ensures)

pub loop-task-smaller : goal.loop-task-smaller
loop-task-smaller c = (turn c).less

pub loop-task-preserved : goal.loop-task-preserved
loop-task-preserved c = (turn c).same ∙ c.loop-task.invariant

pub returns : goal.returns
returns c =
    let k : KernelState = kernel_of c.self.inside.common c.self.inside.semaphores c.self.inside.flags c.self.inside.queues c.self.inside.mutexes c.self.inside.pools c.self.inside.mailboxes in
    released-end k c.next_satisfied.new.self c.args.id (sym c.next_satisfied.ensures.who ∙ c.in_default.is) c.next_satisfied.ensures.is
    ∙ ap (λ s. with_satisfied_released s c.args.id) c.self.view_is ∙ c.loop-task.invariant
