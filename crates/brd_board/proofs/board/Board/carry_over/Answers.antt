use Rattle.std.proofs.Common.{◌≡◌, replicate, subst, sym, ap, ◌∙◌}
use Rattle.std.specs.Prelude.{IfSome}
use Rattle.brd_kernel.specs.Kernel.{executor_on, with_context_of}
use Rattle.brd_kernel.specs.Always.{HasPlace}
use Rattle.brd_board.specs.declared.event.Event.TheVariants.{Step}
use Rattle.brd_board.specs.Board.{BoardState, after}
use Rattle.brd_board.specs.Lease.{IsFresh}
use Rattle.brd_board.proofs.LeaseLemmas.{steps-committed}
use Rattle.brd_board.proofs.board.Board.carry_over.Goals as goal

pub returns : goal.returns
returns c =
    let lease = c.args.lease.now in
    let k = c.self.inside.kernel in
    let new = c.put_context.new.self in
    let put : IfSome (executor_on k lease.cpu) (λ who. new ≡ with_context_of k lease.cpu who lease.context) =
    subst (λ s. IfSome (executor_on k lease.cpu) (λ who. new ≡ with_context_of k lease.cpu who s)) c.context.ensures.is
    (subst (λ n. IfSome (executor_on k n) (λ who. new ≡ with_context_of k n who c.context.result.now)) c.cpu.ensures
    c.put_context.ensures.is) in
    let place : IfSome (executor_on k lease.cpu) (HasPlace k lease.cpu) =
    subst (λ n. IfSome (executor_on k n) (HasPlace k n)) c.cpu.ensures c.put_context.ensures.place in
    steps-committed _ lease new (subst (λ b. IsFresh b lease) (sym c.self.view_is) c.requires) c.context.ensures.kept put place
    ∙ ap (λ (b : BoardState). after b (replicate lease.len (Step lease.cpu))) c.self.view_is
