use Rattle.std.proofs.Common.{◌≡◌, sym, subst}
use Rattle.std.specs.Prelude.{Some, None}
use Rattle.brd_time.specs.Time.{Time, next_due_of}
use Rattle.brd_time.proofs.TimeLemmas.{next-is, none-yet}
use Rattle.brd_time.proofs.timeouts.Timeouts.next_due.Goals as goal

pub returns-then-self-clause-is : goal.returns-then-self-clause-is
returns-then-self-clause-is c =
    sym (subst (λ (t : Time). next_due_of t c.args.from ≡ None) c.self.view_is
    (none-yet c.self.inside.count c.self.inside.earliest c.self.inside.dues.items c.args.from c.self.invariant.1 c.self.invariant.0 c.requires
    c.self.invariant.2 c.if-self.true))

pub returns-in-Some-clause-is : goal.returns-in-Some-clause-is
returns-in-Some-clause-is c =
    sym (subst (λ (t : Time). next_due_of t c.args.from ≡ Some c.in-Some.task) c.self.view_is
    (next-is c.self.inside.count c.self.inside.dues.items c.args.from (Some c.in-Some.task) c.self.invariant.1 c.self.invariant.0 c.requires
    (rw c.as_slice.ensures.value at c.in-Some.ensures)))

pub returns-in-None-clause-is : goal.returns-in-None-clause-is
returns-in-None-clause-is c =
    sym (subst (λ (t : Time). next_due_of t c.args.from ≡ None) c.self.view_is
    (next-is c.self.inside.count c.self.inside.dues.items c.args.from None c.self.invariant.1 c.self.invariant.0 c.requires
    (rw c.as_slice.ensures.value at c.in-None.ensures)))
