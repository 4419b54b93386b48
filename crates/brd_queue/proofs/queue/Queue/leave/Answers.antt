use Rattle.std.proofs.Common.{◌≡◌, sym, subst, rules}
use Rattle.std.specs.Prelude.{false}
use Rattle.brd_queue.specs.Queue.{has, without, AreApart}
use Rattle.brd_queue.proofs.QueueLemmas.{apart-without, has-without_own}
use Rattle.brd_queue.proofs.queue.Queue.leave.Goals as goal

pub invariant_of-self : goal.invariant_of-self
invariant_of-self g c =
    let kept : AreApart (without c.args.id c.self.inside.entries.items) = apart-without c.args.id c.self.inside.entries.items c.self.invariant.0 in
    search rules

pub returns-clause-gone : goal.returns-clause-gone
returns-clause-gone g c =
    let left : c.remove.new.self.items ≡ without c.args.id c.self.inside.entries.items = search rules in
    subst (λ xs. has c.args.id xs ≡ false) (sym left) (has-without_own c.args.id c.self.inside.entries.items)
