use Rattle.std.proofs.Common.{◌≡◌, ◌<◌, length, arith, sym, subst}
use Rattle.std.specs.Prelude.{slice_get, Some}
use Rattle.brd_queue.specs.Queue.{AreApart}
use Rattle.brd_queue.proofs.QueueLemmas.{apart-remove, at-place, small-at}
use Rattle.brd_queue.proofs.queue.Queue.take.Goals as goal

pub invariant_of-self : goal.invariant_of-self
invariant_of-self g c =
    (subst AreApart (sym c.remove.ensures.items) (apart-remove c.args.at c.self.inside.entries.items c.self.invariant.0), omega (arith, c.remove.ensures.capacity, c.self.invariant.1))

pub returns-clause-entry : goal.returns-clause-entry
returns-clause-entry g c =
    subst (λ xs. slice_get xs c.args.at ≡ Some c.remove.result) c.self.view_is
    (at-place c.args.at c.self.inside.entries.items c.remove.result (subst (λ xs. c.args.at < length xs) (sym c.self.view_is) c.requires) c.remove.ensures.value)

pub returns-clause-small : goal.returns-clause-small
returns-clause-small g c =
    small-at c.args.at c.self.inside.entries.items c.remove.result c.self.invariant.0
    (at-place c.args.at c.self.inside.entries.items c.remove.result (subst (λ xs. c.args.at < length xs) (sym c.self.view_is) c.requires) c.remove.ensures.value)
