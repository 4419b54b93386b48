use Rattle.std.proofs.Common.{◌++◌, ap, ◌∙◌, rules}
use Rattle.brd_lazy.proofs.FoundLemmas.{row-next}
use Rattle.brd_lazy.proofs.twins.in_one.Goals as goal

pub loop-row-preserved : goal.loop-row-preserved
loop-row-preserved c = λ spots finds all.
    let was = c.loop-row.invariant spots finds all in
    row-next spots finds c.loop-row.row-iterator.rest.items c.next.new.self.rest.items c.in-Some.row c.in_ok-row.row
    c.loop-row.twins.items c.extend_from_slice.new.self.items c.in-Some.ensures.steps.0 (search rules)
    (c.in_ok-extend_from_slice.ensures.items ∙ ap (λ them. c.loop-row.twins.items ++ them) c.as_slice.ensures.value) was.0 was.1

pub returns : goal.returns
returns c = λ spots finds all. (c.loop-row.invariant spots finds all).1
