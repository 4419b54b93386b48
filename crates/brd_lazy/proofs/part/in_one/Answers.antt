use Rattle.std.proofs.Common.{rules}
use Rattle.brd_lazy.proofs.FoundLemmas.{part-next}
use Rattle.brd_lazy.proofs.part.in_one.Goals as goal

pub loop-part-preserved : goal.loop-part-preserved
loop-part-preserved c = λ by among wanted spots all.
    let was = c.loop-part.invariant by among wanted spots all in
    part-next by among wanted spots c.loop-part.part-iterator.rest.items c.next.new.self.rest.items c.in-Some.part c.in_ok-part.field-0
    c.loop-part.one c.add.new.self c.in-Some.ensures.steps.0 (search rules) was.0 was.1 (c.in_ok-add.ensures by among wanted spots)
