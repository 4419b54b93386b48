use Rattle.std.proofs.Common.{List, length, subst}
use Rattle.brd_lazy.specs.declared.finds.Find.{Find}
use Rattle.brd_lazy.specs.Finds.{AreSettled}
use Rattle.brd_lazy.proofs.FoundLemmas.{gone-settled}
use Rattle.brd_lazy.proofs.settle.join_one.Goals as goal

pub returns-clause-so : goal.returns-clause-so
returns-clause-so c = λ by among wanted so.
    gone-settled by among wanted c.args.spots.now c.args.part.finds.items c.settle.new.spots c.args.part.from c.args.part.upto
    c.args.part.came c.settle.ensures.more
    (subst (λ (finds : List Find). AreSettled c.args.spots.now finds (length finds) c.settle.new.spots) c.as_slice.ensures.value
    c.in_ok-settle.ensures.known) so
