use Rattle.std.proofs.Common.{List, length, subst, sym, slice_index_or}
use Rattle.brd_lazy.specs.declared.finds.Find.{Find}
use Rattle.brd_lazy.specs.Finds.{AreSettled, IsTwin}
use Rattle.brd_lazy.proofs.FoundLemmas.{gone-settled}
use Rattle.brd_lazy.proofs.settle.join_many.Goals as goal

pub settle_all-requires : goal.settle_all-requires
settle_all-requires c = λ k d within.
    subst (λ (finds : List Find). IsTwin c.args.spots.now finds (slice_index_or c.args.twins.now k d)) (sym c.as_slice.ensures.value)
    (c.requires k d within)

pub returns-clause-so : goal.returns-clause-so
returns-clause-so c = λ by among wanted so.
    gone-settled by among wanted c.args.spots.now c.args.part.finds.items c.settle_all.new.spots c.args.part.from c.args.part.upto
    c.args.part.came c.settle_all.ensures.more
    (subst (λ (finds : List Find). AreSettled c.args.spots.now finds (length finds) c.settle_all.new.spots) c.as_slice.ensures.value
    c.in_ok-settle_all.ensures.known) so
