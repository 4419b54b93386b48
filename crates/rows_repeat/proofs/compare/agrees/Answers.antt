use Rattle.std.specs.Prelude.{replicate}
use Rattle.std.proofs.Common.{ap, ◌∙◌}
use Rattle.brd_mem.specs.Memory.{size_of}
use Rattle.brd_board.specs.declared.event.Event.TheVariants.{Step}
use Rattle.brd_board.specs.Board.{BoardState}
use Rattle.brd_board.proofs.FormLemmas.{size-after, order-after}
use Rattle.rows_repeat.proofs.compare.agrees.Goals as goal

pub copy_from-requires-clause-sizes : goal.copy_from-requires-clause-sizes
copy_from-requires-clause-sizes c = ap (λ (b : BoardState). size_of b.memory) c.repeat.ensures
    ∙ size-after c.args.many.now (replicate c.args.count (Step 1))
    ∙ ap (λ (b : BoardState). size_of b.memory) c.requires

pub copy_from-requires-clause-orders : goal.copy_from-requires-clause-orders
copy_from-requires-clause-orders c = ap (λ (b : BoardState). b.memory.order) c.repeat.ensures
    ∙ order-after c.args.many.now (replicate c.args.count (Step 1))
    ∙ ap (λ (b : BoardState). b.memory.order) c.requires
