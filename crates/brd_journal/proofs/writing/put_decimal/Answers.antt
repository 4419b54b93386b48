use Rattle.std.proofs.Common.{ℕ, List, ◌++◌, refl, ap, ◌∙◌, arith}
use Rattle.brd_journal.proofs.DecimalLemmas.{placed_first, placed_room, placed_more, placed_last}
use Rattle.brd_journal.proofs.writing.put_decimal.Goals as goal

pub loop-left-init : goal.loop-left-init
loop-left-init c = placed_first c.args.number _ (omega arith) refl refl

pub overflow_sub-start : goal.overflow_sub-start
overflow_sub-start c = placed_room _ _ _ _ c.loop-left.invariant

pub loop-left-preserved : goal.loop-left-preserved
loop-left-preserved c = placed_more c.args.number c.loop-left.left c.loop-left.start c.loop-left.digits c.loop-left.invariant c.loop-left-test.true

pub overflow_sub-start-2 : goal.overflow_sub-start-2
overflow_sub-start-2 c = placed_room _ _ _ _ c.loop-left.invariant

pub returns : goal.returns
returns c =
    let last = placed_last c.args.number c.loop-left.left c.loop-left.start c.loop-left.digits c.loop-left.invariant c.loop-left-test.false in
    c.in_ok-extend_from_slice.ensures.items ∙ ap (λ (ds : List ℕ). c.args.text.now.items ++ ds) last
