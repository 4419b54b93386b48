use Rattle.std.proofs.Common.{◌++◌, [], ap, ◌∙◌, arith}
use Rattle.std.specs.List.{cons_option}
use Rattle.brd_happening.specs.Rung.{due_at}
use Rattle.brd_happening.proofs.ReleaseLemmas.{next-number, none-left}
use Rattle.brd_happening.proofs.rung.all_due.Goals as goal

pub loop-place-preserved : goal.loop-place-preserved
loop-place-preserved c =
    next-number (due_at c.args.board.now) c.loop-place.due c.put_if.new.due _ c.loop-place.place 128
    (omega (arith, c.loop-place-test.true))
    (c.in_ok-put_if.ensures ∙ ap (λ o. c.loop-place.due ++ cons_option o []) c.due_at.ensures) c.loop-place.invariant

pub returns : goal.returns
returns c =
    none-left (due_at c.args.board.now) c.loop-place.due _ c.loop-place.place 128 (omega (arith, c.loop-place-test.false))
    c.loop-place.invariant
