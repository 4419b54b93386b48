use Rattle.std.proofs.Common.{◌++◌, [], ap, ◌∙◌, arith}
use Rattle.std.specs.List.{cons_option}
use Rattle.brd_happening.proofs.ReleaseLemmas.{next-number}
use Rattle.brd_verdicts.specs.Circle.{wait_in}
use Rattle.brd_verdicts.proofs.circle.waits_of.Goals as goal

pub loop-id-preserved : goal.loop-id-preserved
loop-id-preserved c =
    next-number (wait_in c.args.board.now) c.loop-id.waits c.put_if.new.waits _ c.loop-id.id 256
    (omega (arith, c.loop-id-test.true))
    (c.in_ok-put_if.ensures ∙ ap (λ o. c.loop-id.waits ++ cons_option o []) c.wait_in.ensures) c.loop-id.invariant
