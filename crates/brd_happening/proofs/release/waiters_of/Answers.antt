use Rattle.std.proofs.Common.{◌++◌, [], ap, ◌∙◌, arith}
use Rattle.std.specs.List.{cons_option}
use Rattle.brd_happening.specs.Release.{waiter_in}
use Rattle.brd_happening.proofs.ReleaseLemmas.{next-number}
use Rattle.brd_happening.proofs.release.waiters_of.Goals as goal

pub loop-id-preserved : goal.loop-id-preserved
loop-id-preserved c =
    next-number (waiter_in c.args.board.now) c.loop-id.waiters c.put_if.new.waiters _ c.loop-id.id 256
    (omega (arith, c.loop-id-test.true))
    (c.in_ok-put_if.ensures ∙ ap (λ o. c.loop-id.waiters ++ cons_option o []) c.waiter_in.ensures) c.loop-id.invariant
