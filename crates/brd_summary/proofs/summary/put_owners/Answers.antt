use Rattle.std.proofs.Common.{◌++◌, ap, ◌∙◌, arith}
use Rattle.brd_summary.specs.Summary.{owned_text, owner_text}
use Rattle.brd_summary.proofs.SummaryLemmas.{next-text, none-left}
use Rattle.brd_summary.proofs.summary.put_owners.Goals as goal

pub loop-mutex-preserved : goal.loop-mutex-preserved
loop-mutex-preserved c =
    next-text (owned_text c.args.board.now) c.loop-mutex.out.items c.put_owner.new.out.items _ c.loop-mutex.mutex 256
    (omega (arith, c.loop-mutex-test.true))
    (c.in_ok-put_owner.ensures
    ∙ ap (λ owner. c.loop-mutex.out.items ++ owner_text c.loop-mutex.mutex owner) c.mutex_owner.ensures)
    c.loop-mutex.invariant

pub returns : goal.returns
returns c =
    none-left (owned_text c.args.board.now) c.loop-mutex.out.items _ c.loop-mutex.mutex 256
    (omega (arith, c.loop-mutex-test.false)) c.loop-mutex.invariant
