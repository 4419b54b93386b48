use Rattle.std.proofs.Common.{sym, ◌∙◌}
use Rattle.std.proofs.lemmas.Bool.{false≢true}
use Rattle.brd_verdicts.proofs.DeadlockLemmas.{deadlocked-by}
use Rattle.brd_verdicts.proofs.deadlock.is_deadlocked.Goals as goal

pub returns : goal.returns
returns c =
    deadlocked-by c.args.board.now c.no_step_does.result (sym c.is_off.ensures ∙ c.if-is_off.false)
    (c.some_waits.ensures.0 c.if-not-some_waits.false)
    (λ goes. false≢true (sym c.if-some_goes_on.false ∙ c.some_goes_on.ensures.1 goes))
    (λ due. false≢true (sym c.if-some_handler_is_due.false ∙ c.some_handler_is_due.ensures.1 due)) c.no_step_does.ensures
