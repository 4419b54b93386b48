use Rattle.std.proofs.Common.{sym, subst}
use Rattle.std.specs.Prelude.{IfOk}
use Rattle.brd_board.specs.declared.event.Event.{Event}
use Rattle.brd_reach.specs.Rounds.{TriedSo, sharing_for}
use Rattle.brd_reach.proofs.RoundLemmas.{paid-result, tick-step, raise-step}
use Rattle.brd_reach.proofs.visit.try_event.Goals as goal

pub returns-in-Step-clause-so : goal.returns-in-Step-clause-so
returns-in-Step-clause-so c = λ among at.
    subst (λ (e : Event). IfOk c.try_step.result (TriedSo (sharing_for c.args.sharing.now c.args.wanted.now) among c.try_step.new.places c.args.left c.args.board.now e))
    (sym c.in-Step.is) (c.try_step.ensures.so among at)

pub returns-in-Tick-clause-so : goal.returns-in-Tick-clause-so
returns-in-Tick-clause-so c = λ among at.
    paid-result (sharing_for c.args.sharing.now c.args.wanted.now) among c.try_other.new.places c.args.left c.args.board.now c.args.event c.try_other.result
    (tick-step c.args.event c.in-Tick.is) (c.try_other.ensures.so at)

pub returns-in-Raise-clause-so : goal.returns-in-Raise-clause-so
returns-in-Raise-clause-so c = λ among at.
    paid-result (sharing_for c.args.sharing.now c.args.wanted.now) among c.try_other-in-Raise.new.places c.args.left c.args.board.now c.args.event c.try_other-in-Raise.result
    (raise-step c.args.event c.in-Raise.field-0 c.in-Raise.is) (c.try_other-in-Raise.ensures.so at)
