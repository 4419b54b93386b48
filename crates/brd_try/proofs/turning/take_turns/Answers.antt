use Rattle.std.proofs.Common.{◌∙◌, arith, inl, inr, sym, refl, ap, List, length, []}
use Rattle.brd_board.specs.declared.event.Event.{Event}
use Rattle.brd_word.specs.declared.order.Order.{Order}
use Rattle.brd_journal.specs.Journal.{JournalState, most_runs}
use Rattle.brd_try.proofs.TurningLemmas.{few_taken, none_past, turned_next, turned_none, turned_whole, unturned}
use Rattle.brd_try.proofs.turning.take_turns.Goals as goal

abbrev empty : Order → JournalState
empty order = record { limit = most_runs; order = order; events = [] }

pub loop-others-init : goal.loop-others-init
loop-others-init c =
    turned_none c.args.boot c.args.tasks c.args.events.now _ refl (c.new.ensures ∙ ap empty c.order.ensures) refl

pub loop-others-preserved : goal.loop-others-preserved
loop-others-preserved c =
    turned_next c.args.boot c.args.tasks c.args.events.now c.loop-others.others c.loop-others.turned c.turn.new.self
    c.in-Some.event c.loop-others.invariant (omega (arith, c.loop-others-test.true, c.len-others-end.ensures.len))
    (sym c.is_over.ensures ∙ c.if-is_over.false) (sym c.event_at.ensures ∙ c.in-Some.is) c.in-Ok.ensures.journal
    c.in-Ok.ensures.board c.in-Ok.ensures.steps

pub returns-then-is_over : goal.returns-then-is_over
returns-then-is_over c =
    turned_whole c.args.boot c.args.tasks c.args.events.now c.loop-others.others c.loop-others.turned
    c.loop-others.invariant (inr (sym c.is_over.ensures ∙ c.if-is_over.true))

pub returns-in-None : goal.returns-in-None
returns-in-None c =
    turned_whole c.args.boot c.args.tasks c.args.events.now c.loop-others.others c.loop-others.turned
    c.loop-others.invariant
    (inl (omega (
      arith,
      none_past c.args.events.now.events c.loop-others.others (sym c.event_at.ensures ∙ c.in-None.is),
      c.loop-others-test.true,
      c.len-others-end.ensures.len,
    )))

pub returns-in-Err : goal.returns-in-Err
returns-in-Err c =
    unturned c.args.events.now c.loop-others.turned.journal c.turn.new.self.journal c.loop-others.others
    c.in-Some.event c.in-Err.fault c.in-Err.ensures.journal c.loop-others.invariant.limit
    (omega (
      arith,
      ap (λ (es : List Event). length es) c.loop-others.invariant.taken,
      few_taken c.args.events.now.events c.loop-others.others,
    ))
    (omega (arith, c.loop-others-test.true, c.len-others-end.ensures.len))
