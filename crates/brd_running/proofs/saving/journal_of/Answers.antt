use Rattle.brd_running.proofs.SavingLemmas.{kept_from, taken_few}
use Rattle.brd_running.proofs.saving.journal_of.Goals as goal

pub returns-in-Err : goal.returns-in-Err
returns-in-Err c =
    kept_from c.loop-event.journal c.push.new.self _ c.args.events.now c.loop-event.event-index c.in-Err.fault
    c.in-Err.ensures.appended c.loop-event.invariant.limit
    (taken_few c.args.events.now c.loop-event.journal.events c.loop-event.event-index c.loop-event.invariant.events)
    c.loop-event-test.true
