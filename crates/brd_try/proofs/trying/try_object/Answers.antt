use Rattle.brd_try.proofs.TryLemmas.{of_building, of_turns, tried}
use Rattle.brd_try.proofs.trying.try_object.Goals as goal

pub returns-in-Err : goal.returns-in-Err
returns-in-Err c =
    of_building c.args.options c.args.object.now c.in_ok-text.text.items c.in-Some.cpus c.in-Err.fault
    c.in-Some.ensures.count.0 c.in_ok-text.ensures (rw c.deref.ensures.value at c.in-Err.ensures)

pub returns-in-Err-turns_of : goal.returns-in-Err-turns_of
returns-in-Err-turns_of c =
    of_turns c.args.options c.args.object.now c.in-Err-turns_of.fault c.in-Err-turns_of.ensures

pub returns : goal.returns
returns c =
    tried c.args.options c.args.object.now c.in_ok-text.text.items c.in_ok-journal.journal.items
    c.in_ok-told.told.items c.in-Some.cpus c.in-Ok.loaded c.in-Ok-turns_of.turned c.in-Some.ensures.count.0
    c.in_ok-text.ensures (rw c.deref.ensures.value at c.in-Ok.ensures) c.in-Ok-turns_of.ensures
    c.in_ok-journal.ensures.is c.in_ok-journal.ensures.again c.in_ok-told.ensures
