use Rattle.std.proofs.Common.{codes}
use Rattle.brd_timeline.specs.Bars.{span_text}
use Rattle.brd_timeline.proofs.EventLemmas.{on_ok}
use Rattle.brd_timeline.proofs.TextLemmas.{goes_on_itself, goes_on_put, goes_on_by}
use Rattle.brd_timeline.proofs.mutexes.put_hint.Goals as goal

pub returns : goal.returns
returns c =
    let old = c.args.to.now.items in
    let opened = c.put.new.to.items in
    let named = c.put_task.new.to.items in
    let told = c.put-2.new.to.items in
    let begins = goes_on_put old old opened (codes "<title>") (goes_on_itself old) c.in_ok-put.ensures in
    let tells = goes_on_put old named told (codes " has it, ") (goes_on_by old opened named begins c.in_ok-put_task.ensures) c.in_ok-put-2.ensures in
    on_ok c.put_span.result (goes_on_put old told c.put_span.new.to.items (span_text c.args.it.from c.args.it.to) tells) c.put_span.ensures
