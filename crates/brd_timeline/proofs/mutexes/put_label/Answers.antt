use Rattle.std.proofs.Common.{◌+◌, codes}
use Rattle.brd_timeline.specs.Bars.{ink_text}
use Rattle.brd_timeline.proofs.EventLemmas.{on_ok}
use Rattle.brd_timeline.proofs.TextLemmas.{goes_on_itself, goes_on_put, goes_on_by}
use Rattle.brd_timeline.proofs.mutexes.put_label.Goals as goal

pub returns : goal.returns
returns c =
    let old = c.args.to.now.items in
    let begun = c.put_ink.new.to.items in
    let named = c.put_task.new.to.items in
    let begins = goes_on_put old old begun (ink_text (codes "#000000") (c.args.x + 30) (c.args.y + 140)) (goes_on_itself old) c.in_ok-put_ink.ensures in
    on_ok c.put.result (goes_on_put old named c.put.new.to.items (codes "</text>\n") (goes_on_by old begun named begins c.in_ok-put_task.ensures))
    c.put.ensures
