use Rattle.std.proofs.Common.{codes}
use Rattle.brd_timeline.specs.Bars.{rect_text}
use Rattle.brd_timeline.proofs.EventLemmas.{on_ok}
use Rattle.brd_timeline.proofs.TextLemmas.{goes_on_itself, goes_on_put, goes_on_by}
use Rattle.brd_timeline.proofs.mutexes.put_owning.Goals as goal

pub returns : goal.returns
returns c =
    let old = c.args.to.now.items in
    let drawn = c.put_rect.new.to.items in
    let titled = c.put_hint.new.to.items in
    let begins = goes_on_put old old drawn (rect_text c.x_of-x.result c.mutex_y-y.result c.max.result 200 (codes "#c2a5cf")) (goes_on_itself old)
    c.in_ok-put_rect.ensures in
    on_ok c.put_label.result (goes_on_by old titled c.put_label.new.to.items (goes_on_by old drawn titled begins c.in_ok-put_hint.ensures))
    c.put_label.ensures
