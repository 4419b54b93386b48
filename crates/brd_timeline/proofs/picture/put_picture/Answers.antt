use Rattle.std.proofs.Common.{codes}
use Rattle.brd_timeline.specs.Bars.{slices_text}
use Rattle.brd_timeline.proofs.EventLemmas.{on_ok, ends}
use Rattle.brd_timeline.proofs.TextLemmas.{goes_on_put, goes_on_by, holds}
use Rattle.brd_timeline.proofs.picture.put_picture.Goals as goal

pub returns-clause-slices : goal.returns-clause-slices
returns-clause-slices c =
    let before = c.put_lanes.new.to.items in
    let slices = c.put_slices.new.to.items in
    let locks = c.put_locks.new.to.items in
    let mutexes = c.put_mutexes.new.to.items in
    let turns = c.put_turns.new.to.items in
    let marks = c.put_marks.new.to.items in
    let new = c.put.new.to.items in
    let behind = goes_on_by slices turns marks (goes_on_by slices mutexes turns
    (goes_on_by slices locks mutexes c.in_ok-put_locks.ensures c.in_ok-put_mutexes.ensures) c.in_ok-put_turns.ensures)
    c.in_ok-put_marks.ensures in
    on_ok c.put.result (λ e. holds before slices new (slices_text c.args.timeline.now) c.in_ok-put_slices.ensures
    (goes_on_put slices marks new (codes "</svg>\n") behind e)) c.put.ensures

pub returns-clause-ends : goal.returns-clause-ends
returns-clause-ends c = ends c.put.result c.put_marks.new.to.items c.put.new.to.items (codes "</svg>\n") c.put.ensures
