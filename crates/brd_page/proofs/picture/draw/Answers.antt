use Rattle.std.proofs.Common.{◌≡◌, List, [], length, refl, ap, arith}
use Rattle.std.specs.Prelude.{Result, Err}
use Rattle.brd_timeline.specs.declared.fault.PictureFault.{PictureFault}
use Rattle.brd_timeline.specs.declared.timeline.Mark.{Mark}
use Rattle.brd_timeline.specs.declared.timeline.Timeline.{Timeline}
use Rattle.brd_page.proofs.PictureLemmas.{all-in-lanes, keeps-from, still-slices}
use Rattle.brd_page.proofs.picture.draw.Goals as goal

-- Slices that have no lane are no part of what goes on.
pub returns-in-Ok : goal.returns-in-Ok
returns-in-Ok c = λ boot events from to are.
    let left = c.leave_out_strays.ensures in
    let it : Timeline = c.leave_out_strays.new.timeline in
    record {
      timeline = it;
      are_slices = still-slices boot events from to c.args.timeline it left.from left.to left.lanes left.slices are;
      bars = c.in-Ok.ensures.slices;
      ends = c.in-Ok.ensures.ends;
    }

-- Nor are marks.
pub returns-in-Ok-svg : goal.returns-in-Ok-svg
returns-in-Ok-svg c = λ boot events from to are.
    let left = c.leave_out_strays.ensures in
    let it : Timeline = record c.leave_out_strays.new.timeline { marks = c.clear.new.self } in
    record {
      timeline = it;
      are_slices = still-slices boot events from to c.args.timeline it left.from left.to left.lanes left.slices are;
      bars = c.in-Ok-svg.ensures.slices;
      ends = c.in-Ok-svg.ensures.ends;
    }

-- There are no marks, and still it is too much.
pub returns : goal.returns
returns c = λ boot events from to are.
    let left = c.leave_out_strays.ensures in
    let it : Timeline = record c.leave_out_strays.new.timeline { marks = c.clear.new.self } in
    keeps-from boot events from to c.in-Err.fault (λ is.
    let much = c.in-Err.ensures.much.0 (ap (λ (fault : PictureFault). Err fault) is) in
    let none = ap (λ (marks : List Mark). length marks) c.clear.ensures.items in
    record {
      timeline = it;
      are_slices = still-slices boot events from to c.args.timeline it left.from left.to left.lanes left.slices are;
      in_lanes = all-in-lanes boot events from to c.args.timeline it left.from left.to left.lanes left.slices;
      too_much = omega (arith, much, none);
    })
