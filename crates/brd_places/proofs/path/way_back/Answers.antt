use Rattle.std.proofs.Common.{◌≡◌, arith}
use Rattle.std.specs.Prelude.{slice_get, Some, None}
use Rattle.brd_places.specs.Places.{board_at, places_of}
use Rattle.brd_places.proofs.PathLemmas.{goes_back, begins_back, came_back}
use Rattle.brd_places.proofs.path.way_back.Goals as goal

pub returns-then-parent-at : goal.returns-then-parent-at
returns-then-parent-at c = λ start.
    let has : Some c.in-Some.entry ≡ slice_get c.args.entries.now c.loop-entry.at = cc c.in-Some.ensures in
    begins_back start (board_at start (places_of start c.args.entries.now) c.args.i) c.args.entries.now c.loop-entry.at c.in-Some.entry
    c.loop-entry.back.items c.push.new.self.items (c.loop-entry.invariant start) c.in_ok-push.ensures.items has (omega arith)

pub loop-entry-preserved : goal.loop-entry-preserved
loop-entry-preserved c = λ start.
    let has : Some c.in-Some.entry ≡ slice_get c.args.entries.now c.loop-entry.at = cc c.in-Some.ensures in
    goes_back start (board_at start (places_of start c.args.entries.now) c.args.i) c.args.entries.now c.loop-entry.at c.in-Some.entry
    c.loop-entry.back.items c.push.new.self.items (c.loop-entry.invariant start) c.in_ok-push.ensures.items has (omega arith)

pub returns : goal.returns
returns c = λ start.
    let none : None ≡ slice_get c.args.entries.now c.loop-entry.at = cc c.in_default.ensures in
    came_back start (board_at start (places_of start c.args.entries.now) c.args.i) c.args.entries.now c.loop-entry.at
    c.loop-entry.back.items (c.loop-entry.invariant start) none
