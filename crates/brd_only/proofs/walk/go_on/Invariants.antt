-- The events so far have led here.
use Rattle.brd_spots.specs.Spots.{spot_of}
use Rattle.brd_only.specs.Finding.{HasWalked}
use Rattle.brd_only.proofs.walk.go_on.Given as goal

abbrev pub invariant-loop-count : goal.invariant-loop-count
invariant-loop-count l =
    HasWalked l.among l.regions l.wanted (spot_of l.fn.board l.fn.margin) l.event (spot_of l.board l.here) l.count
