-- The events so far are within the bounds, and have led to the board.
use Rattle.brd_explore.specs.Schedules.{start}
use Rattle.brd_spots.specs.Spots.{spot_of}
use Rattle.brd_spots.proofs.PlayLemmas.{HasPlayed}
use Rattle.brd_spots.proofs.playing.is_found.Given as goal

abbrev pub invariant-loop-event : goal.invariant-loop-event
invariant-loop-event l =
    HasPlayed l.among (start l.fn.board l.fn.bounds) l.events l.event-index (spot_of l.there l.margin)
