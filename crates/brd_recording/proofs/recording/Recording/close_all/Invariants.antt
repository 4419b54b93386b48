-- The lanes so far are closed, and the others are as they were.
use Rattle.brd_recording.specs.Lanes.{lanes_of}
use Rattle.brd_recording.proofs.LanesLemmas.{ClosesUpTo}
use Rattle.brd_recording.proofs.recording.Recording.close_all.Given as goal

abbrev pub invariant-loop-lane : goal.invariant-loop-lane
invariant-loop-lane l = ClosesUpTo l.to (lanes_of l.fn.self) (lanes_of l.self) l.lane
