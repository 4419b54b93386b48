-- The lanes so far have seen what goes on, and the others are as they were.
use Rattle.brd_recording.specs.Lanes.{lanes_of}
use Rattle.brd_recording.specs.Recording.{doings_in}
use Rattle.brd_recording.proofs.LanesLemmas.{SeesUpTo}
use Rattle.brd_recording.proofs.recording.Recording.see.Given as goal

abbrev pub invariant-loop-lane : goal.invariant-loop-lane
invariant-loop-lane l =
    SeesUpTo l.at (doings_in l.known.is_off l.known.standings.now.of l.known.tasks.now l.fn.self.processors.items) (lanes_of l.fn.self)
    (lanes_of l.self) l.lane
