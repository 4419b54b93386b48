-- The parts so far are done.
use Rattle.std.proofs.Common.{◌<◌, ℕ, Contains}
use Rattle.brd_crew.proofs.crew.are_all.Given as goal

abbrev pub invariant-loop-part : goal.invariant-loop-part
invariant-loop-part l = (part : ℕ) → part < l.part → Contains l.done part
