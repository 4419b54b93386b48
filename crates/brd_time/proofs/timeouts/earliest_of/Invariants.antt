-- No tick of those that have been seen comes before the one that is kept.
use Rattle.std.proofs.Common.{◌<◌, ◌≤◌, ℕ}
use Rattle.std.specs.Prelude.{slice_index_or}
use Rattle.brd_time.proofs.timeouts.earliest_of.Given as goal

abbrev pub invariant-loop-due : goal.invariant-loop-due
invariant-loop-due l = (id : ℕ) → id < l.due-index → l.earliest ≤ slice_index_or l.dues id 0
