-- the steps of the processors so far
use Rattle.std.proofs.Common.{◌≡◌, ◌-◌}
use Rattle.brd_running.specs.Turns.{steps_to}
use Rattle.brd_running.proofs.turns.Turns.of.Given as goal

abbrev pub invariant-loop-cpu : goal.invariant-loop-cpu
invariant-loop-cpu g l = l.steps ≡ steps_to l.station (l.cpu - 1)
