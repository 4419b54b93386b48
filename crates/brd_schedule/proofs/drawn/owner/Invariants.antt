-- What is left of the number belongs to a share of the weights that are left.
use Rattle.std.proofs.Common.{◌≡◌, ◌+◌, drop}
use Rattle.brd_schedule.specs.Steps.{owner}
use Rattle.brd_schedule.proofs.drawn.owner.Given as goal

abbrev pub invariant-loop-weight : goal.invariant-loop-weight
invariant-loop-weight l =
    (owner l.cpu (drop l.weight-index l.weights) l.left ≡ owner 1 l.weights l.number) × (l.cpu ≡ l.weight-index + 1)
