-- the sum of the weights so far
use Rattle.std.proofs.Common.{◌≡◌, ◌-◌, ◌^◌, min, take}
use Rattle.std.specs.List.{sum}
use Rattle.brd_schedule.proofs.drawn.total.Given as goal

abbrev pub invariant-loop-weight : goal.invariant-loop-weight
invariant-loop-weight l = l.total ≡ min (sum (take l.weight-index l.weights)) (2 ^ 32 - 1)
