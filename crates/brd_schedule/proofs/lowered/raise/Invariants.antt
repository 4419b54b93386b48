-- Those so far are raised.
use Rattle.std.proofs.Common.{◌≡◌, ◌+◌, ◌-◌, ◌^◌, ◌++◌, map, min, take, drop}
use Rattle.brd_schedule.proofs.lowered.raise.Given as goal

abbrev pub invariant-loop-priority : goal.invariant-loop-priority
invariant-loop-priority l =
    l.priorities ≡ map (λ number. min (number + l.by) (2 ^ 32 - 1)) (take l.priority-index l.fn.priorities) ++ drop l.priority-index l.fn.priorities
