-- the best of the processors so far, and how many these are
use Rattle.std.proofs.Common.{◌≡◌, ◌+◌, ◌≤◌, drop}
use Rattle.brd_schedule.specs.Steps.{highest_from}
use Rattle.brd_schedule.proofs.lowered.highest.Given as goal

abbrev pub invariant-loop-priority : goal.invariant-loop-priority
invariant-loop-priority l =
    (highest_from l.cpus l.cpu l.best l.most (drop l.priority-index l.priorities) ≡ highest_from l.cpus 1 1 0 l.priorities)
    × (l.cpu ≡ l.priority-index + 1) × (1 ≤ l.best) × (l.best ≤ 8)
