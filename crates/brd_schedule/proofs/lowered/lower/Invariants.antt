-- The changes so far have lowered priorities.
use Rattle.std.proofs.Common.{◌≡◌, drop, length}
use Rattle.brd_schedule.specs.Steps.{lowered_by}
use Rattle.brd_schedule.proofs.lowered.lower.Given as goal

abbrev pub invariant-loop-at : goal.invariant-loop-at
invariant-loop-at l = record {
  same : lowered_by l.cpus l.steps l.number (drop l.at-index l.changes) l.priorities
      ≡ lowered_by l.cpus l.steps 0 l.changes l.fn.priorities;
  number : l.number ≡ l.at-index;
  eight : length l.priorities ≡ 8;
}
