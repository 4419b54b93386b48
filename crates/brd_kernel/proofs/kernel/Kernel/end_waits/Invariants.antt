-- What is left to be ended gives all of it.
use Rattle.std.proofs.Common.{◌≡◌, ◌≤◌, ◌-◌}
use Rattle.brd_time.specs.Time.{due_from}
use Rattle.brd_kernel.specs.Waits.{all_timed_out}
use Rattle.brd_kernel.proofs.kernel.Kernel.end_waits.Given as goal

abbrev pub invariant-loop-id : goal.invariant-loop-id
invariant-loop-id l = record {
  same : all_timed_out l.self (due_from l.self.time l.from) ≡ all_timed_out l.fn.self (due_from l.fn.self.time 0);
  within : l.from ≤ 256;
}

abbrev pub decreases-loop-id : goal.decreases-loop-id
decreases-loop-id l = 256 - l.from
