-- The processors below are dispatched, and the answer has their bits.
use Rattle.std.proofs.Common.{◌≡◌, ◌+◌, ◌<◌, ℕ}
use Rattle.std.specs.Prelude.{nat_lt, ◌&&◌, if◌then◌else◌}
use Rattle.std.specs.Int.{bit_at}
use Rattle.brd_kernel.specs.Dispatch.{dispatched, has_changed}
use Rattle.brd_kernel.proofs.DispatchLemmas.{dispatched_first}
use Rattle.brd_kernel.proofs.kernel.Kernel.dispatch.Given as goal

abbrev pub invariant-loop-cpu : goal.invariant-loop-cpu
invariant-loop-cpu l = record {
  is : l.self ≡ record l.fn.self { processors = dispatched_first l.cpu l.fn.self.tasks 0 l.fn.self.processors };
  bits : (j : ℕ) → j < 8 → bit_at l.changed j ≡ (if nat_lt (j + 1) l.cpu && has_changed l.fn.self (dispatched l.fn.self) (j + 1) then 1 else 0);
}
