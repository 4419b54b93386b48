-- What was passed isn't pending for the processor.
use Rattle.std.proofs.Common.{◌≡◌, drop}
use Rattle.brd_kernel.specs.Kernel.{pending_from}
use Rattle.brd_kernel.proofs.lines.first_pending.Given as goal

abbrev pub invariant-loop-n : goal.invariant-loop-n
invariant-loop-n l = pending_from l.cpu 0 l.lines ≡ pending_from l.cpu l.n (drop l.n l.lines)
