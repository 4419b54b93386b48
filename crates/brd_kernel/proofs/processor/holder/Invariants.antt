-- Those that were passed don't hold the lock.
use Rattle.std.proofs.Common.{◌≡◌, drop}
use Rattle.brd_kernel.specs.Kernel.{holder_from}
use Rattle.brd_kernel.proofs.processor.holder.Given as goal

abbrev pub invariant-loop-cpu : goal.invariant-loop-cpu
invariant-loop-cpu l = holder_from l.id 0 l.processors ≡ holder_from l.id l.cpu (drop l.cpu l.processors)
