use Rattle.std.proofs.Common.{◌≡◌}
use Rattle.brd_kernel.specs.Making.{timers_below}
use Rattle.brd_kernel.proofs.making.all_timers_of.Given as goal

abbrev pub invariant-loop-place : goal.invariant-loop-place
invariant-loop-place l = l.made ≡ timers_below l.setups l.place
