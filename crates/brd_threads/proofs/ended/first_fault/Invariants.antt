-- the workers that are left, and the driver, have the fault of all
use Rattle.std.proofs.Common.{◌≡◌, drop}
use Rattle.brd_threads.specs.Races.{first_fault}
use Rattle.brd_threads.proofs.ended.first_fault.Given as goal

abbrev pub invariant-loop-worked : goal.invariant-loop-worked
invariant-loop-worked g l = first_fault (drop l.worked-index l.workers) l.driver ≡ first_fault l.fn.workers l.driver
