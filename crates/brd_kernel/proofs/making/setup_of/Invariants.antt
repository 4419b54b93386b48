-- What was passed is of another line.
use Rattle.std.proofs.Common.{◌≡◌, drop}
use Rattle.brd_kernel.specs.Making.{setup_of}
use Rattle.brd_kernel.proofs.making.setup_of.Given as goal

abbrev pub invariant-loop-setup : goal.invariant-loop-setup
invariant-loop-setup l = setup_of l.setups l.line ≡ setup_of (drop l.setup-index l.setups) l.line
