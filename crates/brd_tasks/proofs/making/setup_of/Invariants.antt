-- What was passed has another ID.
use Rattle.std.proofs.Common.{◌≡◌, drop}
use Rattle.std.specs.Prelude.{◌==◌, find}
use Rattle.brd_tasks.proofs.making.setup_of.Given as goal

abbrev pub invariant-loop-setup : goal.invariant-loop-setup
invariant-loop-setup l = find (λ setup. setup.id == l.id) l.setups ≡ find (λ setup. setup.id == l.id) (drop l.setup-index l.setups)
