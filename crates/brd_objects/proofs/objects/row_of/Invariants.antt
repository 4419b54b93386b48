-- What was passed has another ID.
use Rattle.std.proofs.Common.{◌≡◌, drop}
use Rattle.std.specs.Prelude.{◌==◌, find}
use Rattle.brd_objects.proofs.objects.row_of.Given as goal

abbrev pub invariant-loop-config : goal.invariant-loop-config
invariant-loop-config g l = find (λ config. g.T.Object.id_of config == l.id) l.configs ≡ find (λ config. g.T.Object.id_of config == l.id) (drop l.config-index l.configs)
