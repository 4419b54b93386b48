-- The rows that were passed.
use Rattle.std.proofs.Common.{◌≡◌, take}
use Rattle.std.specs.Prelude.{map}
use Rattle.std.specs.Option.{option_map}
use Rattle.brd_objects.proofs.objects.saved.SavedObjects.restore.Given as goal

abbrev pub invariant-loop-row : goal.invariant-loop-row
invariant-loop-row g l = l.rows.items ≡ map (option_map g.T.Object.restored) (take l.row-index l.row-items)
