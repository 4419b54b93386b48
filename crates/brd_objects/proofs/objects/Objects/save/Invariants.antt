-- The rows that were passed.
use Rattle.std.proofs.Common.{◌≡◌, take}
use Rattle.std.specs.Prelude.{map}
use Rattle.std.specs.Option.{option_map}
use Rattle.brd_objects.proofs.objects.Objects.save.Given as goal

abbrev pub invariant-loop-row : goal.invariant-loop-row
invariant-loop-row g l = map (option_map g.T.Object.restored) l.rows.items ≡ take l.row-index l.row-items
