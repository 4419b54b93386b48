-- There was no object in what was passed.
use Rattle.std.proofs.Common.{◌≡◌, take, None}
use Rattle.std.specs.Prelude.{All}
use Rattle.brd_objects.proofs.objects.are_empty.Given as goal

abbrev pub invariant-loop-row : goal.invariant-loop-row
invariant-loop-row g l = All (λ row. row ≡ None) (take l.row-index l.rows)
