-- The twins so far are twins.
use Rattle.std.proofs.Common.{All}
use Rattle.brd_lazy.specs.Finds.{IsTwin}
use Rattle.brd_lazy.proofs.twins.twins_row.Given as goal

abbrev pub invariant-loop-at : goal.invariant-loop-at
invariant-loop-at l = All (IsTwin l.spots l.finds) l.twins.items
