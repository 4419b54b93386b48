-- The twins so far are twins, and the other rows are as all of them are.
use Rattle.std.proofs.Common.{All, IfOk, List}
use Rattle.brd_explore.specs.Schedules.{Place}
use Rattle.brd_lazy.specs.declared.finds.Find.{Find}
use Rattle.brd_lazy.specs.Finds.{IsTwin}
use Rattle.brd_lazy.proofs.twins.in_one.Given as goal

abbrev pub invariant-loop-row : goal.invariant-loop-row
invariant-loop-row l =
    (spots : List Place) (finds : List Find) → All (λ row. IfOk row (λ twins. All (IsTwin spots finds) twins.items)) l.fn.rows.items →
    All (λ row. IfOk row (λ twins. All (IsTwin spots finds) twins.items)) l.row-iterator.rest.items
    × All (IsTwin spots finds) l.twins.items
