-- There are enough events to be shown in any case, and half as many each time.
use Rattle.brd_command.proofs.trace_command.Traced.last_page.Given as goal

abbrev pub invariant-loop-most : goal.invariant-loop-most
invariant-loop-most g l = Unit {0}

abbrev pub decreases-loop-most : goal.decreases-loop-most
decreases-loop-most g l = l.most
