-- The tasks so far are put at the end.
use Rattle.std.proofs.Common.{take}
use Rattle.brd_listing.specs.Listing.{IsBehind}
use Rattle.brd_summary.specs.Summary.{IsTaskLine}
use Rattle.brd_summary.specs.Texts.{AreTexts}
use Rattle.brd_summary.proofs.summary.put_tasks.Given as goal

abbrev pub invariant-loop-i : goal.invariant-loop-i
invariant-loop-i l =
    IsBehind (AreTexts (IsTaskLine l.names) (take l.i l.tracer.notes.tasks.items)) l.fn.out.items l.out.items
