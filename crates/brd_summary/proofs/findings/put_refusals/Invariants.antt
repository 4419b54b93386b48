-- The kinds so far are put at the end.
use Rattle.std.proofs.Common.{take}
use Rattle.brd_listing.specs.Listing.{IsBehind}
use Rattle.brd_summary.specs.Findings.{IsRefused}
use Rattle.brd_summary.specs.Texts.{AreTexts}
use Rattle.brd_summary.proofs.findings.put_refusals.Given as goal

abbrev pub invariant-loop-i : goal.invariant-loop-i
invariant-loop-i l = IsBehind (AreTexts (IsRefused l.names) (take l.i l.kinds)) l.fn.out.items l.out.items
