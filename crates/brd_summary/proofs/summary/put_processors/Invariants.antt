-- The processors before this one are put at the end.
use Rattle.std.proofs.Common.{◌≤◌, ◌-◌}
use Rattle.std.specs.List.{range_with_len}
use Rattle.brd_listing.specs.Listing.{IsBehind}
use Rattle.brd_summary.specs.Summary.{IsKnownProcessor}
use Rattle.brd_summary.specs.Texts.{AreTexts}
use Rattle.brd_summary.proofs.summary.put_processors.Given as goal

abbrev pub invariant-loop-cpu : goal.invariant-loop-cpu
invariant-loop-cpu l = record {
  least : 1 ≤ l.cpu;
  most : l.cpu ≤ 9;
  put : IsBehind (AreTexts (IsKnownProcessor l.names l.steps l.tracer.notes) (range_with_len 1 (l.cpu - 1)))
      l.fn.out.items l.out.items;
}
