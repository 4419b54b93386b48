-- What is there, with those that are left, is what there was, and all of them.
use Rattle.std.proofs.Common.{◌≡◌, ◌++◌, drop}
use Rattle.std.specs.List.{flat_map}
use Rattle.brd_summary.specs.Findings.{lost_text}
use Rattle.brd_summary.proofs.findings.put_losses.Given as goal

abbrev pub invariant-loop-line : goal.invariant-loop-line
invariant-loop-line l =
    l.out.items ++ flat_map lost_text (drop l.line-index l.lines) ≡ l.fn.out.items ++ flat_map lost_text l.lines
