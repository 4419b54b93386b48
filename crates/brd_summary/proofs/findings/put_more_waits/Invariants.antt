-- What is there, with those that are left, is what there was, and all of them.
use Rattle.std.proofs.Common.{◌≡◌, ◌++◌, drop}
use Rattle.std.specs.List.{flat_map}
use Rattle.brd_summary.specs.Findings.{next_text}
use Rattle.brd_summary.proofs.findings.put_more_waits.Given as goal

abbrev pub invariant-loop-wait : goal.invariant-loop-wait
invariant-loop-wait l =
    l.out.items ++ flat_map (next_text l.units) (drop l.wait-index l.waits) ≡ l.fn.out.items ++ flat_map (next_text l.units) l.waits
