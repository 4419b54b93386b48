-- What is there, with those that are left, is what there was, and all of them.
use Rattle.std.proofs.Common.{◌≡◌, ◌++◌, drop}
use Rattle.std.specs.Prelude.{codes}
use Rattle.std.specs.List.{flat_map}
use Rattle.brd_summary.specs.Findings.{holder_text}
use Rattle.brd_summary.proofs.findings.put_more_holders.Given as goal

abbrev pub invariant-loop-unit : goal.invariant-loop-unit
invariant-loop-unit l =
    l.out.items ++ flat_map (holder_text (codes " and task")) (drop l.unit-index l.units) ≡ l.fn.out.items ++ flat_map (holder_text (codes " and task")) l.units
