-- None of the others so far is it.
use Rattle.std.specs.Prelude.{◌≡◌, false, take}
use Rattle.std.specs.List.{list_any}
use Rattle.brd_search.specs.Plans.{is_other}
use Rattle.brd_search.proofs.values.is_one_of.Given as goal

abbrev pub invariant-loop-other : goal.invariant-loop-other
invariant-loop-other l = list_any (is_other l.address) (take l.other-index l.others) ≡ false
