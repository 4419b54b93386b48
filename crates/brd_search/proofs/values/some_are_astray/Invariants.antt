-- RAM has an aligned word at each address so far.
use Rattle.std.specs.Prelude.{◌≡◌, false, take}
use Rattle.std.specs.List.{list_any}
use Rattle.brd_search.specs.Plans.{is_astray}
use Rattle.brd_search.proofs.values.some_are_astray.Given as goal

abbrev pub invariant-loop-address : goal.invariant-loop-address
invariant-loop-address l = list_any (is_astray l.board) (take l.address-index l.words) ≡ false
