-- The board is none of the ends so far.
use Rattle.std.specs.Prelude.{◌≡◌, false, take}
use Rattle.std.specs.List.{list_any}
use Rattle.brd_explore.specs.Failures.{is_ending}
use Rattle.brd_explore.proofs.wanted.is_listed.Given as goal

abbrev pub invariant-loop-ending : goal.invariant-loop-ending
invariant-loop-ending l = list_any (is_ending l.board l.words) (take l.ending-index l.finals) ≡ false
