-- None of those so far is.
use Rattle.std.specs.Prelude.{◌≡◌, false}
use Rattle.brd_explore.specs.Failures.{some_below, is_due}
use Rattle.brd_explore.proofs.wanted.some_handlers_are_due.Given as goal

abbrev pub invariant-loop-place : goal.invariant-loop-place
invariant-loop-place l = some_below l.place (is_due l.board) ≡ false
