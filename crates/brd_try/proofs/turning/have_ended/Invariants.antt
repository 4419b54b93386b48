-- Whether the tasks so far have ended.
use Rattle.std.proofs.Common.{◌≡◌}
use Rattle.brd_try.specs.Turns.{have_ended}
use Rattle.brd_try.proofs.turning.have_ended.Given as goal

abbrev pub invariant-loop-before : goal.invariant-loop-before
invariant-loop-before l = l.ended ≡ have_ended l.board l.before
