use Rattle.std.proofs.Common.{rules}
use Rattle.brd_command.proofs.stacks_command.play.Goals.{else-loop-following-test, then-loop-following-test+in_ok-advance_far+then-has_overflow}
use Rattle.brd_command.proofs.stacks_command.play.Goals as goal

pub loop-following-preserved : goal.loop-following-preserved
loop-following-preserved g c = record {
  on = search rules;
  calm = search rules;
  followed = λ boot stacks is. c.in_ok-advance_far.ensures.followed boot stacks (c.loop-following.invariant.followed boot stacks is);
}

pub returns-clause-followed : goal.returns-clause-followed
returns-clause-followed g c = λ boot stacks is.
    elim c.loop-following-test.branch [
      | else-loop-following-test w ↦ rw w.following-is (c.loop-following.invariant.followed boot stacks is)
      | then-loop-following-test+in_ok-advance_far+then-has_overflow w ↦
          rw w.following-is (w.in_ok-advance_far.ensures.followed boot stacks (c.loop-following.invariant.followed boot stacks is))
    ]
