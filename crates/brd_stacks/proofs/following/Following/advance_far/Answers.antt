use Rattle.std.proofs.Common.{rules, arith}
use Rattle.brd_stacks.proofs.following.Following.advance_far.Goals as goal

pub returns-then-has_overflow-clause-followed : goal.returns-then-has_overflow-clause-followed
returns-then-has_overflow-clause-followed c = λ boot stacks is. c.in_ok-advance.ensures.followed boot stacks (c.loop-self.invariant.followed boot stacks is)

pub loop-self-preserved : goal.loop-self-preserved
loop-self-preserved c = record {
  on = search rules;
  start = grind arith;
  calm = search rules;
  followed = λ boot stacks is. c.in_ok-advance.ensures.followed boot stacks (c.loop-self.invariant.followed boot stacks is);
}
