use Rattle.std.proofs.Common.{rules, sym, ap, ◌∙◌, arith, length}
use Rattle.brd_text.proofs.Runs.{blank_step, line_comment_step, block_comment_step}
use Rattle.brd_text.proofs.gap.after_gap.Goals as goal

pub loop-byte-preserved-then-is_blank : goal.loop-byte-preserved-then-is_blank
loop-byte-preserved-then-is_blank c = record {
  same = rw c.line_after-at.ensures.number (blank_step c.loop-byte.at c.in-Some.byte.now c.loop-byte.left.now c.in-Some.after.now c.in-Some.ensures.cases.0 (sym c.is_blank.ensures ∙ c.if-is_blank.true) ∙ c.loop-byte.invariant.same);
  room = omega (arith, c.line_after-at.ensures.near, c.loop-byte.invariant.room, ap length c.in-Some.ensures.cases.0);
}

pub loop-byte-preserved-in-Some-behind : goal.loop-byte-preserved-in-Some-behind
loop-byte-preserved-in-Some-behind c = record {
  same =
      sym (c.line_end-left.ensures.same c.loop-byte.at)
      ∙ line_comment_step c.loop-byte.at c.in-Some.byte.now c.loop-byte.left.now c.in-Some.after.now c.in-Some-behind.comment.now (search rules) c.in-Some.ensures.cases.0 c.in-Some-behind.ensures.found
      ∙ c.loop-byte.invariant.same;
  room = omega (arith, c.line_end-left.ensures.room, c.loop-byte.invariant.room, ap length c.in-Some.ensures.cases.0, ap length c.in-Some-behind.ensures.found);
}

pub returns-in-Open-clause-same : goal.returns-in-Open-clause-same
returns-in-Open-clause-same c =
    sym c.loop-byte.invariant.same
    ∙ sym (block_comment_step c.loop-byte.at c.in-Some.byte.now c.loop-byte.left.now c.in-Some.after.now c.in-Some-behind-2.comment.now (search rules) c.in-Some.ensures.cases.0 c.in-Some-behind-2.ensures.found)
    ∙ c.in-Open.ensures.same

pub loop-byte-preserved : goal.loop-byte-preserved
loop-byte-preserved c = record {
  same =
      sym c.in-Closed.ensures.same
      ∙ block_comment_step c.loop-byte.at c.in-Some.byte.now c.loop-byte.left.now c.in-Some.after.now c.in-Some-behind-2.comment.now (search rules) c.in-Some.ensures.cases.0 c.in-Some-behind-2.ensures.found
      ∙ c.loop-byte.invariant.same;
  room = omega (arith, c.in-Closed.ensures.room, c.loop-byte.invariant.room, ap length c.in-Some.ensures.cases.0, ap length c.in-Some-behind-2.ensures.found);
}
