use Rattle.std.proofs.Common.{arith}
use Rattle.brd_explore.proofs.PartLemmas.{part-self, part-left-out}
use Rattle.brd_explore.proofs.ShrinkLemmas.{left-fails}
use Rattle.brd_explore.proofs.shrinking.leave_out_by.Goals as goal

pub loop-at-init : goal.loop-at-init
loop-at-init c = record { fails = c.requires.fails; part = part-self c.args.events.now.items; alike = c.requires.alike }

pub loop-at-preserved-in-Continue-branch-2 : goal.loop-at-preserved-in-Continue-branch-2
loop-at-preserved-in-Continue-branch-2 c = record {
  fails = left-fails c.args.wanted.now c.args.board.now c.as_slice.result.now c.loop-at.events.items c.leave_out.new.events.items c.loop-at.at
      c.end_of-to.result c.in_ok-fails_without.field-0 c.as_slice.ensures.value c.in_ok-fails_without.ensures.fails c.if-branch.true
      c.in_ok-leave_out.ensures.ok;
  part = part-left-out c.leave_out.new.events.items c.loop-at.events.items c.args.events.now.items c.loop-at.at c.end_of-to.result
      (omega (arith, c.end_of-to.ensures.0)) c.in_ok-leave_out.ensures.ok c.loop-at.invariant.part;
  alike = c.fails_without.ensures.alike;
}
