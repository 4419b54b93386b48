use Rattle.brd_explore.proofs.PartLemmas.{part-self, part-both}
use Rattle.brd_explore.proofs.shrinking.leave_out_stretches.Goals as goal

pub loop-size-init : goal.loop-size-init
loop-size-init c = record { fails = c.requires.fails; part = part-self c.args.events.now.items; alike = c.requires.alike }

pub returns-in_err-leave_out_by-clause-part : goal.returns-in_err-leave_out_by-clause-part
returns-in_err-leave_out_by-clause-part c = part-both c.leave_out_by.new.events.items c.loop-size.events.items c.args.events.now.items
    c.leave_out_by.ensures.part c.loop-size.invariant.part

pub loop-size-preserved : goal.loop-size-preserved
loop-size-preserved c = record {
  fails = c.in_ok-leave_out_by.ensures.fails;
  part = part-both c.leave_out_by.new.events.items c.loop-size.events.items c.args.events.now.items c.leave_out_by.ensures.part c.loop-size.invariant.part;
  alike = c.leave_out_by.ensures.alike;
}
