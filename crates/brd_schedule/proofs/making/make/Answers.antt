use Rattle.std.proofs.Common.{◌∙◌, ◌+◌, arith}
use Rattle.brd_schedule.proofs.MadeLemmas.{counted_next, ends_making, few_steps, made_next, one_more_of, planned, same-limit, same-order}
use Rattle.brd_schedule.proofs.making.make.Goals as goal

pub loop-before-preserved : goal.loop-before-preserved
loop-before-preserved c =
    let plan = c.args.plan.now in
    let journal = c.loop-before.journal in
    let next = c.push.new.self in
    let event = c.next_event-event.result in
    let taken = c.in-Ok.ensures.appended in
    let kept = c.loop-before.invariant in
    let made =
    one_more_of plan c.loop-before.before journal next event taken kept.len kept.planned
    (rw c.next_event-event.ensures.is (planned plan c.loop-before.steps (c.loop-before.before + 1) c.requires)) in
    record {
      len = made.0;
      planned = made.1;
      order = same-order journal next event taken ∙ kept.order;
      limit = same-limit journal next event taken ∙ kept.limit;
      exact = made_next plan c.loop-before.before c.loop-before.steps journal next event taken kept.exact kept.steps c.next_event-event.ensures.is;
      steps = counted_next plan c.loop-before.before c.loop-before.steps c.next_event-event.new.steps kept.steps c.next_event-event.ensures.steps;
      few = omega (arith, c.next_event-event.ensures.steps, few_steps plan (c.loop-before.before + 1) c.loop-before.steps, kept.few);
      chooser = c.next_event-event.ensures.after;
    }

pub returns-in-Err-clause-fault : goal.returns-in-Err-clause-fault
returns-in-Err-clause-fault c =
    ends_making c.args.plan.now c.loop-before.before c.loop-before.journal c.push.new.self c.next_event-event.result c.in-Err.fault c.in-Err.ensures.appended
    c.loop-before.invariant.limit c.loop-before.invariant.len c.loop-before-test.true
