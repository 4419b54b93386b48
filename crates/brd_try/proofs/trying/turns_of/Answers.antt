use Rattle.std.proofs.Common.{◌∙◌, refl}
use Rattle.brd_schedule.specs.declared.plan.Plan.{Plan}
use Rattle.brd_schedule.specs.declared.plan.Rule.TheVariants.{InTurns}
use Rattle.brd_try.proofs.TryLemmas.{taken, unmade, untaken}
use Rattle.brd_try.proofs.trying.turns_of.Goals as goal

pub returns-in-Err : goal.returns-in-Err
returns-in-Err c =
    let plan : Plan = record {
      cpus = c.args.cpus;
      events = c.args.options.steps;
      tick_every = c.args.options.tick_every;
      raises = c.as_slice.result;
      rule = InTurns 1;
    } in
    rw c.fault_of.ensures (unmade c.args.options plan c.in-Err.fault refl c.in-Err.ensures.fault)

pub returns-in-Ok-take_turns : goal.returns-in-Ok-take_turns
returns-in-Ok-take_turns c =
    let plan : Plan = record {
      cpus = c.args.cpus;
      events = c.args.options.steps;
      tick_every = c.args.options.tick_every;
      raises = c.as_slice.result;
      rule = InTurns 1;
    } in
    taken c.args.options c.args.board.now c.args.cpus plan c.in-Ok.events c.in-Ok-take_turns.turned c.requires.count
    (record {
      cpus = c.requires.count;
      events = refl;
      ticks = refl;
      raises = c.as_slice.ensures.value ∙ c.new-none.ensures.items;
      rule = refl;
    })
    c.in-Ok.ensures.exact (c.in-Ok.ensures.order ∙ c.order.ensures)
    (rw c.in_ok-boot.ensures at c.in-Ok-take_turns.ensures)

pub returns : goal.returns
returns c =
    rw c.fault_of-in-Err-take_turns.ensures
    (untaken c.args.options c.in-Ok.events c.in-Err-take_turns.fault c.in-Ok.ensures.made.0 c.in-Err-take_turns.ensures)
