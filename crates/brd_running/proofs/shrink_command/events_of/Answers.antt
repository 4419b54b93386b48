use Rattle.std.proofs.Common.{rules, ◌≡◌, ◌≤◌, List, length, subst, sym}
use Rattle.brd_board.specs.declared.event.Event.{Event}
use Rattle.brd_running.proofs.ShrinkLemmas.{all_taken, stays_taken}
use Rattle.brd_running.proofs.shrink_command.events_of.Goals as goal

pub events-preserved : goal.events-preserved
events-preserved c =
    stays_taken c.args.journal.now.events c.events.events.items c.push.new.self.items c.len-in-events.result c.in-Some.event
    c.events.invariant (search rules) c.in-Some.ensures c.in-Ok.ensures.items

pub returns : goal.returns
returns c =
    let same : c.events.events.items ≡ c.args.journal.now.events =
    all_taken c.args.journal.now.events c.events.events.items c.len-in-events.result c.events.invariant (search rules) c.in_default.ensures in
    record {
      same = same;
      few = subst (λ (es : List Event). length es ≤ 1000000) (sym same) (search rules);
    }
