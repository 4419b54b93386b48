use Rattle.std.proofs.Common.{◌∙◌, refl, sym, ap}
use Rattle.brd_journal.specs.Text.{text_of}
use Rattle.brd_word.specs.declared.order.Order.{Order}
use Rattle.brd_schedule.specs.declared.plan.Plan.{Plan}
use Rattle.brd_command.specs.JournalCommand.{raises_text}
use Rattle.brd_command.specs.JournalTexts.{SaysRaises}
use Rattle.brd_command.proofs.JournalLemmas.{journal_made}
use Rattle.brd_command.proofs.journal_command.journal_text.Goals as goal

pub returns : goal.returns
returns c =
    let plan : Plan = record {
      cpus = c.in-Some.cpus;
      events = c.args.events;
      tick_every = c.args.options.tick_every;
      raises = c.as_slice.result;
      rule = c.in-Ok-rule_of.rule;
    } in
    let raises : SaysRaises (raises_text c.args.options) c.as_slice.result.now = rw c.as_slice.ensures.value c.in-Ok.ensures in
    journal_made c.args.cpus c.args.events c.args.options plan c.in-Ok-made.journal.events c.in-Some-order.order c.in_ok-text.text.items
    c.in-Some.ensures.count.0 refl refl (sym c.in-Some.ensures.exact) c.in-Some-order.is raises c.in-Ok-rule_of.ensures.0 c.in-Ok-rule_of.ensures.1
    c.in-Ok-made.ensures.0 c.in-Ok-made.ensures.1
    (c.in_ok-text.ensures.is ∙ ap (λ (order : Order). text_of order c.in-Ok-made.journal.events) c.in-Ok-made.ensures.2)
