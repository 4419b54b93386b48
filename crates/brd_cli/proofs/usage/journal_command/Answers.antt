use Rattle.std.proofs.Common.{◌∙◌, ◌≡◌, ap, ap₂, codes, refl}
use Rattle.clap.specs.Words.{App, app_of, new_app, with_rule, with_subcommand}
use Rattle.brd_cli.proofs.usage.journal_command.Goals as goal

pub returns : goal.returns
returns c = λ old new adds.
    let none : app_of c.after_help.result ≡ new_app (codes "journal") = rw c.after_help.ensures (rw c.about.ensures c.new.ensures.app) in
    let with_1 = c.in_ok-arg.ensures.shape c.number.ensures.own ∙ ap₂ with_rule none c.number.ensures.rule in
    let with_2 = c.in_ok-arg-2.ensures.shape c.needed_count.ensures.own ∙ ap₂ with_rule with_1 c.needed_count.ensures.rule in
    let with_3 = c.in_ok-arg-3.ensures.shape c.count.ensures.own ∙ ap₂ with_rule with_2 c.count.ensures.rule in
    let with_4 = c.in_ok-arg-4.ensures.shape c.count-2.ensures.own ∙ ap₂ with_rule with_3 c.count-2.ensures.rule in
    let with_5 = c.in_ok-arg-5.ensures.shape c.count-3.ensures.own ∙ ap₂ with_rule with_4 c.count-3.ensures.rule in
    let with_6 = c.in_ok-arg-6.ensures.shape c.option.ensures.own ∙ ap₂ with_rule with_5 c.option.ensures.rule in
    let with_7 = c.in_ok-arg-7.ensures.shape c.count-4.ensures.own ∙ ap₂ with_rule with_6 c.count-4.ensures.rule in
    let with_8 = c.in_ok-arg-8.ensures.shape c.count-5.ensures.own ∙ ap₂ with_rule with_7 c.count-5.ensures.rule in
    let with_9 = c.in_ok-arg-9.ensures.shape c.option-2.ensures.own ∙ ap₂ with_rule with_8 c.option-2.ensures.rule in
    let with_10 = c.in_ok-command.ensures.shape c.option-3.ensures.own ∙ ap₂ with_rule with_9 c.option-3.ensures.rule in
    adds.shape (rw (
      c.in_ok-command.ensures.globals,
      c.option-3.ensures.own,
      c.in_ok-arg-9.ensures.globals,
      c.option-2.ensures.own,
      c.in_ok-arg-8.ensures.globals,
      c.count-5.ensures.own,
      c.in_ok-arg-7.ensures.globals,
      c.count-4.ensures.own,
      c.in_ok-arg-6.ensures.globals,
      c.option.ensures.own,
      c.in_ok-arg-5.ensures.globals,
      c.count-3.ensures.own,
      c.in_ok-arg-4.ensures.globals,
      c.count-2.ensures.own,
      c.in_ok-arg-3.ensures.globals,
      c.count.ensures.own,
      c.in_ok-arg-2.ensures.globals,
      c.needed_count.ensures.own,
      c.in_ok-arg.ensures.globals,
      c.number.ensures.own,
      c.after_help.ensures,
      c.about.ensures,
      c.new.ensures.local,
    ) refl)
    ∙ ap (λ (form : App). with_subcommand (app_of old) form.top) with_10
