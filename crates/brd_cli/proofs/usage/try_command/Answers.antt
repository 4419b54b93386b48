use Rattle.std.proofs.Common.{◌∙◌, ◌≡◌, ap, ap₂, codes, refl}
use Rattle.clap.specs.Words.{App, app_of, new_app, with_rule, with_subcommand}
use Rattle.brd_cli.proofs.usage.try_command.Goals as goal

pub returns : goal.returns
returns c = λ old new adds.
    let none : app_of c.after_help.result ≡ new_app (codes "try") = rw c.after_help.ensures (rw c.about.ensures c.new.ensures.app) in
    let with_1 = c.in_ok-arg.ensures.shape c.needed.ensures.own ∙ ap₂ with_rule none c.needed.ensures.rule in
    let with_2 = c.in_ok-arg-2.ensures.shape c.count.ensures.own ∙ ap₂ with_rule with_1 c.count.ensures.rule in
    let with_3 = c.in_ok-arg-3.ensures.shape c.count-2.ensures.own ∙ ap₂ with_rule with_2 c.count-2.ensures.rule in
    let with_4 = c.in_ok-arg-4.ensures.shape c.count-3.ensures.own ∙ ap₂ with_rule with_3 c.count-3.ensures.rule in
    let with_5 = c.in_ok-arg-5.ensures.shape c.option.ensures.own ∙ ap₂ with_rule with_4 c.option.ensures.rule in
    let with_6 = c.in_ok-arg-6.ensures.shape c.option-2.ensures.own ∙ ap₂ with_rule with_5 c.option-2.ensures.rule in
    let with_7 = c.in_ok-arg-7.ensures.shape c.flag.ensures.own ∙ ap₂ with_rule with_6 c.flag.ensures.rule in
    let with_8 = c.in_ok-command.ensures.shape c.data_option.ensures.own ∙ ap₂ with_rule with_7 c.data_option.ensures.rule in
    adds.shape (rw (
      c.in_ok-command.ensures.globals,
      c.data_option.ensures.own,
      c.in_ok-arg-7.ensures.globals,
      c.flag.ensures.own,
      c.in_ok-arg-6.ensures.globals,
      c.option-2.ensures.own,
      c.in_ok-arg-5.ensures.globals,
      c.option.ensures.own,
      c.in_ok-arg-4.ensures.globals,
      c.count-3.ensures.own,
      c.in_ok-arg-3.ensures.globals,
      c.count-2.ensures.own,
      c.in_ok-arg-2.ensures.globals,
      c.count.ensures.own,
      c.in_ok-arg.ensures.globals,
      c.needed.ensures.own,
      c.after_help.ensures,
      c.about.ensures,
      c.new.ensures.local,
    ) refl)
    ∙ ap (λ (form : App). with_subcommand (app_of old) form.top) with_8
