use Rattle.std.proofs.Common.{◌∙◌, ◌≡◌, ap, ap₂, codes, refl}
use Rattle.clap.specs.Words.{App, app_of, new_app, with_rule, with_subcommand}
use Rattle.brd_cli.proofs.usage.trace_command.Goals as goal

pub returns : goal.returns
returns c = λ old new adds.
    let none : app_of c.after_help.result ≡ new_app (codes "trace") = rw c.after_help.ensures (rw c.about.ensures c.new.ensures.app) in
    let with_1 = c.in_ok-arg.ensures.shape c.needed.ensures.own ∙ ap₂ with_rule none c.needed.ensures.rule in
    let with_2 = c.in_ok-arg-2.ensures.shape c.needed-2.ensures.own ∙ ap₂ with_rule with_1 c.needed-2.ensures.rule in
    let with_3 = c.in_ok-arg-3.ensures.shape c.needed-3.ensures.own ∙ ap₂ with_rule with_2 c.needed-3.ensures.rule in
    let with_4 = c.in_ok-arg-4.ensures.shape c.position.ensures.own ∙ ap₂ with_rule with_3 c.position.ensures.rule in
    let with_5 = c.in_ok-arg-5.ensures.shape c.position-2.ensures.own ∙ ap₂ with_rule with_4 c.position-2.ensures.rule in
    let with_6 = c.in_ok-arg-6.ensures.shape c.processor.ensures.own ∙ ap₂ with_rule with_5 c.processor.ensures.rule in
    let with_7 = c.in_ok-arg-7.ensures.shape c.flag.ensures.own ∙ ap₂ with_rule with_6 c.flag.ensures.rule in
    let with_8 = c.in_ok-arg-8.ensures.shape c.option.ensures.own ∙ ap₂ with_rule with_7 c.option.ensures.rule in
    let with_9 = c.in_ok-arg-9.ensures.shape c.flag-2.ensures.own ∙ ap₂ with_rule with_8 c.flag-2.ensures.rule in
    let with_10 = c.in_ok-arg-10.ensures.shape c.flag-3.ensures.own ∙ ap₂ with_rule with_9 c.flag-3.ensures.rule in
    let with_11 = c.in_ok-arg-11.ensures.shape c.flag-4.ensures.own ∙ ap₂ with_rule with_10 c.flag-4.ensures.rule in
    let with_12 = c.in_ok-arg-12.ensures.shape c.valued.ensures.own ∙ ap₂ with_rule with_11 c.valued.ensures.rule in
    let with_13 = c.in_ok-command.ensures.shape c.data_option.ensures.own ∙ ap₂ with_rule with_12 c.data_option.ensures.rule in
    adds.shape (rw (
      c.in_ok-command.ensures.globals,
      c.data_option.ensures.own,
      c.in_ok-arg-12.ensures.globals,
      c.valued.ensures.own,
      c.in_ok-arg-11.ensures.globals,
      c.flag-4.ensures.own,
      c.in_ok-arg-10.ensures.globals,
      c.flag-3.ensures.own,
      c.in_ok-arg-9.ensures.globals,
      c.flag-2.ensures.own,
      c.in_ok-arg-8.ensures.globals,
      c.option.ensures.own,
      c.in_ok-arg-7.ensures.globals,
      c.flag.ensures.own,
      c.in_ok-arg-6.ensures.globals,
      c.processor.ensures.own,
      c.in_ok-arg-5.ensures.globals,
      c.position-2.ensures.own,
      c.in_ok-arg-4.ensures.globals,
      c.position.ensures.own,
      c.in_ok-arg-3.ensures.globals,
      c.needed-3.ensures.own,
      c.in_ok-arg-2.ensures.globals,
      c.needed-2.ensures.own,
      c.in_ok-arg.ensures.globals,
      c.needed.ensures.own,
      c.after_help.ensures,
      c.about.ensures,
      c.new.ensures.local,
    ) refl)
    ∙ ap (λ (form : App). with_subcommand (app_of old) form.top) with_13
