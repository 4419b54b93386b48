use Rattle.std.proofs.Common.{◌∙◌, ◌≡◌, ap, ap₂, codes, false, refl}
use Rattle.std.specs.Prelude.{fold}
use Rattle.clap.specs.Words.{App, app_of, new_app, with_rule, with_subcommand}
use Rattle.clap.specs.declared.builder.command.Command.{out-Command}
use Rattle.brd_cli.specs.Usage.{checks}
use Rattle.brd_cli.proofs.usage.shrink_command.Goals as goal

pub returns : goal.returns
returns c = λ old new adds.
    let none : app_of c.after_help.result ≡ new_app (codes "shrink") = rw c.after_help.ensures (rw c.about.ensures c.new.ensures.app) in
    let with_1 = c.in_ok-arg.ensures.shape c.needed.ensures.own ∙ ap₂ with_rule none c.needed.ensures.rule in
    let with_2 = c.in_ok-arg-2.ensures.shape c.needed-2.ensures.own ∙ ap₂ with_rule with_1 c.needed-2.ensures.rule in
    let with_3 = c.in_ok-command.ensures.shape c.needed-3.ensures.own ∙ ap₂ with_rule with_2 c.needed-3.ensures.rule in
    let checked = c.in_ok-checked.ensures.shape ∙ ap (λ (form : App). fold with_rule form checks) with_3 in
    let told = c.in_ok-arg-3.ensures.shape c.option.ensures.own ∙ ap₂ with_rule checked c.option.ensures.rule in
    let whole = c.in_ok-whole.ensures.shape c.data_option.ensures.own ∙ ap₂ with_rule told c.data_option.ensures.rule in
    let local : (out-Command c.in_ok-command.command).has_globals ≡ false = rw (
      c.in_ok-command.ensures.globals,
      c.needed-3.ensures.own,
      c.in_ok-arg-2.ensures.globals,
      c.needed-2.ensures.own,
      c.in_ok-arg.ensures.globals,
      c.needed.ensures.own,
      c.after_help.ensures,
      c.about.ensures,
      c.new.ensures.local,
    ) refl in
    adds.shape (rw (
      c.in_ok-whole.ensures.globals,
      c.data_option.ensures.own,
      c.in_ok-arg-3.ensures.globals,
      c.option.ensures.own,
      c.in_ok-checked.ensures.globals local,
    ) refl)
    ∙ ap (λ (form : App). with_subcommand (app_of old) form.top) whole
