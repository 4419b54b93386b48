use Rattle.std.proofs.Common.{◌∙◌, ◌≡◌, ap, ap₂, codes, refl}
use Rattle.std.specs.Prelude.{fold}
use Rattle.clap.specs.Words.{App, app_of, new_app, with_rule, with_subcommand}
use Rattle.brd_cli.specs.Usage.{bounds, checks, searching}
use Rattle.brd_cli.proofs.usage.explore_command.Goals as goal

pub returns : goal.returns
returns c = λ old new adds.
    let none : app_of c.after_help.result ≡ new_app (codes "explore") = rw c.after_help.ensures (rw c.about.ensures c.new.ensures.app) in
    let with_1 = c.in_ok-arg.ensures.shape c.needed.ensures.own ∙ ap₂ with_rule none c.needed.ensures.rule in
    let with_2 = c.in_ok-command.ensures.shape c.needed-2.ensures.own ∙ ap₂ with_rule with_1 c.needed-2.ensures.rule in
    let bounded = c.in_ok-bounded.ensures.shape ∙ ap (λ (form : App). fold with_rule form bounds) with_2 in
    let checked = c.in_ok-checked.ensures.shape ∙ ap (λ (form : App). fold with_rule form checks) bounded in
    let searched = c.in_ok-searched.ensures.shape ∙ ap (λ (form : App). fold with_rule form searching) checked in
    adds.shape (c.in_ok-searched.ensures.globals (c.in_ok-checked.ensures.globals (c.in_ok-bounded.ensures.globals (rw (
      c.in_ok-command.ensures.globals,
      c.needed-2.ensures.own,
      c.in_ok-arg.ensures.globals,
      c.needed.ensures.own,
      c.after_help.ensures,
      c.about.ensures,
      c.new.ensures.local,
    ) refl))))
    ∙ ap (λ (form : App). with_subcommand (app_of old) form.top) searched
