use Rattle.std.proofs.Common.{◌∙◌, ◌≡◌, ap, ap₂, codes, rules}
use Rattle.clap.specs.Words.{App, app_of, new_app, with_rule, with_subcommand}
use Rattle.brd_cli.proofs.usage.words_command.Goals as goal

pub returns : goal.returns
returns c = λ old new adds.
    let none : app_of c.after_help.result ≡ new_app (codes "words") = rw c.after_help.ensures (rw c.about.ensures c.new.ensures.app) in
    let one = c.in_ok-command.ensures.shape c.number-steps.ensures.own ∙ ap₂ with_rule none c.number-steps.ensures.rule in
    adds.shape (search rules) ∙ ap (λ (form : App). with_subcommand (app_of old) form.top) one
