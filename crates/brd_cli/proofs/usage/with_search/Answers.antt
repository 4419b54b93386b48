use Rattle.std.proofs.Common.{◌∙◌, ◌≡◌, ap₂, refl}
use Rattle.clap.specs.Words.{app_of, with_rule}
use Rattle.brd_cli.proofs.usage.with_search.Goals as goal

pub returns : goal.returns
returns c =
    let none : app_of c.args.command ≡ app_of c.args.command = refl in
    let with_1 = c.in_ok-arg.ensures.shape c.flag.ensures.own ∙ ap₂ with_rule none c.flag.ensures.rule in
    let with_2 = c.in_ok-arg-2.ensures.shape c.option.ensures.own ∙ ap₂ with_rule with_1 c.option.ensures.rule in
    let with_3 = c.in_ok-arg-3.ensures.shape c.count.ensures.own ∙ ap₂ with_rule with_2 c.count.ensures.rule in
    let with_4 = c.in_ok-arg-4.ensures.shape c.count-2.ensures.own ∙ ap₂ with_rule with_3 c.count-2.ensures.rule in
    let with_5 = c.in_ok-arg-5.ensures.shape c.count-3.ensures.own ∙ ap₂ with_rule with_4 c.count-3.ensures.rule in
    let with_6 = c.in_ok-arg-6.ensures.shape c.count-4.ensures.own ∙ ap₂ with_rule with_5 c.count-4.ensures.rule in
    let with_7 = c.in_ok-arg-7.ensures.shape c.flag-2.ensures.own ∙ ap₂ with_rule with_6 c.flag-2.ensures.rule in
    let with_8 = c.in_ok-arg-8.ensures.shape c.flag-3.ensures.own ∙ ap₂ with_rule with_7 c.flag-3.ensures.rule in
    let with_9 = c.in_ok-arg-9.ensures.shape c.option-2.ensures.own ∙ ap₂ with_rule with_8 c.option-2.ensures.rule in
    let with_10 = c.in_ok-arg-10.ensures.shape c.count-5.ensures.own ∙ ap₂ with_rule with_9 c.count-5.ensures.rule in
    let with_11 = c.in_ok-arg-11.ensures.shape c.count-6.ensures.own ∙ ap₂ with_rule with_10 c.count-6.ensures.rule in
    let with_12 = c.in_ok-arg-12.ensures.shape c.option-3.ensures.own ∙ ap₂ with_rule with_11 c.option-3.ensures.rule in
    let with_13 = c.in_ok-arg-13.ensures.shape c.option-4.ensures.own ∙ ap₂ with_rule with_12 c.option-4.ensures.rule in
    let with_14 = c.in_ok-arg-14.ensures.shape c.option-5.ensures.own ∙ ap₂ with_rule with_13 c.option-5.ensures.rule in
    let with_15 = c.in_ok-command.ensures.shape c.data_option.ensures.own ∙ ap₂ with_rule with_14 c.data_option.ensures.rule in
    record {
      shape = with_15;
      globals = λ none_yet. rw (
        c.in_ok-command.ensures.globals,
        c.data_option.ensures.own,
        c.in_ok-arg-14.ensures.globals,
        c.option-5.ensures.own,
        c.in_ok-arg-13.ensures.globals,
        c.option-4.ensures.own,
        c.in_ok-arg-12.ensures.globals,
        c.option-3.ensures.own,
        c.in_ok-arg-11.ensures.globals,
        c.count-6.ensures.own,
        c.in_ok-arg-10.ensures.globals,
        c.count-5.ensures.own,
        c.in_ok-arg-9.ensures.globals,
        c.option-2.ensures.own,
        c.in_ok-arg-8.ensures.globals,
        c.flag-3.ensures.own,
        c.in_ok-arg-7.ensures.globals,
        c.flag-2.ensures.own,
        c.in_ok-arg-6.ensures.globals,
        c.count-4.ensures.own,
        c.in_ok-arg-5.ensures.globals,
        c.count-3.ensures.own,
        c.in_ok-arg-4.ensures.globals,
        c.count-2.ensures.own,
        c.in_ok-arg-3.ensures.globals,
        c.count.ensures.own,
        c.in_ok-arg-2.ensures.globals,
        c.option.ensures.own,
        c.in_ok-arg.ensures.globals,
        c.flag.ensures.own,
        none_yet,
      ) refl;
    }
