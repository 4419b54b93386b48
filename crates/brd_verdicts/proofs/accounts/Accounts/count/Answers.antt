use Rattle.std.proofs.Common.{◌≡◌, ℕ, List, ap, ◌∙◌}
use Rattle.std.proofs.lemmas.Result.{on_ok_weaker}
use Rattle.brd_happening.specs.declared.happening.Happening.{Happening}
use Rattle.brd_verdicts.specs.declared.accounts.Accounts.{Accounts}
use Rattle.brd_verdicts.specs.declared.answers.Answered.{Answered}
use Rattle.brd_verdicts.specs.declared.losses.LostRaises.{LostRaises}
use Rattle.brd_verdicts.specs.Accounts.{all_answered}
use Rattle.brd_verdicts.specs.Answers.{answers_in, begun_after}
use Rattle.brd_verdicts.specs.Losses.{lost_by}
use Rattle.brd_verdicts.proofs.accounts.Accounts.count.Goals as goal

pub returns : goal.returns
returns c =
    let old : Accounts = c.args.self.now in
    let told : Happening = c.args.told.now in
    let position : ℕ = c.args.position in
    let after : Accounts = c.count_answers.new.self in
    let all : after ≡ all_answered position (answers_in old.begun told) old =
    c.in_ok-count_answers.ensures
    ∙ ap (λ (its : List Answered). all_answered position its old) (c.as_slice.ensures ∙ c.in_ok-answers.ensures) in
    on_ok_weaker c.count_all.result
    (λ is.
    ap (λ (begun : List ℕ). record after { begun = begun; lost = c.count_all.new.self }) c.keep_begun.ensures
    ∙ ap (λ (lost : List LostRaises). record after { begun = begun_after told told.what after.begun; lost = lost }) is
    ∙ ap (λ (a : Accounts).
    record a { begun = begun_after told told.what a.begun; lost = lost_by position told a.lost }) all)
    c.count_all.ensures
