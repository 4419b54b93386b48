use Rattle.std.proofs.Common.{◌≡◌, ℕ, List, ◌++◌, ap, ◌∙◌, append_assoc}
use Rattle.std.proofs.lemmas.Result.{on_ok_weaker}
use Rattle.brd_names.specs.Races.{marks_text}
use Rattle.brd_names.proofs.races.put_race.Goals as goal

three : (old a b m one two new : List ℕ) → one ≡ old ++ a → two ≡ one ++ b → new ≡ two ++ m → new ≡ old ++ (a ++ (b ++ m))
three old a b m one two new is-one is-two is-new =
    is-new ∙ ap (λ x. x ++ m) (is-two ∙ ap (λ x. x ++ b) is-one) ∙ append_assoc (old ++ a) b m ∙ append_assoc old a (b ++ m)

pub returns : goal.returns
returns c =
    on_ok_weaker c.put_marks.result
    (λ is. three c.args.out.now.items _ _ (marks_text c.args.names c.args.race.now) _ _ _ c.in_ok-put.ensures.is c.in_ok-put_datum.ensures is)
    c.put_marks.ensures
