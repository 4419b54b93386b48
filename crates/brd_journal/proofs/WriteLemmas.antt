-- One line on in writing.
use Rattle.std.proofs.Common.{◌≡◌, ℕ, ◌+◌, ◌<◌, List, [], ◌∷◌, ◌++◌, length, get_or, drop, sym, ap, ◌∙◌}
use Rattle.std.proofs.lemmas.List.{drop_more, append_assoc, append-nil}
use Rattle.brd_journal.specs.declared.run.Run.{Run}
use Rattle.brd_journal.specs.Text.{line_text, lines_of_runs, IsNumbered, AreNumbered}

-- the lines that are there, and those of the runs from i on, are all
pub record Written (runs : List Run) (i : ℕ) (items total : List ℕ) : Type 0 where
  pub text : items ++ lines_of_runs (drop i runs) ≡ total
  pub numbered : AreNumbered (drop i runs) → AreNumbered runs

pub written_first : (runs : List Run) (items total : List ℕ) → items ++ lines_of_runs runs ≡ total → Written runs 0 items total
written_first runs items total h = record { text = h; numbered = λ p. p }

pub written_more : (runs : List Run) (i : ℕ) (items more total : List ℕ) (d : Run) → Written runs i items total → i < length runs
    → more ≡ items ++ (line_text (get_or runs i d) ++ 10 ∷ []) → IsNumbered (get_or runs i d).event → Written runs (i + 1) more total
written_more runs i items more total d w lt put numbered =
    let next : drop i runs ≡ get_or runs i d ∷ drop (i + 1) runs = drop_more runs i d lt in
    record {
      text = ap (λ (ys : List ℕ). ys ++ lines_of_runs (drop (i + 1) runs)) put
          ∙ append_assoc items (line_text (get_or runs i d) ++ 10 ∷ []) (lines_of_runs (drop (i + 1) runs))
          ∙ ap (λ (rs : List Run). items ++ lines_of_runs rs) (sym next) ∙ w.text;
      numbered = λ rest. w.numbered (rw next (numbered, rest));
    }

pub written_all : (runs : List Run) (i : ℕ) (items total : List ℕ) → Written runs i items total → drop i runs ≡ [] → (items ≡ total) × AreNumbered runs
written_all runs i items total w none = (sym (append-nil items) ∙ ap (λ (rs : List Run). items ++ lines_of_runs rs) (sym none) ∙ w.text, w.numbered (rw none tt))
