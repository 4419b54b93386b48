-- A new run at the end of runs of which the last one takes none of it.
use Rattle.std.proofs.Common.{◌≡◌, ℕ, ◌+◌, ◌-◌, ◌≤◌, ◌<◌, List, [], ◌∷◌, ◌++◌, length, ap, ◌∙◌, arith}
use Rattle.std.specs.Prelude.{min, Ok}
use Rattle.brd_board.specs.declared.event.Event.{Event}
use Rattle.brd_journal.specs.declared.run.Run.{Run}
use Rattle.brd_journal.specs.Runs.{events_of, run_of_count, starts_from, starts_of}
use Rattle.brd_journal.specs.Adding.{room_in, added_within}
use Rattle.brd_journal.proofs.EventLemmas.{run_of}
use Rattle.brd_journal.proofs.AddLemmas.{added_apart}
use Rattle.brd_journal.proofs.StartLemmas.{extended_some, starts-added}

pub put-apart : (limit : ℕ) (rs items : List Run) (e : Event) (n others : ℕ) (old starts : List ℕ) → room_in rs e ≤ 0 → 0 < n → length rs < limit
    → items ≡ rs ++ run_of e n ∷ [] → old ≡ starts_of rs → starts ≡ old ++ others ∷ [] → others ≡ length (events_of rs)
    → (added_within limit rs e n ≡ Ok items) × (starts ≡ starts_of items)
put-apart limit rs items e n others old starts full some room is was begins at =
    let none : 0 ≡ min (room_in rs e) n = omega (arith, full) in
    let all : n ≡ n - 0 = omega arith in
    let extended =
    extended_some limit rs items e others (n - 0) old starts (omega (arith, some)) room (is ∙ ap (λ (m : ℕ). rs ++ run_of e m ∷ []) all) was begins in
    let made = added_apart limit rs items e n 0 none (omega arith) extended.pushed in
    let start : others ≡ length (events_of rs) + 0 = omega (arith, at) in (
      made,
      starts-added limit rs items e n 0 starts none made
          (extended.begun ∙ ap (λ (m : ℕ). starts_of rs ++ starts_from m (run_of_count e (n - 0))) start),
    )
