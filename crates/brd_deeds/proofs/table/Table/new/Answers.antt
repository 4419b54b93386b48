use Rattle.std.proofs.Common.{ℕ, ◌+◌, List, [], ◌∷◌, ◌++◌, ◌≡◌, replicate, ap, ◌∙◌}
use Rattle.std.proofs.lemmas.List.{replicate-append-replicate}
use Rattle.brd_deeds.proofs.table.Table.new.Goals as goal

replicate-more : {A : Type 0} (n : ℕ) (a : A) (old new : List A) → old ≡ replicate n a → new ≡ old ++ a ∷ [] → new ≡ replicate (n + 1) a
replicate-more n a old new so more = more ∙ ap (λ xs. xs ++ a ∷ []) so ∙ replicate-append-replicate n 1 a

pub loop-preserved : goal.loop-preserved
loop-preserved g c = replicate-more c.loop.counter _ _ _ c.loop.invariant c.in_ok-push.ensures.items
