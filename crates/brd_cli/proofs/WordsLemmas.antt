-- What a vector's iterator gives, up to its end.
use Rattle.std.proofs.Common.{◌≡◌, ◌∙◌, List, [], ◌∷◌, ◌++◌, length, ap, sym, refl, arith, append-nil}
use Rattle.std.specs.Prelude.{⊤}
use Rattle.std.specs.declared.vec.IntoIter.{IntoIter}
use Rattle.std.specs.Iterator.{DrainsIf, Yields}
use Rattle.std.specs.Vec.Iter.{into_iter_items, into_iter_steps}

-- what was given stood first
given_first : {X Z : Type 0} (xs : List X) (s t : IntoIter X Z) → Yields into_iter_steps s xs t → into_iter_items s ≡ xs ++ into_iter_items t
given_first [] s t e = ap into_iter_items e
given_first (x ∷ xs) s t (j, step, rest) = step.0 ∙ ap (λ ys. x ∷ ys) (given_first xs j t rest)

nothing_left : {X : Type 0} (xs : List X) → length xs ≡ 0 → xs ≡ []
nothing_left [] none = refl
nothing_left (x ∷ xs) none = absurd (omega (arith, none))

pub given_to_the_end : {X Z : Type 0} (xs : List X) (s : IntoIter X Z) → DrainsIf into_iter_steps ⊤ s xs → xs ≡ into_iter_items s
given_to_the_end xs s (t, gave, end) =
    let empty : into_iter_items t ≡ [] = nothing_left _ (sym t.rest.ok.0 ∙ (end tt).1.0) in
    sym (given_first xs s t gave ∙ ap (λ ys. xs ++ ys) empty ∙ append-nil xs)
