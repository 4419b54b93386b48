-- Some of the events of a list, in their order.
use Rattle.std.proofs.Common.{◌≡◌, ℕ, zero, suc, ◌+◌, ◌-◌, ◌≤◌, List, [], ◌∷◌, length, take, drop, refl, sym, subst, ◌∙◌, arith, inl, inr}
use Rattle.std.proofs.lemmas.List.{length-take-le, length-drop, length-append}
use Rattle.brd_board.specs.declared.event.Event.{Event}
use Rattle.brd_explore.specs.Shrinking.{IsPart, without}

pub part-self : (xs : List Event) → IsPart xs xs
part-self [] = tt
part-self (x ∷ xs) = inl (refl, part-self xs)

part-more : (xs : List Event) (y : Event) (ys : List Event) → IsPart xs ys → IsPart xs (y ∷ ys)
part-more [] y ys part = tt
part-more (x ∷ xs) y ys part = inr part

pub part-both : (xs ys zs : List Event) → IsPart xs ys → IsPart ys zs → IsPart xs zs
part-both [] ys zs one two = tt
part-both (x ∷ xs) [] zs one two = absurd one
part-both (x ∷ xs) (y ∷ ys) [] one two = absurd two
part-both (x ∷ xs) (y ∷ ys) (z ∷ zs) (inl one) (inl two) = inl (one.0 ∙ two.0, part-both xs ys zs one.1 two.1)
part-both (x ∷ xs) (y ∷ ys) (z ∷ zs) (inr one) (inl two) = inr (part-both (x ∷ xs) ys zs one two.1)
part-both (x ∷ xs) (y ∷ ys) (z ∷ zs) one (inr two) = inr (part-both (x ∷ xs) (y ∷ ys) zs one two)

part-drop : (n : ℕ) (xs : List Event) → IsPart (drop n xs) xs
part-drop zero xs = part-self xs
part-drop (suc n) [] = tt
part-drop (suc n) (x ∷ xs) = part-more (drop n xs) x xs (part-drop n xs)

pub part-without : (from to : ℕ) (xs : List Event) → from ≤ to → IsPart (without xs from to) xs
part-without zero to xs on = part-drop to xs
part-without (suc from) zero xs on = absurd (omega (arith, on))
part-without (suc from) (suc to) [] on = tt
part-without (suc from) (suc to) (x ∷ xs) on = inl (refl, part-without from to xs (omega (arith, on)))

pub length-without : (xs : List Event) (from to : ℕ) → from ≤ to → to ≤ length xs → length (without xs from to) + (to - from) ≡ length xs
length-without xs from to on within =
    omega (arith, length-append (take from xs) (drop to xs), length-take-le from xs (omega (arith, on, within)), length-drop to xs)

-- the same list without a stretch
pub part-left-out : (xs ys all : List Event) (from to : ℕ) → from ≤ to → xs ≡ without ys from to → IsPart ys all → IsPart xs all
part-left-out xs ys all from to on is part = subst (λ es. IsPart es all) (sym is) (part-both (without ys from to) ys all (part-without from to ys on) part)
