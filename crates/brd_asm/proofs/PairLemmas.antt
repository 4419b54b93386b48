-- Lists whose elements stand in a relation, each to all after it.
use Rattle.std.proofs.Common.{List, [], ◌∷◌, ◌++◌}
use Rattle.std.specs.List.{AllByRecursion}

pub all_push : {A : Type 0} (P : A → Type 0) (xs : List A) (x : A) → AllByRecursion P xs → P x → AllByRecursion P (xs ++ x ∷ [])
all_push P [] x hs h = (h, tt)
all_push P (y ∷ xs) x hs h = (hs.0, all_push P xs x hs.1 h)

abbrev pub Pairwise : {A : Type 0} → (A → A → Type 0) → List A → Type 0
Pairwise R [] = Unit {0}
Pairwise R (x ∷ xs) = AllByRecursion (λ y. R x y) xs × Pairwise R xs

pub pairs_push : {A : Type 0} (R : A → A → Type 0) (xs : List A) (y : A) → Pairwise R xs → AllByRecursion (λ x. R x y) xs → Pairwise R (xs ++ y ∷ [])
pairs_push R [] y hs h = (tt, tt)
pairs_push R (x ∷ xs) y hs h = (all_push (λ y. R x y) xs y hs.0 h.0, pairs_push R xs y hs.1 h.1)
