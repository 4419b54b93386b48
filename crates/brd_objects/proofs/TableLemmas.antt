-- The objects at the making, by one ID more.
use Rattle.std.proofs.Common.{◌≡◌, ℕ, ◌+◌, List, [], ◌∷◌, ◌++◌, refl, length, arith}
use Rattle.std.proofs.lemmas.List.FromFn.{map-range_with_len_more, length-map-range_with_len}
use Rattle.brd_objects.specs.Table.{made_at, made_below}

pub made_none : {C X : Type 0} → (id_of : C → ℕ) (object_of : C → X) (configs : List C) → made_below id_of object_of configs 0 ≡ []
unfolding made_below
made_none id_of object_of configs = refl

pub made_more : {C X : Type 0} → (id_of : C → ℕ) (object_of : C → X) (configs : List C) (n : ℕ) →
    made_below id_of object_of configs (n + 1) ≡ made_below id_of object_of configs n ++ made_at id_of object_of configs n ∷ []
unfolding made_below
made_more id_of object_of configs n = map-range_with_len_more (made_at id_of object_of configs) 0 n n (omega arith)

pub made_long : {C X : Type 0} → (id_of : C → ℕ) (object_of : C → X) (configs : List C) (n : ℕ) → length (made_below id_of object_of configs n) ≡ n
unfolding made_below
made_long id_of object_of configs n = length-map-range_with_len (made_at id_of object_of configs) 0 n
