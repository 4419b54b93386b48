-- What holds of each object of a table still does when one of them is changed, or all are, if the change keeps it.
use Rattle.std.proofs.Common.{◌≡◌, ℕ, zero, suc, List, [], ◌∷◌, refl, ap}
use Rattle.std.specs.Prelude.{true, slice_index_or, slice_set, Option, None, Some, IfSome, is_some}
use Rattle.std.specs.Option.{option_map}
use Rattle.brd_objects.specs.Table.{Table, object_at, object_changed, objects_changed}

pub set-keeps : {X : Type 0} → (P : Option X → Type 0) (xs : List (Option X)) (id at : ℕ) (y : Option X) → P y → P (slice_index_or xs at None) →
    P (slice_index_or (slice_set xs id y) at None)
set-keeps P [] id at y new was = was
set-keeps P (z ∷ zs) zero zero y new was = new
set-keeps P (z ∷ zs) zero (suc at) y new was = was
set-keeps P (z ∷ zs) (suc id) zero y new was = was
set-keeps P (z ∷ zs) (suc id) (suc at) y new was = set-keeps P zs id at y new was

some-keeps : {X : Type 0} → (P : X → Type 0) (f : X → X) (found : Option X) → ((x : X) → found ≡ Some x → P x → P (f x)) → IfSome found P →
    IfSome (option_map f found) P
some-keeps P f None keeps was = tt
some-keeps P f (Some x) keeps was = keeps x refl was

pub one-keeps : {X : Type 0} → (P : X → Type 0) (f : X → X) (table : Table X) (id at : ℕ) → ((x : X) → object_at table id ≡ Some x → P x → P (f x)) →
    ((n : ℕ) → IfSome (object_at table n) P) →
    IfSome (object_at (object_changed f table id) at) P
one-keeps P f table id at keeps was =
    set-keeps (λ found. IfSome found P) table id at (option_map f (object_at table id)) (some-keeps P f (object_at table id) keeps (was id)) (was at)

pub all-keep : {X : Type 0} → (P : X → Type 0) (f : X → X) (table : Table X) (at : ℕ) → ((x : X) → P x → P (f x)) → IfSome (object_at table at) P →
    IfSome (object_at (objects_changed f table) at) P
all-keep P f [] at keeps was = tt
all-keep P f (x ∷ xs) zero keeps was = some-keeps P f x (λ y is. keeps y) was
all-keep P f (x ∷ xs) (suc at) keeps was = all-keep P f xs at keeps was

-- Two changes of one object, one after the other.

both-some : {X : Type 0} → (f g : X → X) (found : Option X) → option_map g (option_map f found) ≡ option_map (λ x. g (f x)) found
both-some f g None = refl
both-some f g (Some x) = refl

pub changed-twice : {X : Type 0} → (f g : X → X) (table : Table X) (id : ℕ) →
    object_changed g (object_changed f table id) id ≡ object_changed (λ x. g (f x)) table id
changed-twice f g [] id = refl
changed-twice f g (x ∷ xs) zero = ap (λ y. y ∷ xs) (both-some f g x)
changed-twice f g (x ∷ xs) (suc id) = ap (λ ys. x ∷ ys) (changed-twice f g xs id)

pub changed-there : {X : Type 0} → (f : X → X) (table : Table X) (id : ℕ) (x : X) → object_at table id ≡ Some x →
    is_some (object_at (object_changed f table id) id) ≡ true
changed-there f [] id x is = let wrong : ⊥ = cc in absurd wrong
changed-there f (y ∷ ys) zero x is = ap (λ (found : Option _). is_some (option_map f found)) is
changed-there f (y ∷ ys) (suc id) x is = changed-there f ys id x is
