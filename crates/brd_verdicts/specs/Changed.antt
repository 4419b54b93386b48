-- A list of which an element is changed, or that gets a new one.
use Rattle.std.specs.Prelude.{ℕ, Bool, if◌then◌else◌, List, [], ◌∷◌, ◌++◌, slice_index_or, slice_set}
use Rattle.std.specs.Prelude.{Option, None, Some}

-- The first element that passes is changed; where none does, a new one comes to the end.
abbrev pub changed : {X : Type 0} → (X → Bool) → (X → X) → X → List X → List X
changed test change new [] = new ∷ []
changed test change new (x ∷ xs) = if test x then change x ∷ xs else x ∷ changed test change new xs

-- by its place: the element there, or the new one
abbrev pub old_at : {X : Type 0} → Option ℕ → X → List X → X
old_at None new xs = new
old_at (Some at) new xs = slice_index_or xs at new

-- and the list with another there, or with the new one
abbrev pub put_at : {X : Type 0} → Option ℕ → X → X → List X → List X
put_at None new other xs = xs ++ new ∷ []
put_at (Some at) new other xs = slice_set xs at other
