-- Kernel objects of one kind, found by their ID.
use Rattle.std.specs.Prelude.{ℕ, ◌==◌, List, map, find, Option, None, slice_index_or, slice_set}
use Rattle.std.specs.List.{range_with_len}
use Rattle.std.specs.Option.{option_map}

-- the objects by ID, 256 of them: None where there is no such object
abbrev pub Table : Type 0 → Type 0
Table X = List (Option X)

-- the object of an ID, where there is one
abbrev pub object_at : {X : Type 0} → Table X → ℕ → Option X
object_at table id = slice_index_or table id None

-- the object of an ID is changed, where there is one
abbrev pub object_changed : {X : Type 0} → (X → X) → Table X → ℕ → Table X
object_changed change table id = slice_set table id (option_map change (object_at table id))

-- every object is changed
abbrev pub objects_changed : {X : Type 0} → (X → X) → Table X → Table X
objects_changed change table = map (option_map change) table

-- The objects at the making, from their statements in the configuration; of two statements with one ID the first
-- counts.

abbrev pub made_at : {C X : Type 0} → (C → ℕ) → (C → X) → List C → ℕ → Option X
made_at id_of object_of configs id = option_map object_of (find (λ config. id_of config == id) configs)

-- those of the IDs below a number
unfoldable pub made_below : {C X : Type 0} → (C → ℕ) → (C → X) → List C → ℕ → Table X
made_below id_of object_of configs count = map (made_at id_of object_of configs) (range_with_len 0 count)
