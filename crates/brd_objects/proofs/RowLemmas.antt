-- Tables of which the first rows are kept.
use Rattle.std.proofs.Common.{◌≡◌, ℕ, false, zero, suc, ◌+◌, ◌-◌, ◌<◌, ◌≤◌, List, [], ◌∷◌, ◌++◌, refl, sym, ap, ◌∙◌, length, append_assoc, append-nil, length-append, take, drop, subst, arith}
use Rattle.std.specs.Prelude.{Option, None, Some, All, is_some, map, replicate, slice_index_or, slice_set}
use Rattle.std.specs.Option.{option_map}
use Rattle.std.proofs.lemmas.List.{set-append_left, set-get_or, length-set, length-map, get_or_past, length-take-le, length-drop, take_all, take_more, take-append-drop, take-append-le, drop-append-le, replicate-append-replicate}
use Rattle.std.proofs.Math.Seq.{take-append_seam, drop-append_seam}
use Rattle.std.proofs.lemmas.List.Elements.{All-head, All-tail, All-take, All-append, All-replicate}
use Rattle.brd_objects.specs.Table.{Table, object_at, object_changed, objects_changed}
use Rattle.brd_objects.specs.Rows.{table_of}

abbrev nones : {X : Type 0} → ℕ → List (Option X)
nones n = replicate n None

none_there : {X : Type 0} (n id : ℕ) → slice_index_or (nones {X = X} n) id None ≡ None
none_there zero id = refl
none_there (suc n) zero = refl
none_there (suc n) (suc id) = none_there n id

there : {X : Type 0} (rows : List (Option X)) (n id : ℕ) → slice_index_or (rows ++ nones n) id None ≡ slice_index_or rows id None
there [] n id = none_there n id
there (row ∷ rows) n zero = refl
there (row ∷ rows) n (suc id) = there rows n id

-- the object of an ID is the one in the rows that are kept
pub at_rows : {X : Type 0} (rows : List (Option X)) (id : ℕ) → object_at (table_of rows) id ≡ object_at rows id
unfolding table_of
at_rows rows id = there rows (256 - length rows) id

nones_map : {X Y : Type 0} (f : X → Y) (n : ℕ) → map (option_map f) (nones n) ≡ nones n
nones_map f zero = refl
nones_map f (suc n) = ap (λ rows. None ∷ rows) (nones_map f n)

map_there : {X Y : Type 0} (f : X → Y) (rows : List (Option X)) (n : ℕ) → map (option_map f) (rows ++ nones n) ≡ map (option_map f) rows ++ nones n
map_there f [] n = nones_map f n
map_there f (row ∷ rows) n = ap (λ rest. option_map f row ∷ rest) (map_there f rows n)

-- all objects are changed if those in the rows are
pub changed_rows : {X Y : Type 0} (f : X → Y) (rows : List (Option X)) → map (option_map f) (table_of rows) ≡ table_of (map (option_map f) rows)
unfolding table_of
changed_rows f rows = map_there f rows (256 - length rows) ∙ ap (λ n. map (option_map f) rows ++ nones (256 - n)) (sym (length-map rows (option_map f)))

-- one of the rows is set
pub set_rows : {X : Type 0} (rows : List (Option X)) (id : ℕ) (row : Option X) → id < length rows → slice_set (table_of rows) id row ≡ table_of (slice_set rows id row)
unfolding table_of
set_rows rows id row lt =
    set-append_left rows (nones (256 - length rows)) id row lt
    ∙ ap (λ n. slice_set rows id row ++ nones (256 - n)) (sym (length-set rows id row))

-- where there is no object, none is changed
pub set_none : {X : Type 0} (rows : List (Option X)) (id : ℕ) → object_at rows id ≡ None → slice_set (table_of rows) id None ≡ table_of rows
set_none rows id none = ap (slice_set (table_of rows) id) (sym (at_rows rows id ∙ none)) ∙ set-get_or (table_of rows) id None

-- the object of an ID is changed in its row, if there is one
pub changed_row : {X : Type 0} (f : X → X) (rows : List (Option X)) (id : ℕ) (row : Option X) → id < length rows → row ≡ option_map f (object_at rows id) →
    object_changed f (table_of rows) id ≡ table_of (slice_set rows id row)
changed_row f rows id row lt is = ap (λ old. slice_set (table_of rows) id (option_map f old)) (at_rows rows id) ∙ set_rows rows id (option_map f (object_at rows id)) lt ∙ ap (λ new. table_of (slice_set rows id new)) (sym is)

pub changed_none : {X : Type 0} (f : X → X) (rows : List (Option X)) (id : ℕ) → object_at rows id ≡ None → object_changed f (table_of rows) id ≡ table_of rows
changed_none f rows id none = ap (λ old. slice_set (table_of rows) id (option_map f old)) (at_rows rows id ∙ none) ∙ set_none rows id none

-- there is no object behind the rows
pub past_rows : {X : Type 0} (rows : List (Option X)) (id : ℕ) → length rows ≤ id → object_at (table_of rows) id ≡ None
past_rows rows id past = at_rows rows id ∙ get_or_past rows id None past

pub changed_past : {X : Type 0} (f : X → X) (rows : List (Option X)) (id : ℕ) → length rows ≤ id → object_changed f (table_of rows) id ≡ table_of rows
changed_past f rows id past = changed_none f rows id (get_or_past rows id None past)

-- all rows are kept
pub whole : {X : Type 0} (rows : List (Option X)) → length rows ≡ 256 → table_of rows ≡ rows
unfolding table_of
whole rows long = ap (λ n. rows ++ nones (256 - n)) long ∙ append-nil rows

-- a last row without an object needn't be kept
pub last_none : {X : Type 0} (rows : List (Option X)) → length rows < 256 → table_of (rows ++ None ∷ []) ≡ table_of rows
unfolding table_of
last_none rows lt =
    append_assoc rows (None ∷ []) (nones (256 - length (rows ++ None ∷ [])))
    ∙ ap (λ n. rows ++ None ∷ nones (256 - n)) (length-append rows (None ∷ []))
    ∙ ap (λ n. rows ++ nones n) (one_less (length rows) lt)
  where
    one_less : (n : ℕ) → n < 256 → suc (256 - (n + 1)) ≡ 256 - n
    one_less n lt = omega (arith, lt)

pub without_any : {X : Type 0} (rows : List (Option X)) → length rows ≡ 0 → table_of (take (length rows - 1) rows) ≡ table_of rows
without_any [] none = refl
without_any (row ∷ rows) none = absurd (omega (arith, none))

pub without_last : {X : Type 0} (rows : List (Option X)) (d : Option X) → 1 ≤ length rows → length rows ≤ 256 → slice_index_or rows (length rows - 1) d ≡ None →
    table_of (take (length rows - 1) rows) ≡ table_of rows
without_last rows d some few none =
    let before : length rows - 1 < length rows = omega (arith, some) in
    let front : length (take (length rows - 1) rows) ≡ length rows - 1 = length-take-le (length rows - 1) rows (omega (arith, some)) in
    let lt : length (take (length rows - 1) rows) < 256 = omega (arith, front, some, few) in
    let parts : rows ≡ take (length rows - 1) rows ++ None ∷ [] =
    sym (take_all (length rows - 1 + 1) rows (omega (arith, some)))
    ∙ take_more rows (length rows - 1) d before
    ∙ ap (λ row. take (length rows - 1) rows ++ row ∷ []) none in
    sym (last_none (take (length rows - 1) rows) lt) ∙ ap table_of (sym parts)

-- rows without objects are none
no_objects : {X : Type 0} (rows : List (Option X)) → All (λ row. row ≡ None) rows → rows ≡ nones (length rows)
no_objects [] all = refl
no_objects (row ∷ rows) all =
    ap (λ first. first ∷ rows) (All-head (λ row. row ≡ None) row rows all)
    ∙ ap (λ rest. None ∷ rest) (no_objects rows (All-tail (λ row. row ≡ None) row rows all))

-- tables are equal if the rows of one are the first of the other's, which has no objects behind them
pub same_from : {X : Type 0} (few many : List (Option X)) → length few ≤ length many → length many ≤ 256 → few ≡ take (length few) many →
    All (λ row. row ≡ None) (drop (length few) many) → table_of few ≡ table_of many
unfolding table_of
same_from few many fewer fit front rest =
    let long : length (drop (length few) many) + (256 - length many) ≡ 256 - length few = omega (arith, length-drop (length few) many, fewer, fit) in
    let parts : many ≡ few ++ nones (length (drop (length few) many)) =
    sym (take-append-drop (length few) many)
    ∙ ap (λ l. l ++ drop (length few) many) (sym front)
    ∙ ap (λ l. few ++ l) (no_objects (drop (length few) many) rest) in
    ap (λ n. few ++ nones n) (sym long)
    ∙ ap (λ l. few ++ l) (sym (replicate-append-replicate (length (drop (length few) many)) (256 - length many) None))
    ∙ sym (append_assoc few (nones (length (drop (length few) many))) (nones (256 - length many)))
    ∙ ap (λ l. l ++ nones (256 - length many)) (sym parts)

pub same_front : {X : Type 0} (few many : List (Option X)) → length few ≤ length many → table_of few ≡ table_of many → few ≡ take (length few) many
unfolding table_of
same_front few many fewer same =
    sym (take-append_seam few (nones (256 - length few)))
    ∙ ap (take (length few)) same
    ∙ take-append-le (length few) many (nones (256 - length many)) fewer

pub same_rest : {X : Type 0} (few many : List (Option X)) → length few ≤ length many → table_of few ≡ table_of many → All (λ row. row ≡ None) (drop (length few) many)
unfolding table_of
same_rest few many fewer same =
    let rest : nones (256 - length few) ≡ drop (length few) many ++ nones (256 - length many) =
    sym (drop-append_seam few (nones (256 - length few)))
    ∙ ap (drop (length few)) same
    ∙ drop-append-le (length few) many (nones (256 - length many)) fewer in
    let all : All (λ row. row ≡ None) (drop (length few) many ++ nones (256 - length many)) =
    subst (All (λ row. row ≡ None)) rest (All-replicate (λ row. row ≡ None) (256 - length few) None refl) in
    subst (All (λ row. row ≡ None)) (take-append_seam (drop (length few) many) (nones (256 - length many)))
    (All-take (λ row. row ≡ None) (length (drop (length few) many)) (drop (length few) many ++ nones (256 - length many)) all)

pub not_some : {X : Type 0} (row : Option X) → is_some row ≡ false → row ≡ None
not_some None is = refl
not_some (Some x) is = absurd (cc)

-- there is no object in one row more
pub one_more : {X : Type 0} (rows : List (Option X)) (i : ℕ) (row : Option X) → i < length rows → All (λ row. row ≡ None) (take i rows) →
    row ≡ None → row ≡ slice_index_or rows i row → All (λ row. row ≡ None) (take (i + 1) rows)
one_more rows i row lt before none is =
    subst (All (λ row. row ≡ None)) (sym (take_more rows i row lt))
    (All-append (λ row. row ≡ None) (take i rows) (slice_index_or rows i row ∷ []) before
    (All-replicate (λ row. row ≡ None) 1 (slice_index_or rows i row) (sym is ∙ none)))
