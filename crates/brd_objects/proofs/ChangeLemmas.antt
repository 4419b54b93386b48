-- Changing the objects of a table one after the other, as a loop does.
use Rattle.std.proofs.Common.{◌≡◌, ℕ, ◌+◌, ◌<◌, [], ◌∷◌, ◌++◌, length, take, drop, sym, ap, ◌∙◌, append_assoc, arith}
use Rattle.std.specs.Prelude.{Option, None, slice_index_or, slice_set}
use Rattle.std.specs.Option.{option_map}
use Rattle.std.proofs.lemmas.List.{drop_more, take_more_set}
use Rattle.std.proofs.Math.Seq.{drop-set-lt}
use Rattle.brd_objects.specs.Table.{Table, objects_changed}

-- The row at a place becomes what the change makes of it, and those before it have been changed.
pub changed_goes_on : {X : Type 0} (change : X → X) (all rows new : Table X) (i : ℕ) (d row : Option X) → i < length rows
    → new ≡ slice_set rows i row → row ≡ option_map change (slice_index_or rows i d)
    → all ≡ take i rows ++ objects_changed change (drop i rows) → all ≡ take (i + 1) new ++ objects_changed change (drop (i + 1) new)
changed_goes_on change all rows new i d row lt new_is row_is so_far =
    let before : take (i + 1) new ≡ take i rows ++ row ∷ [] = ap (take (i + 1)) new_is ∙ take_more_set rows i row lt in
    let after : drop (i + 1) new ≡ drop (i + 1) rows = ap (drop (i + 1)) new_is ∙ drop-set-lt (i + 1) rows i row (omega arith) in
    so_far
    ∙ ap (λ l. take i rows ++ objects_changed change l) (drop_more rows i d lt)
    ∙ ap (λ r. take i rows ++ r ∷ objects_changed change (drop (i + 1) rows)) (sym row_is)
    ∙ sym (append_assoc (take i rows) (row ∷ []) (objects_changed change (drop (i + 1) rows)))
    ∙ ap (λ l. l ++ objects_changed change (drop (i + 1) rows)) (sym before)
    ∙ ap (λ l. take (i + 1) new ++ objects_changed change l) (sym after)

-- a row that is none stays
pub none_stays : {X : Type 0} (change : X → X) (row : Option X) → row ≡ None → row ≡ option_map change row
none_stays change row none = none ∙ sym (ap (option_map change) none)
