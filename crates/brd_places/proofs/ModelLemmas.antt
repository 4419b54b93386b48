-- What the fields of places say of the list that they are.
use Rattle.std.proofs.Common.{◌≡◌, ℕ, List, [], ◌∷◌, ◌++◌, refl, sym, ap, subst, ◌∙◌, arith}
use Rattle.std.specs.Prelude.{slice_get, Some, Bool, true, Decides, IfOk, OnOk, Result, Ok, Err}
use Rattle.brd_mem.specs.Memory.{size_of}
use Rattle.brd_board.specs.declared.event.Event.{Event}
use Rattle.brd_board.specs.Board.{BoardState, after}
use Rattle.brd_places.specs.declared.left.Left.{Left}
use Rattle.brd_places.specs.declared.entry.Entry.{Entry}
use Rattle.brd_places.specs.declared.kept.Kept.{Kept}
use Rattle.brd_places.specs.Places.{Place, board_at, place_after, places_of, AreAlike, AreKept, BeginsWith}
use Rattle.brd_places.proofs.PlaceLemmas.{board-got, is-there, added, path-is, first-place, first-begins}
use Rattle.brd_places.proofs.KeptLemmas.{begins-more}

pub place_board : (start board : BoardState) (entries : List Entry) (places : List Place) (i : ℕ) (place : Place) →
    places_of start entries ≡ places → slice_get places i ≡ Some place → board ≡ board_at start (places_of start entries) i →
    board ≡ place.board
place_board start board entries places i place view is made =
    made ∙ board-got start (places_of start entries) i place (subst (λ (ps : List Place). slice_get ps i ≡ Some place) (sym view) is)

pub place_put : {E : Type 0} (start board : BoardState) (entries : List Entry) (places : List Place) (i : ℕ) (place : Place)
    (result : Result Unit E) → places_of start entries ≡ places → slice_get places i ≡ Some place →
    OnOk result (board ≡ board_at start (places_of start entries) i) → OnOk result (board ≡ place.board)
place_put start board entries places i place (Ok done) view is made = place_board start board entries places i place view is made
place_put start board entries places i place (Err fault) view is made = tt

pub there_same : {E : Type 0} (start board : BoardState) (entries : List Entry) (places : List Place) (i : ℕ) (entry : Entry) (left : Left)
    (found : Result Bool E) → places_of start entries ≡ places → Some entry ≡ slice_get entries i → entry.left ≡ left →
    ((place : Place) → slice_get places i ≡ Some place → IfOk found (λ is. is ≡ true → place.board ≡ board)) →
    IfOk found (λ is. is ≡ true → slice_get places i ≡ Some (record { left = left; board = board }))
there_same start board entries places i entry left (Err fault) view has lefts same = tt
there_same start board entries places i entry left (Ok is) view has lefts same = λ yes.
    let b : BoardState = board_at start (places_of start entries) i in
    let there : slice_get places i ≡ Some (record { left = left; board = b }) =
    subst (λ (ps : List Place). slice_get ps i ≡ Some (record { left = left; board = b })) view
    (is-there start entries i entry left b (sym has) lefts refl) in
    there ∙ ap (λ (c : BoardState). Some (record { left = left; board = c })) (same (record { left = left; board = b }) there yes)

pub board_same : (start spare board : BoardState) (entries : List Entry) (places : List Place) (i : ℕ) (place : Place) (same : Bool) →
    places_of start entries ≡ places → slice_get places i ≡ Some place → spare ≡ board_at start (places_of start entries) i →
    Decides same (spare ≡ board) → same ≡ true → place.board ≡ board
board_same start spare board entries places i place same view there made decides is =
    sym (place_board start spare entries places i place view there made) ∙ decides.0 is

pub one_more : (start : BoardState) (entries new : List Entry) (places : List Place) (from parent count since kept : ℕ) (event : Event)
    (left : Left) (place : Place) → places_of start entries ≡ places → parent ≡ from →
    new ≡ entries ++ (record { parent = parent; event = event; count = count; left = left; since = since; kept = kept }) ∷ [] →
    slice_get places from ≡ Some place → places_of start new ≡ places ++ place_after place.board event count left ∷ []
one_more start entries new places from parent count since kept event left place view same is there =
    let entry : Entry = record { parent = parent; event = event; count = count; left = left; since = since; kept = kept } in
    let here : slice_get places parent ≡ Some place = ap (slice_get places) same ∙ there in
    added start entries new entry place is (subst (λ (ps : List Place). slice_get ps parent ≡ Some place) (sym view) here)
    ∙ ap (λ (ps : List Place). ps ++ place_after place.board event count left ∷ []) view

pub begins_more : (start : BoardState) (old new : List Entry) (entry : Entry) → new ≡ old ++ entry ∷ [] → BeginsWith start old →
    BeginsWith start new
begins_more start old new entry is begins =
    subst (λ (es : List Entry). BeginsWith start es) (sym is) (begins-more start old entry begins)

-- The places at first.

pub first_view : (start copy : BoardState) (before entries : List Entry) (entry : Entry) (left : Left) → entries ≡ before ++ entry ∷ [] →
    before ≡ [] → entry.left ≡ left → entry.count ≡ 0 → copy ≡ start →
    places_of copy entries ≡ (record { left = left; board = start }) ∷ []
first_view start copy before entries entry left is none same zero equal =
    first-place copy entries entry left (is ∙ ap (λ (es : List Entry). es ++ entry ∷ []) none) same zero
    ∙ ap (λ (b : BoardState). (record { left = left; board = b }) ∷ []) equal

pub first_begun : (start : BoardState) (before entries : List Entry) (entry : Entry) → entries ≡ before ++ entry ∷ [] →
    before ≡ [] → entry.count ≡ 0 → BeginsWith start entries
first_begun start before entries entry is none zero =
    first-begins start entries entry (is ∙ ap (λ (es : List Entry). es ++ entry ∷ []) none) zero

pub none_kept : (start : BoardState) (entries : List Entry) (kept : List Kept) → kept ≡ [] → AreKept start entries kept
none_kept start entries kept none = subst (λ (ks : List Kept). AreKept start entries ks) (sym none) (λ i d within. absurd (omega (arith, within)))

pub alike_copies : (start one other : BoardState) → one ≡ start → other ≡ start → AreAlike one other
alike_copies start one other this that = record {
  size = ap (λ (b : BoardState). size_of b.memory) (this ∙ sym that);
  order = ap (λ (b : BoardState). b.memory.order) (this ∙ sym that);
}

pub alike_same : (start board : BoardState) → board ≡ start → AreAlike board start
alike_same start board is = alike_copies start board start is refl

pub way_to : (start : BoardState) (entries : List Entry) (places : List Place) (i : ℕ) (first last : Place) (events : List Event) →
    places_of start entries ≡ places → BeginsWith start entries → after start events ≡ board_at start (places_of start entries) i →
    slice_get places 0 ≡ Some first → slice_get places i ≡ Some last → after first.board events ≡ last.board
way_to start entries places i first last events view begins leads at_first at_last =
    path-is start entries i first last events begins leads
    (subst (λ (ps : List Place). slice_get ps 0 ≡ Some first) (sym view) at_first)
    (subst (λ (ps : List Place). slice_get ps i ≡ Some last) (sym view) at_last)
