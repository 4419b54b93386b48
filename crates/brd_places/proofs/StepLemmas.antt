-- What a board becomes that is made that of a place.
use Rattle.std.proofs.Common.{◌≡◌, ℕ, zero, suc, ◌<◌, ◌≤◌, List, [], ◌∷◌, length, sym, ap, ◌∙◌, arith}
use Rattle.std.proofs.Common.{◌-◌, ◌++◌, take, refl, subst, length-append}
use Rattle.std.specs.Prelude.{slice_get, Some, None, replicate}
use Rattle.std.proofs.lemmas.List.{take_at}
use Rattle.std.proofs.lemmas.List.Elements.{All-push}
use Rattle.brd_board.specs.declared.event.Event.{Event}
use Rattle.brd_board.specs.Board.{BoardState, after}
use Rattle.brd_board.specs.Snapshot.{SnapshotState, restored, Fits}
use Rattle.brd_board.proofs.FormLemmas.{size-after, order-after}
use Rattle.brd_places.specs.declared.entry.Entry.{Entry}
use Rattle.brd_places.specs.declared.kept.Kept.{Kept}
use Rattle.brd_places.specs.Places.{Place, board_at, place_by, places_after, places_of, AreAlike, AreKept, IsSnapshotAt}
use Rattle.brd_places.proofs.PlaceLemmas.{board-past, length-of, came-from}
use Rattle.brd_places.proofs.KeptLemmas.{kept-more}

none-past : (entries : List Entry) (i : ℕ) → None ≡ slice_get entries i → length entries ≤ i
none-past [] i none = omega arith
none-past (entry ∷ entries) zero none = cc
none-past (entry ∷ entries) (suc i) none = omega (arith, none-past entries i none)

pub none_board : (start new : BoardState) (entries : List Entry) (i : ℕ) → None ≡ slice_get entries i → new ≡ start →
    new ≡ board_at start (places_of start entries) i
none_board start new entries i none is =
    is ∙ sym (board-past start (places_of start entries) i (omega (arith, none-past entries i none, length-of start entries)))

pub came_earlier : (start from new : BoardState) (entries : List Entry) (i : ℕ) (entry : Entry) → Some entry ≡ slice_get entries i →
    entry.parent < i → from ≡ board_at start (places_of start entries) entry.parent → new ≡ after from (replicate entry.count entry.event) →
    new ≡ board_at start (places_of start entries) i
came_earlier start from new entries i entry has less is done =
    done ∙ sym (came-from start entries i entry from (sym has) (λ lt. is) (λ ge. absurd (omega (arith, less, ge))))

pub came_other : (start from new : BoardState) (entries : List Entry) (i : ℕ) (entry : Entry) → Some entry ≡ slice_get entries i →
    i ≤ entry.parent → from ≡ start → new ≡ after from (replicate entry.count entry.event) →
    new ≡ board_at start (places_of start entries) i
came_other start from new entries i entry has more is done =
    done ∙ sym (came-from start entries i entry from (sym has) (λ lt. absurd (omega (arith, more, lt))) (λ ge. is))

-- The board of each place has the start's size and order.

alike-events : (a start : BoardState) (events : List Event) → AreAlike a start → AreAlike (after a events) start
alike-events a start events alike = record { size = size-after a events ∙ alike.size; order = order-after a events ∙ alike.order }

alike-more : (start : BoardState) (places : List Place) (place : Place) → ((i : ℕ) → AreAlike (board_at start places i) start) →
    AreAlike place.board start → (i : ℕ) → AreAlike (board_at start (places ++ place ∷ []) i) start
alike-more start [] place all one zero = one
alike-more start [] place all one (suc i) = record { size = refl; order = refl }
alike-more start (first ∷ places) place all one zero = all zero
alike-more start (first ∷ places) place all one (suc i) = alike-more start places place (λ k. all (suc k)) one i

all-alike : (start : BoardState) (places : List Place) (entries : List Entry) → ((i : ℕ) → AreAlike (board_at start places i) start) →
    (i : ℕ) → AreAlike (board_at start (places_after start places entries) i) start
all-alike start places [] all i = all i
all-alike start places (entry ∷ entries) all i =
    all-alike start (places ++ place_by start places entry ∷ []) entries
    (alike-more start places (place_by start places entry) all
    (alike-events (board_at start places entry.parent) start (replicate entry.count entry.event) (all entry.parent))) i

pub alike_place : (start board : BoardState) (entries : List Entry) (i : ℕ) → board ≡ board_at start (places_of start entries) i →
    AreAlike board start
alike_place start board entries i is =
    subst (λ (b : BoardState). AreAlike b start) (sym is) (all-alike start [] entries (λ k. record { size = refl; order = refl }) i)

-- one more that is kept whole
pub kept_push : (start board : BoardState) (entries : List Entry) (old new : List Kept) (i : ℕ) (s : SnapshotState) →
    new ≡ old ++ (record { at = i; snapshot = s }) ∷ [] → AreKept start entries old → Fits start s → restored start s ≡ board →
    board ≡ board_at start (places_of start entries) i → i < length entries → AreKept start entries new
kept_push start board entries old new i s is kept fits back there within =
    subst (AreKept start entries) (sym is)
    (All-push (λ (k : Kept). IsSnapshotAt start entries k.at k.snapshot) old (record { at = i; snapshot = s }) kept
    (record { fits = fits; board = back ∙ there; within = within }))

-- one entry more, and without it again
pub kept_more : (start : BoardState) (old new : List Entry) (entry : Entry) (kept : List Kept) → new ≡ old ++ entry ∷ [] →
    AreKept start old kept → AreKept start new kept
kept_more start old new entry kept is are = subst (λ (es : List Entry). AreKept start es kept) (sym is) (kept-more start old entry kept are)

pub popped : (old more new : List Entry) (entry : Entry) → more ≡ old ++ entry ∷ [] → new ≡ take (length more - 1) more → new ≡ old
popped old more new entry is rest =
    rest ∙ ap (λ (es : List Entry). take (length es - 1) es) is
    ∙ take_at old (entry ∷ []) (length (old ++ entry ∷ []) - 1) (omega (arith, length-append old (entry ∷ [])))
