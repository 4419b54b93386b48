-- Which place an entry makes.
use Rattle.std.proofs.Common.{◌≡◌, ℕ, zero, suc, ◌+◌, ◌<◌, ◌≤◌, List, [], ◌∷◌, ◌++◌, length, refl, sym, ap, subst, ◌∙◌, inl, inr, arith}
use Rattle.std.proofs.Common.{length-append, add-zero}
use Rattle.std.specs.Prelude.{slice_get, slice_index_or, Option, Some, None, replicate}
use Rattle.std.proofs.lemmas.Bool.{cases_lt}
use Rattle.brd_board.specs.declared.event.Event.{Event}
use Rattle.brd_board.specs.Board.{BoardState, after}
use Rattle.brd_places.specs.declared.left.Left.{Left}
use Rattle.brd_places.specs.declared.entry.Entry.{Entry}
use Rattle.brd_places.specs.Places.{Place, board_at, place_after, place_by, places_after, places_of, BeginsWith}

-- what is left at the place of an index
abbrev pub left_at : List Place → ℕ → Option Left
left_at [] i = None
left_at (place ∷ places) zero = Some place.left
left_at (place ∷ places) (suc i) = left_at places i

-- Lists of places.

left-front : (front behind : List Place) (i : ℕ) → i < length front → left_at (front ++ behind) i ≡ left_at front i
left-front [] behind i within = absurd (omega (arith, within))
left-front (place ∷ front) behind zero within = refl
left-front (place ∷ front) behind (suc i) within = left-front front behind i (omega (arith, within))

board-front : (start : BoardState) (front behind : List Place) (i : ℕ) → i < length front →
    board_at start (front ++ behind) i ≡ board_at start front i
board-front start [] behind i within = absurd (omega (arith, within))
board-front start (place ∷ front) behind zero within = refl
board-front start (place ∷ front) behind (suc i) within = board-front start front behind i (omega (arith, within))

board-between : (start : BoardState) (front : List Place) (place : Place) (behind : List Place) →
    board_at start (front ++ place ∷ behind) (length front) ≡ place.board
board-between start [] place behind = refl
board-between start (first ∷ front) place behind = board-between start front place behind

left-between : (front : List Place) (place : Place) (behind : List Place) →
    left_at (front ++ place ∷ behind) (length front) ≡ Some place.left
left-between [] place behind = refl
left-between (first ∷ front) place behind = left-between front place behind

pub board-past : (start : BoardState) (places : List Place) (i : ℕ) → length places ≤ i → board_at start places i ≡ start
board-past start [] i past = refl
board-past start (place ∷ places) zero past = absurd (omega (arith, past))
board-past start (place ∷ places) (suc i) past = board-past start places i (omega (arith, past))

pub board-got : (start : BoardState) (places : List Place) (i : ℕ) (place : Place) → slice_get places i ≡ Some place →
    board_at start places i ≡ place.board
board-got start [] i place is = cc
board-got start (first ∷ places) zero place is = cc
board-got start (first ∷ places) (suc i) place is = board-got start places i place is

pub got-within : (places : List Place) (i : ℕ) (place : Place) → slice_get places i ≡ Some place → i < length places
got-within [] i place is = cc
got-within (first ∷ places) zero place is = omega arith
got-within (first ∷ places) (suc i) place is = omega (arith, got-within places i place is)

-- The places of entries.

pub length-after : (start : BoardState) (places : List Place) (entries : List Entry) →
    length (places_after start places entries) ≡ length places + length entries
length-after start places [] = omega arith
length-after start places (entry ∷ entries) =
    omega (arith, length-after start (places ++ place_by start places entry ∷ []) entries, length-append places (place_by start places entry ∷ []))

pub length-of : (start : BoardState) (entries : List Entry) → length (places_of start entries) ≡ length entries
length-of start entries = omega (arith, length-after start [] entries)

after-more : (start : BoardState) (places : List Place) (entries : List Entry) (entry : Entry) →
    places_after start places (entries ++ entry ∷ [])
    ≡ places_after start places entries ++ place_by start (places_after start places entries) entry ∷ []
after-more start places [] entry = refl
after-more start places (first ∷ entries) entry = after-more start (places ++ place_by start places first ∷ []) entries entry

-- one entry more makes one place more
pub of-more : (start : BoardState) (entries : List Entry) (entry : Entry) →
    places_of start (entries ++ entry ∷ []) ≡ places_of start entries ++ place_by start (places_of start entries) entry ∷ []
of-more start entries entry = after-more start [] entries entry

pub board-more : (start : BoardState) (entries : List Entry) (entry : Entry) (i : ℕ) → i < length entries →
    board_at start (places_of start (entries ++ entry ∷ [])) i ≡ board_at start (places_of start entries) i
board-more start entries entry i within =
    ap (λ (ps : List Place). board_at start ps i) (of-more start entries entry)
    ∙ board-front start (places_of start entries) (place_by start (places_of start entries) entry ∷ []) i (omega (arith, length-of start entries, within))

left-kept : (start : BoardState) (places : List Place) (entries : List Entry) (i : ℕ) → i < length places →
    left_at (places_after start places entries) i ≡ left_at places i
left-kept start places [] i within = refl
left-kept start places (entry ∷ entries) i within =
    let more : List Place = place_by start places entry ∷ [] in
    left-kept start (places ++ more) entries i (omega (arith, length-append places more, within)) ∙ left-front places more i within

board-after : (start : BoardState) (places : List Place) (entries : List Entry) (i : ℕ) → i < length places →
    board_at start (places_after start places entries) i ≡ board_at start places i
board-after start places [] i within = refl
board-after start places (entry ∷ entries) i within =
    let more : List Place = place_by start places entry ∷ [] in
    board-after start (places ++ more) entries i (omega (arith, length-append places more, within)) ∙ board-front start places more i within

-- the left of an entry is that of its place

left-after : (start : BoardState) (places : List Place) (entries : List Entry) (i : ℕ) (d : Entry) → i < length entries →
    left_at (places_after start places entries) (length places + i) ≡ Some (slice_index_or entries i d).left
left-after start places [] i d within = absurd (omega (arith, within))
left-after start places (entry ∷ entries) zero d within =
    let place : Place = place_by start places entry in
    ap (λ n. left_at (places_after start (places ++ place ∷ []) entries) n) (add-zero (length places))
    ∙ left-kept start (places ++ place ∷ []) entries (length places) (omega (arith, length-append places (place ∷ [])))
    ∙ left-between places place []
left-after start places (entry ∷ entries) (suc i) d within =
    let place : Place = place_by start places entry in
    let n : length places + suc i ≡ length (places ++ place ∷ []) + i = omega (arith, length-append places (place ∷ [])) in
    ap (λ n. left_at (places_after start (places ++ place ∷ []) entries) n) n
    ∙ left-after start (places ++ place ∷ []) entries i d (omega (arith, within))

-- The place of an entry comes from that of which it says so; if that is no earlier one, from the start.

came-here : (start : BoardState) (places : List Place) (entry : Entry) (entries : List Entry) (board : BoardState) →
    (entry.parent < length places → board ≡ board_at start (places_after start places (entry ∷ entries)) entry.parent) →
    (length places ≤ entry.parent → board ≡ start) →
    board_at start (places_after start places (entry ∷ entries)) (length places) ≡ after board (replicate entry.count entry.event)
came-here start places entry entries board earlier other =
    let place : Place = place_by start places entry in
    let more : length places < length (places ++ place ∷ []) = omega (arith, length-append places (place ∷ [])) in
    let from : board_at start places entry.parent ≡ board = elim (cases_lt entry.parent (length places)) [
      | inl lt ↦
          sym (earlier lt ∙ board-after start (places ++ place ∷ []) entries entry.parent (omega (arith, lt, more))
          ∙ board-front start places (place ∷ []) entry.parent lt)
      | inr ge ↦ board-past start places entry.parent ge ∙ sym (other ge)
    ] in
    board-after start (places ++ place ∷ []) entries (length places) more
    ∙ board-between start places place []
    ∙ ap (λ (b : BoardState). after b (replicate entry.count entry.event)) from

came : (start : BoardState) (places : List Place) (entries : List Entry) (i : ℕ) (d : Entry) (board : BoardState) → i < length entries →
    ((slice_index_or entries i d).parent < length places + i →
    board ≡ board_at start (places_after start places entries) (slice_index_or entries i d).parent) →
    (length places + i ≤ (slice_index_or entries i d).parent → board ≡ start) →
    board_at start (places_after start places entries) (length places + i)
    ≡ after board (replicate (slice_index_or entries i d).count (slice_index_or entries i d).event)
came start places [] i d board within earlier other = absurd (omega (arith, within))
came start places (entry ∷ entries) zero d board within earlier other =
    ap (λ n. board_at start (places_after start places (entry ∷ entries)) n) (add-zero (length places))
    ∙ came-here start places entry entries board (λ lt. earlier (omega (arith, lt))) (λ ge. other (omega (arith, ge)))
came start places (entry ∷ entries) (suc i) d board within earlier other =
    let place : Place = place_by start places entry in
    let n : length places + suc i ≡ length (places ++ place ∷ []) + i = omega (arith, length-append places (place ∷ [])) in
    ap (λ n. board_at start (places_after start (places ++ place ∷ []) entries) n) n
    ∙ came start (places ++ place ∷ []) entries i d board (omega (arith, within)) (λ lt. earlier (omega (arith, lt, n))) (λ ge. other (omega (arith, ge, n)))

entry-got : (entries : List Entry) (i : ℕ) (entry : Entry) → slice_get entries i ≡ Some entry →
    (i < length entries) × (slice_index_or entries i entry ≡ entry)
entry-got [] i entry is = cc
entry-got (first ∷ entries) zero entry is = (omega arith, cc)
entry-got (first ∷ entries) (suc i) entry is = let rest = entry-got entries i entry is in (omega (arith, rest.0), rest.1)

pub came-from : (start : BoardState) (entries : List Entry) (i : ℕ) (entry : Entry) (board : BoardState) →
    slice_get entries i ≡ Some entry →
    (entry.parent < i → board ≡ board_at start (places_of start entries) entry.parent) →
    (i ≤ entry.parent → board ≡ start) →
    board_at start (places_of start entries) i ≡ after board (replicate entry.count entry.event)
came-from start entries i entry board is earlier other =
    let got = entry-got entries i entry is in
    let all : List Place = places_of start entries in
    let zero-more : 0 + i ≡ i = omega arith in
    ap (λ n. board_at start all n) (sym zero-more)
    ∙ came start [] entries i entry board got.0
    (λ lt. subst (λ (e : Entry). e.parent < 0 + i → board ≡ board_at start all e.parent) (sym got.1) (λ less. earlier (omega (arith, less))) lt)
    (λ ge. subst (λ (e : Entry). 0 + i ≤ e.parent → board ≡ start) (sym got.1) (λ more. other (omega (arith, more))) ge)
    ∙ ap (λ (e : Entry). after board (replicate e.count e.event)) got.1

pub left-of : (start : BoardState) (entries : List Entry) (i : ℕ) (d : Entry) → i < length entries →
    left_at (places_of start entries) i ≡ Some (slice_index_or entries i d).left
left-of start entries i d within =
    let zero-more : 0 + i ≡ i = omega arith in
    ap (λ n. left_at (places_of start entries) n) (sym zero-more) ∙ left-after start [] entries i d within

same-left : (a b : Left) → Some a ≡ Some b → a ≡ b
same-left a b is = cc

-- a place is its board and its left
pub place-is : (start : BoardState) (places : List Place) (i : ℕ) (left : Left) (board : BoardState) →
    left_at places i ≡ Some left → board_at start places i ≡ board →
    slice_get places i ≡ Some (record { left = left; board = board })
place-is start [] i left board this that = cc
place-is start (place ∷ places) zero left board this that =
    ap (λ (l : Left). Some (record { left = l; board = place.board })) (same-left place.left left this)
    ∙ ap (λ (b : BoardState). Some (record { left = left; board = b })) that
place-is start (place ∷ places) (suc i) left board this that = place-is start places i left board this that

pub left-got : (places : List Place) (i : ℕ) (place : Place) → slice_get places i ≡ Some place → left_at places i ≡ Some place.left
left-got [] i place is = cc
left-got (first ∷ places) zero place is = cc
left-got (first ∷ places) (suc i) place is = left-got places i place is

pub is-there : (start : BoardState) (entries : List Entry) (i : ℕ) (entry : Entry) (left : Left) (board : BoardState) →
    slice_get entries i ≡ Some entry → entry.left ≡ left → board_at start (places_of start entries) i ≡ board →
    slice_get (places_of start entries) i ≡ Some (record { left = left; board = board })
is-there start entries i entry left board has this that =
    let got = entry-got entries i entry has in
    place-is start (places_of start entries) i left board
    (left-of start entries i entry got.0 ∙ ap (λ (e : Entry). Some e.left) got.1 ∙ ap (λ (l : Left). Some l) this) that

pub is-within : (start : BoardState) (entries : List Entry) (i : ℕ) (place : Place) → slice_get (places_of start entries) i ≡ Some place →
    i < length entries
is-within start entries i place is = omega (arith, got-within (places_of start entries) i place is, length-of start entries)

pub left-is : (start : BoardState) (entries : List Entry) (i : ℕ) (entry : Entry) (place : Place) → slice_get entries i ≡ Some entry →
    slice_get (places_of start entries) i ≡ Some place → entry.left ≡ place.left
left-is start entries i entry place has is =
    let got = entry-got entries i entry has in
    ap (λ (e : Entry). e.left) (sym got.1)
    ∙ same-left _ _ (sym (left-of start entries i entry got.0) ∙ left-got (places_of start entries) i place is)

pub none-there : (start : BoardState) (entries : List Entry) (i : ℕ) (place : Place) → slice_get entries i ≡ None →
    slice_get (places_of start entries) i ≡ Some place → ⊥
none-there start entries i place none is = past entries i none (is-within start entries i place is)
  where
    past : (es : List Entry) (n : ℕ) → slice_get es n ≡ None → n < length es → ⊥
    past [] n none within = omega (arith, within)
    past (e ∷ es) zero none within = cc
    past (e ∷ es) (suc n) none within = past es n none (omega (arith, within))

-- one entry more, behind a place
pub added : (start : BoardState) (entries new : List Entry) (entry : Entry) (place : Place) → new ≡ entries ++ entry ∷ [] →
    slice_get (places_of start entries) entry.parent ≡ Some place →
    places_of start new ≡ places_of start entries ++ place_after place.board entry.event entry.count entry.left ∷ []
added start entries new entry place is there =
    ap (places_of start) is ∙ of-more start entries entry
    ∙ ap (λ (b : BoardState). places_of start entries ++ place_after b entry.event entry.count entry.left ∷ [])
    (board-got start (places_of start entries) entry.parent place there)

-- The entry of the start.

none-after : (start : BoardState) (event : Event) (count : ℕ) → count ≡ 0 → after start (replicate count event) ≡ start
none-after start event count none = ap (λ n. after start (replicate n event)) none

pub first-place : (start : BoardState) (entries : List Entry) (entry : Entry) (left : Left) → entries ≡ entry ∷ [] → entry.left ≡ left →
    entry.count ≡ 0 → places_of start entries ≡ (record { left = left; board = start }) ∷ []
first-place start entries entry left is same none =
    ap (places_of start) is
    ∙ ap (λ (b : BoardState). (record { left = entry.left; board = b }) ∷ []) (none-after start entry.event entry.count none)
    ∙ ap (λ (l : Left). (record { left = l; board = start }) ∷ []) same

pub first-begins : (start : BoardState) (entries : List Entry) (entry : Entry) → entries ≡ entry ∷ [] → entry.count ≡ 0 → BeginsWith start entries
first-begins start entries entry is none = record {
  some = omega (arith, ap (length {A = Entry}) is);
  first = ap (λ (es : List Entry). board_at start (places_of start es) 0) is ∙ none-after start entry.event entry.count none;
}

pub path-is : (start : BoardState) (entries : List Entry) (i : ℕ) (first last : Place) (events : List Event) → BeginsWith start entries →
    after start events ≡ board_at start (places_of start entries) i →
    slice_get (places_of start entries) 0 ≡ Some first → slice_get (places_of start entries) i ≡ Some last →
    after first.board events ≡ last.board
path-is start entries i first last events begins leads at-first at-last =
    let same : first.board ≡ start = sym (board-got start (places_of start entries) 0 first at-first) ∙ begins.first in
    ap (λ (b : BoardState). after b events) same ∙ leads ∙ board-got start (places_of start entries) i last at-last
