-- Memory at boot, with a piece in its place.
use Rattle.std.proofs.Common.{◌≡◌, ℕ, ◌+◌, ◌-◌, ◌<◌, ◌≤◌, List, [], ◌∷◌, ◌++◌, length, take, drop, get_or, refl, ap, sym, ◌∙◌, arith, inl, inr, ◌⊎◌, length-append, length-drop}
use Rattle.std.specs.Prelude.{Bool, true, false, nat_lt, unwrap_or, map, flat_map}
use Rattle.std.specs.List.{range_with_len}
use Rattle.std.proofs.lemmas.Bool.{cases_lt}
use Rattle.std.proofs.lemmas.Bool.Decides.{nat_tests}
use Rattle.std.proofs.lemmas.List.{get_or-drop, get_or-take, get_or_append_left, get_or-append_right, length-take-le}
use Rattle.std.proofs.lemmas.List.FromFn.{fill_by_all, get_or-map-range_with_len, length-map-range_with_len}
use Rattle.std.proofs.lemmas.Option.{unwrap_or-slice_get}
use Rattle.brd_base.specs.Space.{base}
use Rattle.brd_word.specs.declared.order.Order.{Order}
use Rattle.brd_mem.specs.Memory.{memory_of_bytes, contains, copied}
use Rattle.brd_mem.specs.Image.{byte_in}
use Rattle.brd_mem.specs.declared.image.Segment.{Segment}
use Rattle.brd_board.specs.Boot.{are_inside, memory_of}
use Rattle.brd_patch.specs.Data.{before, behind, beside, end_of, with_piece}
use Rattle.brd_patch.proofs.DataLemmas.{missed, held_by, opened}

-- a byte of a list of which some were overwritten
in_new : (bytes more : List ℕ) (at k : ℕ) → at + length more ≤ length bytes → at ≤ k → k < at + length more →
    get_or (take at bytes ++ more ++ drop (at + length more) bytes) k 0 ≡ get_or more (k - at) 0
in_new bytes more at k fits from to =
    let front : length (take at bytes) ≡ at = length-take-le at bytes (omega arith) in
    rw (get_or_append_left (take at bytes ++ more) (drop (at + length more) bytes) 0 k (omega (arith, length-append (take at bytes) more)))
    (get_or-append_right (take at bytes) more at k 0 front from)

before_new : (bytes more : List ℕ) (at k : ℕ) → at + length more ≤ length bytes → k < at →
    get_or (take at bytes ++ more ++ drop (at + length more) bytes) k 0 ≡ get_or bytes k 0
before_new bytes more at k fits to =
    let front : length (take at bytes) ≡ at = length-take-le at bytes (omega arith) in
    rw (get_or_append_left (take at bytes ++ more) (drop (at + length more) bytes) 0 k (omega (arith, length-append (take at bytes) more)))
    (rw (get_or_append_left (take at bytes) more 0 k (omega arith)) (get_or-take at bytes k 0 to))

behind_new : (bytes more : List ℕ) (at k : ℕ) → at + length more ≤ length bytes → at + length more ≤ k →
    get_or (take at bytes ++ more ++ drop (at + length more) bytes) k 0 ≡ get_or bytes k 0
behind_new bytes more at k fits from =
    let front : length (take at bytes) ≡ at = length-take-le at bytes (omega arith) in
    let both : length (take at bytes ++ more) ≡ at + length more = omega (arith, length-append (take at bytes) more) in
    let place : at + length more + (k - (at + length more)) ≡ k = omega arith in
    rw (get_or-append_right (take at bytes ++ more) (drop (at + length more) bytes) (at + length more) k 0 both from)
    (rw (get_or-drop (at + length more) bytes (k - (at + length more)) 0, place) refl)

-- what memory has at a place as boot leaves it
abbrev byte_of : List Segment → ℕ → ℕ
byte_of segments at = unwrap_or (byte_in segments (base + at)) 0

module _ (order : Order) (size : ℕ) (segments : List Segment) (piece : Segment)
    (inside : contains size piece.address (length piece.bytes) ≡ true) where
  abbrev bytes : List ℕ
  bytes = map (byte_of segments) (range_with_len 0 size)

  low : base ≤ piece.address
  low = grind (arith, nat_tests)

  high : piece.address + length piece.bytes ≤ base + size
  high = grind (arith, nat_tests)

  long : length bytes ≡ size
  long = length-map-range_with_len (byte_of segments) 0 size

  old : (k : ℕ) → k < size → get_or bytes k 0 ≡ byte_of segments k
  old k below = get_or-map-range_with_len (byte_of segments) 0 size k k 0 below (omega arith)

  same : (k : ℕ) → (base + k < piece.address) ⊎ (end_of piece ≤ base + k) → byte_of segments k ≡ byte_of (with_piece segments piece) k
  same k misses = sym (ap (λ it. unwrap_or it 0) (missed piece segments (base + k) misses))

  abbrev at : ℕ
  at = piece.address - base

  abbrev new : List ℕ
  new = take at bytes ++ piece.bytes ++ drop (at + length piece.bytes) bytes

  fits : at + length piece.bytes ≤ length bytes
  fits =
      let from = low in
      let to = high in
      let all = long in
      let place : at ≡ piece.address - base = refl in
      omega arith

  has : (k : ℕ) → k < size → get_or new k 0 ≡ byte_of (with_piece segments piece) k
  has k below = elim (cases_lt k at) [
    | inl under ↦
        let from = low in
        let place : at ≡ piece.address - base = refl in
        before_new bytes piece.bytes at k fits under ∙ old k below ∙ same k (inl (omega arith))
    | inr above ↦ elim (cases_lt k (at + length piece.bytes)) [
      | inl in_it ↦
          let from = low in
          let place : at ≡ piece.address - base = refl in
          let there : k - at ≡ base + k - piece.address = omega arith in
          in_new bytes piece.bytes at k fits above in_it
          ∙ ap (λ i. get_or piece.bytes i 0) there
          ∙ sym (unwrap_or-slice_get piece.bytes (base + k - piece.address) 0)
          ∙ sym (ap (λ it. unwrap_or it 0) (held_by piece segments (base + k) (omega arith) (omega arith)))
      | inr past ↦
          let from = low in
          let place : at ≡ piece.address - base = refl in
          behind_new bytes piece.bytes at k fits past ∙ old k below ∙ same k (inr (omega arith))
    ]
  ]

  size_is : length new ≡ size
  size_is =
      let all = fits in
      let whole = long in
      let front : length (take at bytes) ≡ at = length-take-le at bytes (omega arith) in
      omega (
        arith,
        length-append (take at bytes ++ piece.bytes) (drop (at + length piece.bytes) bytes),
        length-append (take at bytes) piece.bytes,
        length-drop (at + length piece.bytes) bytes,
      )

  pub memory_with : memory_of order size (with_piece segments piece) ≡ copied (memory_of order size segments) piece.address piece.bytes
  unfolding memory_of
  memory_with = ap (memory_of_bytes order) (sym (fill_by_all (byte_of (with_piece segments piece)) new size 0 size_is has))

-- ---- what lies inside

-- what lies beside a piece, and the piece, lie inside: then the segment does
beside_inside : (size : ℕ) (piece segment : Segment) (rest : List Segment) →
    contains size piece.address (length piece.bytes) ≡ true →
    are_inside size (before piece.address segment ++ (behind (end_of piece) segment ++ rest)) ≡ true →
    (contains size segment.address (length segment.bytes) ≡ true) × (are_inside size rest ≡ true)
beside_inside size piece segment rest inside all =
    go (nat_lt segment.address piece.address) (nat_lt (end_of piece) (end_of segment)) refl refl
  where
    go : (starts more : Bool) → nat_lt segment.address piece.address ≡ starts →
        nat_lt (end_of piece) (end_of segment) ≡ more →
        (contains size segment.address (length segment.bytes) ≡ true) × (are_inside size rest ≡ true)
    go true true starts more =
        let there = rw (starts, more) at all in (
          grind (arith, nat_tests, there, inside, length-drop (end_of piece - segment.address) segment.bytes),
          grind (arith, nat_tests, there),
        )
    go true false starts more =
        let there = rw (starts, more) at all in
        (grind (arith, nat_tests, there, inside), grind (arith, nat_tests, there))
    go false true starts more =
        let there = rw (starts, more) at all in (
          grind (arith, nat_tests, there, inside, length-drop (end_of piece - segment.address) segment.bytes),
          grind (arith, nat_tests, there),
        )
    go false false starts more =
        let there = rw (starts, more) at all in
        (grind (arith, nat_tests, there, inside), grind (arith, nat_tests, there))

-- the piece lies inside, as the last
piece_inside : (size : ℕ) (xs : List Segment) (piece : Segment) → are_inside size (xs ++ piece ∷ []) ≡ true →
    contains size piece.address (length piece.bytes) ≡ true
piece_inside size [] piece all = grind (arith, all)
piece_inside size (x ∷ xs) piece all = piece_inside size xs piece (grind (arith, all))

pub inside_with : (size : ℕ) (segments : List Segment) (piece : Segment) → are_inside size (with_piece segments piece) ≡ true →
    (are_inside size segments ≡ true) × (contains size piece.address (length piece.bytes) ≡ true)
inside_with size segments piece all =
    let inside : contains size piece.address (length piece.bytes) ≡ true = piece_inside size (flat_map (beside piece) segments) piece all in
    (go segments inside all, inside)
  where
    go : (xs : List Segment) → contains size piece.address (length piece.bytes) ≡ true → are_inside size (with_piece xs piece) ≡ true →
        are_inside size xs ≡ true
    go [] inside whole = refl
    go (x ∷ xs) inside whole =
        let parts = beside_inside size piece x (with_piece xs piece) inside (rw (opened piece x xs) at whole) in
        rw (parts.0) (go xs inside parts.1)
