-- The ranges of pieces: those of one piece more.
use Rattle.std.proofs.Common.{◌≡◌, ℕ, ◌+◌, ◌-◌, ◌<◌, ◌≤◌, Bool, true, false, cond, ltb, leb, List, [], ◌∷◌, ◌++◌, Option, None, Some, refl, sym, ap, ◌∙◌, inl, inr, arith}
use Rattle.std.specs.Prelude.{◌||◌, ◌&&◌, option_map}
use Rattle.std.specs.List.{AllByRecursion}
use Rattle.std.proofs.lemmas.List.Folds.{list_any-append}
use Rattle.std.proofs.lemmas.Bool.{cases_Bool, leb-true, ltb-true, and_parts}
use Rattle.brd_ranges.specs.declared.range.Range.{Range}
use Rattle.brd_ranges.specs.Ranges as ranges
use Rattle.brd_ranges.proofs.RangesLemmas.{total_size-with_range, overlaps-with_range, range_at-free, range_at-with_range}
use Rattle.brd_asm.specs.Layout.{Piece, size_of, overlaps}
use Rattle.brd_asm.specs.Index.{total_size, covers, offset_at, AreRangesOf}

total_push : (pieces : List Piece) (piece : Piece) → total_size (pieces ++ piece ∷ []) ≡ total_size pieces + size_of piece.content
total_push [] piece = omega arith
total_push (p ∷ ps) piece = let ih = total_push ps piece in omega (arith, ih)

last_or : (x y : Bool) → (x || y) ≡ (y || (x || false))
last_or true true = refl
last_or true false = refl
last_or false true = refl
last_or false false = refl

overlaps-push : (pieces : List Piece) (piece : Piece) (low high : ℕ)
    → overlaps (pieces ++ piece ∷ []) low high ≡ (overlaps pieces low high || ((ltb piece.place high && ltb low (piece.place + size_of piece.content)) || false))
overlaps-push pieces piece low high =
    list_any-append (λ p. ltb p.place high && ltb low (p.place + size_of p.content)) pieces (piece ∷ [])

-- ---- where bytes lie in the output

-- a piece after others has no byte where it isn't
offset_other : (pieces : List Piece) (piece : Piece) (a : ℕ) → covers piece a ≡ false → offset_at (pieces ++ piece ∷ []) a ≡ offset_at pieces a
offset_other [] piece a away = rw away refl
offset_other (p ∷ ps) piece a away = ap (λ (o : Option ℕ). cond (covers p a) (Some (a - p.place)) (option_map (λ k. size_of p.content + k) o)) (offset_other ps piece a away)

-- the bytes of a new piece lie after those of all others
offset_new : (pieces : List Piece) (piece : Piece) (a : ℕ) → offset_at pieces a ≡ None → covers piece a ≡ true → offset_at (pieces ++ piece ∷ []) a ≡ Some (total_size pieces + (a - piece.place))
offset_new [] piece a none here = rw here (ap (λ (n : ℕ). Some n) (omega arith))
offset_new (p ∷ ps) piece a none here = by (λ h. offset_new ps piece a h here) (covers p a) (offset_at ps a) refl none
  where
    by : (offset_at ps a ≡ None → offset_at (ps ++ piece ∷ []) a ≡ Some (total_size ps + (a - piece.place))) → (b : Bool) (o : Option ℕ) → o ≡ offset_at ps a → cond b (Some (a - p.place)) (option_map (λ i. size_of p.content + i) o) ≡ None
        → cond b (Some (a - p.place)) (option_map (λ i. size_of p.content + i) (offset_at (ps ++ piece ∷ []) a)) ≡ Some (size_of p.content + total_size ps + (a - piece.place))
    by new true o is h = absurd (cc)
    by new false None is h = ap (λ (x : Option ℕ). option_map (λ j. size_of p.content + j) x) (new (sym is)) ∙ ap (λ (n : ℕ). Some n) (omega arith)
    by new false (Some i) is h = absurd (cc)

-- no byte lies after those of all pieces
pub offset_below : (pieces : List Piece) (a k : ℕ) → offset_at pieces a ≡ Some k → k < total_size pieces
offset_below [] a k e = absurd (cc)
offset_below (p ∷ ps) a k e = by (λ i h. offset_below ps a i h) (covers p a) (offset_at ps a) refl refl e
  where
    inside : {x y : ℕ} → Some x ≡ Some y → x ≡ y
    inside h = cc

    here : covers p a ≡ true → a - p.place < size_of p.content
    here h =
        let parts = and_parts (leb p.place a) (ltb a (p.place + size_of p.content)) h in
        omega (arith, leb-true p.place a parts.0, ltb-true a (p.place + size_of p.content) parts.1)

    by : ((i : ℕ) → offset_at ps a ≡ Some i → i < total_size ps) → (b : Bool) (o : Option ℕ) → b ≡ covers p a → o ≡ offset_at ps a → cond b (Some (a - p.place)) (option_map (λ i. size_of p.content + i) o) ≡ Some k → k < size_of p.content + total_size ps
    by ih true o b_is o_is h = omega (arith, here (sym b_is), inside h)
    by ih false None b_is o_is h = absurd (cc)
    by ih false (Some i) b_is o_is h = omega (arith, ih i (sym o_is), inside h)

-- ---- ranges

abbrev FitsIn : ℕ → Range ℕ → Type 0
FitsIn size range = range.item + (range.end - range.start) ≤ size

fit_more : (size more : ℕ) (all : List (Range ℕ)) → size ≤ more → AllByRecursion (FitsIn size) all → AllByRecursion (FitsIn more) all
fit_more size more [] le fit = tt
fit_more size more (range ∷ all) le fit = (omega (arith, fit.0), fit_more size more all le fit.1)

fit-with_range : (size : ℕ) (all : List (Range ℕ)) (new : Range ℕ) → AllByRecursion (FitsIn size) all → FitsIn size new → AllByRecursion (FitsIn size) (ranges.with_range all new)
fit-with_range size [] new fit fits = (fits, tt)
fit-with_range size (range ∷ all) new fit fits =
    elim (cases_Bool (ltb new.start range.start)) [
      | inl before ↦ rw before (fits, fit)
      | inr behind ↦ rw behind (fit.0, fit-with_range size all new fit.1 fits)
    ]

one_more : (all : List (Range ℕ)) (pieces : List Piece) (piece : Piece) → AreRangesOf all pieces → overlaps pieces piece.place (piece.place + size_of piece.content) ≡ false
    → AreRangesOf (ranges.with_range all (record { start = piece.place; end = piece.place + size_of piece.content; item = ranges.total_size all })) (pieces ++ piece ∷ [])
one_more all pieces piece are apart = record {
  size = omega (arith, total_size-with_range all new, total_push pieces piece, are.size);
  overlap = λ low high.
      overlaps-with_range all new low high
      ∙ ap (λ (b : Bool). (ltb piece.place high && ltb low (piece.place + size_of piece.content)) || b) (are.overlap low high)
      ∙ last_or (ltb piece.place high && ltb low (piece.place + size_of piece.content)) (overlaps pieces low high)
      ∙ sym (overlaps-push pieces piece low high);
  offset = λ a. ap (λ (range : Option (Range ℕ)). option_map (λ range. range.item + (a - range.start)) range) (range_at-with_range all new a free) ∙ elim (cases_Bool (covers piece a)) [
    | inl here ↦ rw here (ap (λ (n : ℕ). Some n) (omega (arith, are.size)) ∙ sym (offset_new pieces piece a (none a here) here))
    | inr away ↦ rw away (are.offset a ∙ sym (offset_other pieces piece a away))
  ];
  within = fit-with_range (total_size (pieces ++ piece ∷ [])) all new (fit_more (total_size pieces) (total_size (pieces ++ piece ∷ [])) all (omega (arith, total_push pieces piece)) are.within) (omega (arith, total_push pieces piece, are.size));
}
  where
    new : Range ℕ
    new = record { start = piece.place; end = piece.place + size_of piece.content; item = ranges.total_size all }

    free : ranges.overlaps all piece.place (piece.place + size_of piece.content) ≡ false
    free = are.overlap piece.place (piece.place + size_of piece.content) ∙ apart

    none : (a : ℕ) → covers piece a ≡ true → offset_at pieces a ≡ None
    none a here =
        let parts = and_parts (leb piece.place a) (ltb a (piece.place + size_of piece.content)) here in
        sym (are.offset a) ∙ ap (λ (range : Option (Range ℕ)). option_map (λ range. range.item + (a - range.start)) range) (range_at-free all piece.place (piece.place + size_of piece.content) a free (leb-true piece.place a parts.0) (ltb-true a (piece.place + size_of piece.content) parts.1))

-- with a piece of this size, whose bytes lie after all others
pub ranges_more : (all : List (Range ℕ)) (pieces : List Piece) (piece : Piece) (size offset : ℕ) → AreRangesOf all pieces → size ≡ size_of piece.content → offset ≡ ranges.total_size all → overlaps pieces piece.place (piece.place + size) ≡ false
    → AreRangesOf (ranges.with_range all (record { start = piece.place; end = piece.place + size; item = offset })) (pieces ++ piece ∷ [])
ranges_more all pieces piece size offset are size_is offset_is apart = rw (size_is, offset_is) (one_more all pieces piece are (rw size_is at apart))
