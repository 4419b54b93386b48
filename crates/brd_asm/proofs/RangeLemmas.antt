-- What is left of the ranges of pieces, when those with the lowest addresses are taken out one after the other.
use Rattle.std.proofs.Common.{◌≡◌, ℕ, ◌+◌, ◌-◌, ◌^◌, ◌<◌, ◌≤◌, ltb, leb, List, [], ◌∷◌, length, drop, take, Option, None, Some, refl, sym, ap, ◌∙◌, inl, inr, arith}
use Rattle.std.specs.Prelude.{slice_get, option_map, option_and_then}
use Rattle.std.specs.List.{AllByRecursion}
use Rattle.std.proofs.lemmas.Bool.{cases_lt, lt-ltb, le-ltb, le-leb, and_from, and_right}
use Rattle.std.proofs.lemmas.Option.{slice_get-get_or}
use Rattle.std.proofs.lemmas.List.{length-take, length-drop, get_or-take, get_or-drop}
use Rattle.brd_mem.specs.declared.image.Segment.{Segment}
use Rattle.brd_ranges.specs.declared.range.Range.{Range}
use Rattle.brd_ranges.specs.Ranges.{range_at, AreApart}
use Rattle.brd_ranges.proofs.RangesLemmas.{range_at-below}
use Rattle.brd_asm.specs.Layout.{Piece}
use Rattle.brd_asm.specs.Image.{AreStretches}
use Rattle.brd_asm.specs.Output.{joined}
use Rattle.brd_asm.specs.Index.{total_size, byte_at, offset_in, AreRangesOf}
use Rattle.brd_asm.proofs.StretchLemmas.{Covers, covers_more, covers_all, covers_nothing}

-- The stretches are those of memory up to an address, and the ranges that are left say what memory has from there on.
pub record Remains (all : List (Range ℕ)) (memory : ℕ → Option ℕ) (output : List ℕ) (ss : List Segment) : Type 0 where
  pub high : ℕ
  pub covered : Covers memory high ss
  pub above : (a : ℕ) → a < high → range_at all a ≡ None
  pub within : AllByRecursion (λ range. range.item + (range.end - range.start) ≤ length output) all
  pub bytes : (a : ℕ) → high ≤ a → memory a ≡ option_and_then (slice_get output) (offset_in all a)

pub remains_all : (all : List (Range ℕ)) (pieces : List Piece) (output : List ℕ) → AreRangesOf all pieces → length output ≡ total_size pieces → Remains all (byte_at output pieces) output []
remains_all all pieces output are whole = record {
  high = 0;
  covered = covers_nothing (byte_at output pieces);
  above = λ a lt. absurd (omega arith);
  within = rw whole are.within;
  bytes = λ a le. ap (λ (o : Option ℕ). option_and_then (slice_get output) o) (sym (are.offset a));
}

-- the byte at an address that lies in a range of these
abbrev byte_by : List ℕ → ℕ → Option (Range ℕ) → Option ℕ
byte_by output a found = option_and_then (slice_get output) (option_map (λ range. range.item + (a - range.start)) found)

here : (range : Range ℕ) (rest : List (Range ℕ)) (a : ℕ) → range.start ≤ a → a < range.end → range_at (range ∷ rest) a ≡ Some range
here range rest a le lt = rw (and_from (leb range.start a) (ltb a range.end) (le-leb range.start a le) (lt-ltb a range.end lt)) refl

past : (range : Range ℕ) (rest : List (Range ℕ)) (a : ℕ) → range.end ≤ a → range_at (range ∷ rest) a ≡ range_at rest a
past range rest a le = rw (and_right (leb range.start a) (ltb a range.end) (le-ltb a range.end le)) refl

-- ---- the lowest range is taken out

pub remains_more : (range : Range ℕ) (rest : List (Range ℕ)) (memory : ℕ → Option ℕ) (output : List ℕ) (ss : List Segment) (more : List ℕ) → Remains (range ∷ rest) memory output ss → AreApart 0 (2 ^ 32 - 1) (range ∷ rest)
    → length more ≡ range.end - range.start → ((i : ℕ) → i < length more → slice_get more i ≡ slice_get output (range.item + i))
    → Remains rest memory output (joined ss range.start more)
remains_more range rest memory output ss more remains apart len same = record {
  high = range.start + length more;
  covered = covers_more memory remains.high range.start ss more remains.covered from (omega (arith, len, apart.1)) nothing has;
  above = λ a lt. range_at-below range.end (2 ^ 32 - 1) rest a apart.2 (omega (arith, len, apart.1));
  within = remains.within.1;
  bytes = λ a le. remains.bytes a (omega (arith, from)) ∙ ap (λ (found : Option (Range ℕ)). byte_by output a found) (past range rest a (omega (arith, len, apart.1)));
}
  where
    none_is : None ≡ Some range → ⊥
    none_is e = cc

    from : remains.high ≤ range.start
    from = elim (cases_lt range.start remains.high) [
      | inl lt ↦ absurd (none_is (sym (remains.above range.start lt) ∙ here range rest range.start (omega arith) apart.1))
      | inr le ↦ le
    ]

    nothing : (a : ℕ) → remains.high ≤ a → a < range.start → memory a ≡ None
    nothing a le lt = remains.bytes a le ∙ ap (λ (found : Option (Range ℕ)). byte_by output a found) (range_at-below range.start (2 ^ 32 - 1) (range ∷ rest) a (omega arith, apart.1, apart.2) lt)

    has : (i : ℕ) → i < length more → memory (range.start + i) ≡ slice_get more i
    has i lt =
        let k : range.start + i - range.start ≡ i = omega arith in
        remains.bytes (range.start + i) (omega (arith, from))
        ∙ ap (λ (found : Option (Range ℕ)). byte_by output (range.start + i) found) (here range rest (range.start + i) (omega arith) (omega (arith, len)))
        ∙ ap (λ (n : ℕ). slice_get output (range.item + n)) k ∙ sym (same i lt)

-- ---- nothing remains

pub remains_none : (memory : ℕ → Option ℕ) (output : List ℕ) (ss : List Segment) → Remains [] memory output ss → AreStretches memory ss
remains_none memory output ss remains = covers_all memory remains.high ss remains.covered remains.bytes

-- ---- words of slices

pub cut_length : (xs : List ℕ) (offset n : ℕ) → offset + n ≤ length xs → length (take n (drop offset xs)) ≡ n
cut_length xs offset n room = omega (arith, length-take n (drop offset xs), length-drop offset xs)

pub cut_at : (xs : List ℕ) (offset n i : ℕ) → offset + n ≤ length xs → i < n → slice_get (take n (drop offset xs)) i ≡ slice_get xs (offset + i)
cut_at xs offset n i room lt =
    slice_get-get_or (take n (drop offset xs)) i 0 (omega (arith, cut_length xs offset n room))
    ∙ ap (λ (x : ℕ). Some x) (get_or-take n (drop offset xs) i 0 lt ∙ get_or-drop offset xs i 0)
    ∙ sym (slice_get-get_or xs (offset + i) 0 (omega arith))
