-- The entries of a tree as ranges: a new entry, and what the last one below an address says.
use Rattle.std.proofs.Common.{◌≡◌, ℕ, ◌+◌, ◌-◌, ◌^◌, ◌<◌, ◌≤◌, Bool, true, false, cond, eqb, ltb, List, [], ◌∷◌, ◌++◌, refl, sym, ap, ◌∙◌, inl, inr, ◌⊎◌, arith}
use Rattle.std.specs.Prelude.{◌&&◌, ◌||◌, not, filter}
use Rattle.std.proofs.lemmas.Bool.{cases_Bool, cases_lt, lt-ltb, le-ltb, ltb-true, ne_eqb, eqb-true, eqb-false, and_from, or_parts, true≢false}
use Rattle.std.proofs.lemmas.List.Elements.{filter_agree}
use Rattle.std.specs.Ordering.{nat_cmp, is_le}
use Rattle.std.specs.BTreeMap.{insert_entry}
use Rattle.std.specs.BTreeMap.Range.{range_contains, entries_between}
use Rattle.std.specs.declared.ops.Bound.TheVariants.{Excluded, Unbounded}
use Rattle.std.specs.declared.cmp.Ordering.TheVariants.{Equal, Greater}
use Rattle.brd_ranges.specs.declared.range.Range.{Range}
use Rattle.brd_ranges.specs.Ranges.{overlaps, with_range, AreApart}
use Rattle.brd_ranges.specs.Entries.{ranges_of, AreEntries}
use Rattle.brd_ranges.proofs.RangesLemmas.{total_size_within, apart_from_lower, total_size-with_range, apart-with_range}

-- ---- a new entry

pub ranges_of-insert_entry : {T : Type 0} (low high : ℕ) (entries : List (ℕ × (ℕ × T))) (start end : ℕ) (item : T) → AreApart low high (ranges_of entries)
    → start < end → overlaps (ranges_of entries) start end ≡ false
    → ranges_of (insert_entry nat_cmp entries start (end, item)) ≡ with_range (ranges_of entries) (record { start = start; end = end; item = item })
ranges_of-insert_entry low high [] start end item apart filled free = refl
ranges_of-insert_entry {T = T} low high (entry ∷ entries) start end item apart filled free =
    let parts = or_parts (ltb entry.0 end && ltb start entry.1.0) (overlaps (ranges_of entries) start end) free in
    elim (cases_lt start entry.0) [
      | inl before ↦ rw (lt-ltb start entry.0 before) refl
      | inr behind ↦
          rw (le-ltb start entry.0 behind, ne_eqb start entry.0 (λ same. true≢false (sym (and_from (ltb entry.0 end) (ltb start entry.1.0) (lt-ltb entry.0 end (omega arith)) (lt-ltb start entry.1.0 (omega (arith, apart.1)))) ∙ parts.0)))
          (ap (λ (ranges : List (Range T)). record { start = entry.0; end = entry.1.0; item = entry.1.1 } ∷ ranges) (ranges_of-insert_entry entry.1.0 high entries start end item apart.2 filled parts.1))
    ]

pub entries_more : {T : Type 0} (size : ℕ) (entries : List (ℕ × (ℕ × T))) (start end : ℕ) (item : T) → AreEntries size entries
    → start < end → end < 2 ^ 32 → overlaps (ranges_of entries) start end ≡ false
    → AreEntries (size + (end - start)) (insert_entry nat_cmp entries start (end, item))
entries_more {T = T} size entries start end item are filled small free =
    let new : Range T = record { start = start; end = end; item = item } in
    let is = ranges_of-insert_entry 0 (2 ^ 32 - 1) entries start end item are.apart filled free in
    record {
      size_is = rw is (omega (arith, total_size-with_range (ranges_of entries) new, are.size_is));
      apart = rw is (apart-with_range 0 (2 ^ 32 - 1) (ranges_of entries) new are.apart (omega arith) filled (omega arith) free);
    }

-- ---- the last entry below an address

abbrev below : {T : Type 0} → ℕ → ℕ × (ℕ × T) → Bool
below high entry = ltb entry.0 high

-- the test that a search below an address makes
same_test : (high key : ℕ) → not (is_le (nat_cmp high key)) ≡ ltb key high
same_test high key =
    elim (cases_lt high key) [
      | inl lt ↦ rw (lt-ltb high key lt, le-ltb key high (omega arith)) refl
      | inr le ↦ rw (le-ltb high key le) (by le (eqb high key) refl)
    ]
  where
    by : key ≤ high → (b : Bool) → b ≡ eqb high key → not (is_le (cond b Equal Greater)) ≡ ltb key high
    by le true is = sym (le-ltb key high (omega (arith, eqb-true high key (sym is))))
    by le false is = sym (lt-ltb key high (omega (arith, le, eqb-false high key (sym is))))

below_is : {T : Type 0} (high : ℕ) (entries found : List (ℕ × (ℕ × T))) → found ≡ entries_between nat_cmp Unbounded (Excluded high) entries → found ≡ filter (below high) entries
below_is high entries found is = is ∙ filter_agree (λ entry. range_contains nat_cmp Unbounded (Excluded high) entry.0) (below high) (λ entry. same_test high entry.0) entries

no_entry : {X : Type 0} (x : X) (xs : List X) → [] ≡ x ∷ xs → ⊥
no_entry x xs is = cc

no_last : {X : Type 0} (x : X) (xs : List X) → [] ≡ xs ++ x ∷ [] → ⊥
no_last x [] is = cc
no_last x (first ∷ xs) is = cc

or_none : (b : Bool) → (b || false) ≡ b
or_none true = refl
or_none false = refl

or_more : (low end more : ℕ) → end < more → (ltb low end || ltb low more) ≡ ltb low more
or_more low end more lt = elim (cases_Bool (ltb low end)) [
  | inl before ↦ rw (before, lt-ltb low more (omega (arith, ltb-true low end before))) refl
  | inr behind ↦ rw behind refl
]

-- where no range begins below an address, none overlaps what ends there
nothing_below : {T : Type 0} (low high : ℕ) (entries : List (ℕ × (ℕ × T))) → [] ≡ filter (below high) entries → overlaps (ranges_of entries) low high ≡ false
nothing_below low high [] is = refl
nothing_below low high (entry ∷ entries) is =
    elim (cases_Bool (ltb entry.0 high)) [
      | inl here ↦ absurd (no_entry entry (filter (below high) entries) (rw here at is))
      | inr above ↦ rw above (nothing_below low high entries (rw above at is))
    ]

-- a list that ends with an entry begins with it or goes on to it
ends : {X : Type 0} (x last : X) (xs front : List X) → x ∷ xs ≡ front ++ last ∷ [] → ((x ≡ last) × ([] ≡ xs)) ⊎ ((rest : List X) × (xs ≡ rest ++ last ∷ []))
ends x last xs [] is = inl (cc, cc)
ends x last xs (first ∷ front) is = inr (front, cc)

-- no range begins below an address after the last one that does, so that one alone decides
last_decides : {T : Type 0} (bottom top low high : ℕ) (entries front : List (ℕ × (ℕ × T))) (last : ℕ × (ℕ × T)) → AreApart bottom top (ranges_of entries)
    → filter (below high) entries ≡ front ++ last ∷ [] → (bottom < last.1.0) × (overlaps (ranges_of entries) low high ≡ ltb low last.1.0)
last_decides bottom top low high [] front last apart is = absurd (no_last last front is)
last_decides {T = T} bottom top low high (entry ∷ entries) front last apart is =
    elim (cases_Bool (ltb entry.0 high)) [
      | inl here ↦ elim (ends entry last (filter (below high) entries) front (rw here at is)) [
        | inl only ↦
            let end : entry.1.0 ≡ last.1.0 = ap (λ (e : ℕ × (ℕ × T)). e.1.0) only.0 in
            (omega (arith, end, apart.0, apart.1), rw (here, nothing_below low high entries only.1, end) (or_none (ltb low last.1.0)))
        | inr more ↦
            let ih = last_decides entry.1.0 top low high entries more.0 last apart.2 more.1 in
            (omega (arith, ih.0, apart.0, apart.1), rw (here, ih.1) (or_more low entry.1.0 last.1.0 ih.0))
      ]
      | inr above ↦
          let ih = last_decides entry.1.0 top low high entries front last apart.2 (rw above at is) in
          (omega (arith, ih.0, apart.0, apart.1), rw above ih.1)
    ]

pub found_last : {T : Type 0} (size low high : ℕ) (entries found front : List (ℕ × (ℕ × T))) (last : ℕ × (ℕ × T)) → AreEntries size entries
    → found ≡ entries_between nat_cmp Unbounded (Excluded high) entries → found ≡ front ++ last ∷ [] → ltb low last.1.0 ≡ overlaps (ranges_of entries) low high
found_last size low high entries found front last are is ends =
    sym (last_decides 0 (2 ^ 32 - 1) low high entries front last are.apart (sym (below_is high entries found is) ∙ ends)).1

pub found_none : {T : Type 0} (low high : ℕ) (entries found : List (ℕ × (ℕ × T))) → found ≡ entries_between nat_cmp Unbounded (Excluded high) entries → found ≡ [] → false ≡ overlaps (ranges_of entries) low high
found_none low high entries found is none = sym (nothing_below low high entries (sym none ∙ below_is high entries found is))

-- ---- the first entry

pub entries_less : {T : Type 0} (size : ℕ) (entry : ℕ × (ℕ × T)) (entries : List (ℕ × (ℕ × T))) → AreEntries size (entry ∷ entries) → AreEntries (size - (entry.1.0 - entry.0)) entries
entries_less size entry entries are = record {
  size_is = omega (arith, are.size_is);
  apart = apart_from_lower 0 entry.1.0 (2 ^ 32 - 1) (ranges_of entries) (omega arith) are.apart.2;
}

-- the sum of the sizes stays a word
pub still_small : {T : Type 0} (size : ℕ) (entries : List (ℕ × (ℕ × T))) (start end : ℕ) (item : T) → AreEntries size entries
    → start < end → end < 2 ^ 32 → overlaps (ranges_of entries) start end ≡ false → size + (end - start) < 2 ^ 32
still_small size entries start end item are filled small free =
    let more = entries_more size entries start end item are filled small free in
    omega (arith, more.size_is, total_size_within 0 (2 ^ 32 - 1) (ranges_of (insert_entry nat_cmp entries start (end, item))) more.apart)
