-- Ranges that lie apart: how many addresses they have, one more of them, and the one that an address lies in.
use Rattle.std.proofs.Common.{◌≡◌, ℕ, ◌+◌, ◌-◌, ◌<◌, ◌≤◌, Bool, true, false, cond, ltb, leb, List, [], ◌∷◌, Option, None, Some, refl, sym, ◌∙◌, inl, inr, arith}
use Rattle.std.specs.Prelude.{◌&&◌, ◌||◌, is_some}
use Rattle.std.proofs.lemmas.Bool.{cases_Bool, lt-ltb, le-ltb, ltb-true, ltb-false, leb-true, leb-false, and_parts, and_from, and_cases, or_parts, true≢false}
use Rattle.brd_ranges.specs.declared.range.Range.{Range}
use Rattle.brd_ranges.specs.Ranges.{overlaps, with_range, total_size, covers, range_at, AreApart}

-- ---- how many addresses

-- ranges that lie apart from low up to high have no more addresses than there are
pub total_size_within : {T : Type 0} (low high : ℕ) (ranges : List (Range T)) → AreApart low high ranges → total_size ranges + low ≤ high
total_size_within low high [] apart = omega arith
total_size_within low high (range ∷ ranges) apart = omega (arith, total_size_within range.end high ranges apart.2, apart.0, apart.1)

pub apart_from_lower : {T : Type 0} (lower low high : ℕ) (ranges : List (Range T)) → lower ≤ low → AreApart low high ranges → AreApart lower high ranges
apart_from_lower lower low high [] le apart = omega arith
apart_from_lower lower low high (range ∷ ranges) le apart = (omega (arith, apart.0), apart.1, apart.2)

-- ---- one range more

pub total_size-with_range : {T : Type 0} (ranges : List (Range T)) (new : Range T) → total_size (with_range ranges new) ≡ total_size ranges + (new.end - new.start)
total_size-with_range [] new = omega arith
total_size-with_range (range ∷ ranges) new =
    elim (cases_Bool (ltb new.start range.start)) [
      | inl before ↦ rw before (omega arith)
      | inr behind ↦ rw behind (omega (arith, total_size-with_range ranges new))
    ]

either_first : (x y z : Bool) → (x || (y || z)) ≡ (y || (x || z))
either_first true true z = refl
either_first true false z = refl
either_first false y z = refl

pub overlaps-with_range : {T : Type 0} (ranges : List (Range T)) (new : Range T) (low high : ℕ)
    → overlaps (with_range ranges new) low high ≡ ((ltb new.start high && ltb low new.end) || overlaps ranges low high)
overlaps-with_range [] new low high = refl
overlaps-with_range (range ∷ ranges) new low high =
    elim (cases_Bool (ltb new.start range.start)) [
      | inl before ↦ rw before refl
      | inr behind ↦
          rw (behind, overlaps-with_range ranges new low high)
          (either_first (ltb range.start high && ltb low range.end) (ltb new.start high && ltb low new.end) (overlaps ranges low high))
    ]

-- a range that has no address with another in common ends before it or begins after it
ends_before : {T : Type 0} (range : Range T) (low high : ℕ) → (ltb range.start high && ltb low range.end) ≡ false → low < high → range.start ≤ low → range.end ≤ low
ends_before range low high free filled le =
    elim (and_cases _ _ free) [
      | inl behind ↦
          let above : high ≤ range.start = ltb-false range.start high behind in
          absurd (omega (arith, above))
      | inr before ↦ ltb-false low range.end before
    ]

begins_behind : {T : Type 0} (range : Range T) (low high : ℕ) → (ltb range.start high && ltb low range.end) ≡ false → range.start < range.end → low < range.start → high ≤ range.start
begins_behind range low high free filled lt =
    elim (and_cases _ _ free) [
      | inl behind ↦ ltb-false range.start high behind
      | inr before ↦ absurd (omega (arith, ltb-false low range.end before))
    ]

pub apart-with_range : {T : Type 0} (low high : ℕ) (ranges : List (Range T)) (new : Range T) → AreApart low high ranges
    → low ≤ new.start → new.start < new.end → new.end ≤ high → overlaps ranges new.start new.end ≡ false → AreApart low high (with_range ranges new)
apart-with_range low high [] new apart above filled below free = (above, filled, below)
apart-with_range low high (range ∷ ranges) new apart above filled below free =
    let parts = or_parts (ltb range.start new.end && ltb new.start range.end) (overlaps ranges new.start new.end) free in
    elim (cases_Bool (ltb new.start range.start)) [
      | inl before ↦ rw before (above, filled, (begins_behind range new.start new.end parts.0 apart.1 (ltb-true new.start range.start before), apart.1, apart.2))
      | inr behind ↦
          let end = ends_before range new.start new.end parts.0 filled (ltb-false new.start range.start behind) in
          rw behind (apart.0, apart.1, apart-with_range range.end high ranges new apart.2 end filled below parts.1)
    ]

-- ---- the range that an address lies in

-- a range that an address lies in has addresses in common with another that it lies in
meets : {T : Type 0} (range : Range T) (low high address : ℕ) → covers range address ≡ true → low ≤ address → address < high → (ltb range.start high && ltb low range.end) ≡ true
meets range low high address here le lt =
    let parts = and_parts (leb range.start address) (ltb address range.end) here in
    let start = leb-true range.start address parts.0 in
    let end = ltb-true address range.end parts.1 in
    and_from (ltb range.start high) (ltb low range.end) (lt-ltb range.start high (omega (arith, start, lt))) (lt-ltb low range.end (omega (arith, end, le)))

-- where nothing overlaps, no address lies in a range
pub range_at-free : {T : Type 0} (ranges : List (Range T)) (low high address : ℕ) → overlaps ranges low high ≡ false → low ≤ address → address < high → range_at ranges address ≡ None
range_at-free [] low high address free le lt = refl
range_at-free (range ∷ ranges) low high address free le lt =
    let parts = or_parts (ltb range.start high && ltb low range.end) (overlaps ranges low high) free in
    elim (cases_Bool (covers range address)) [
      | inl here ↦ absurd (true≢false (sym (meets range low high address here le lt) ∙ parts.0))
      | inr elsewhere ↦ rw elsewhere (range_at-free ranges low high address parts.1 le lt)
    ]

either_one : {T : Type 0} (x y : Bool) (a b : T) (others : Option T) → (x && y) ≡ false → cond x (Some a) (cond y (Some b) others) ≡ cond y (Some b) (cond x (Some a) others)
either_one true true a b others none = absurd (true≢false none)
either_one true false a b others none = refl
either_one false y a b others none = refl

-- an address lies in a new range, or where it lay before
pub range_at-with_range : {T : Type 0} (ranges : List (Range T)) (new : Range T) (address : ℕ) → overlaps ranges new.start new.end ≡ false
    → range_at (with_range ranges new) address ≡ cond (covers new address) (Some new) (range_at ranges address)
range_at-with_range [] new address free = refl
range_at-with_range (range ∷ ranges) new address free =
    let parts = or_parts (ltb range.start new.end && ltb new.start range.end) (overlaps ranges new.start new.end) free in
    elim (cases_Bool (ltb new.start range.start)) [
      | inl before ↦ rw before refl
      | inr behind ↦
          rw (behind, range_at-with_range ranges new address parts.1)
          (either_one (covers range address) (covers new address) range new (range_at ranges address) (not_both parts.0))
    ]
  where
    not_both : (ltb range.start new.end && ltb new.start range.end) ≡ false → (covers range address && covers new address) ≡ false
    not_both apart =
        elim (cases_Bool (covers range address && covers new address)) [
          | inl both ↦
              let here = and_parts (covers range address) (covers new address) both in
              let there = and_parts (leb new.start address) (ltb address new.end) here.1 in
              absurd (true≢false (sym (meets range new.start new.end address here.0 (leb-true new.start address there.0) (ltb-true address new.end there.1)) ∙ apart))
          | inr not ↦ not
        ]

-- no address below all ranges lies in one
pub range_at-below : {T : Type 0} (low high : ℕ) (ranges : List (Range T)) (address : ℕ) → AreApart low high ranges → address < low → range_at ranges address ≡ None
range_at-below low high [] address apart lt = refl
range_at-below low high (range ∷ ranges) address apart lt =
    let elsewhere : covers range address ≡ false = elim (cases_Bool (leb range.start address)) [
      | inl le ↦ absurd (omega (arith, leb-true range.start address le, apart.0))
      | inr gt ↦ rw gt refl
    ] in
    rw elsewhere (range_at-below range.end high ranges address apart.2 (omega (arith, apart.0, apart.1)))

either_is : {T : Type 0} (here : Bool) (x : T) (others : Option T) → (here || is_some others) ≡ is_some (cond here (Some x) others)
either_is true x others = refl
either_is false x others = refl

-- an address lies in a range exactly where ranges overlap it
pub overlaps-range_at : {T : Type 0} (ranges : List (Range T)) (address : ℕ) → overlaps ranges address (address + 1) ≡ is_some (range_at ranges address)
overlaps-range_at [] address = refl
overlaps-range_at (range ∷ ranges) address =
    let others = overlaps-range_at ranges address in
    elim (cases_Bool (leb range.start address)) [
      | inl le ↦ rw (le, lt-ltb range.start (address + 1) (omega (arith, leb-true range.start address le)), others) (either_is (ltb address range.end) range (range_at ranges address))
      | inr gt ↦ rw (gt, le-ltb range.start (address + 1) (omega (arith, leb-false range.start address gt))) others
    ]
