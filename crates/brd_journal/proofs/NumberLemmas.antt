-- Decimal digits without leading zeros are just what `decimal` writes.
use Rattle.std.proofs.Common.{◌≡◌, ℕ, ◌+◌, ◌-◌, ◌*◌, ◌≤◌, ◌<◌, ◌^◌, ◌&&◌, eqb, leb, Bool, true, false, cond, List, [], ◌∷◌, length, get_or, refl, sym, ap, ◌∙◌, inl, inr, arith}
use Rattle.std.specs.Prelude.{Option, Some, None, option_and_then}
use Rattle.std.specs.Fmt.{decimal}
use Rattle.std.specs.Int.{IsInRange}
use Rattle.std.specs.List.{list_all}
use Rattle.std.specs.Str.Parse.{AllDigits}
use Rattle.std.proofs.lemmas.Bool.{cases_Bool, cases_eq, and_parts, le-leb, lt-leb, leb-true, eqb-true, eq-eqb}
use Rattle.std.proofs.lemmas.Option.{none-some, cond_some}
use Rattle.std.proofs.lemmas.Str.Parse.{FoldsDigits, IsNumeralModel, tells_digits, numerals_by_fold}
use Rattle.std.proofs.lemmas.Fmt.{decimal_is_IsNumeral, digits_value-decimal, first_decimal, decimal_digit, decimal-digits_value}
use Rattle.brd_text.specs.Numbers.{hex_digit_value, digit_of, at_most, value_behind, value_of, decimal_of, has_leading_zero, plain_decimal_of}
use Rattle.brd_text.proofs.Numerals.{value_behind-none}

-- digits read from the left, after a number
abbrev read_on : ℕ → List ℕ → ℕ
read_on n [] = n
read_on n (c ∷ cs) = read_on (n * 10 + (c - 48)) cs

folds : FoldsDigits read_on
folds = record { empty = λ n. refl; more = λ n c cs h. refl }

own : IsNumeralModel (AllDigits 10) (read_on 0)
own = numerals_by_fold (AllDigits 10) tells_digits read_on folds

digit_in : (c : ℕ) → IsInRange 48 57 c → digit_of 10 c ≡ Some (c - 48)
unfolding digit_of hex_digit_value
digit_in c h =
    let low : leb 48 c ≡ true = le-leb 48 c (omega arith) in
    let high : leb c 57 ≡ true = le-leb c 57 (omega arith) in
    let small : leb (c - 48) 9 ≡ true = le-leb (c - 48) 9 (omega arith) in
    rw (low, high, small) refl

too_large : (n d : ℕ) → 9 < n → at_most 9 (Some n) ≡ Some d → ⊥
too_large n d large h = let q : None ≡ Some d = rw (lt-leb n 9 large) at h in none-some d q

digit_is : (c d : ℕ) → digit_of 10 c ≡ Some d → IsInRange 48 57 c × (d ≡ c - 48)
unfolding digit_of hex_digit_value
digit_is c d h =
    elim (cases_Bool (leb 48 c && leb c 57)) [
      | inl digit ↦
          let q : cond (leb (c - 48) 9) (Some (c - 48)) None ≡ Some d = rw digit at h in
          let parts = and_parts (leb 48 c) (leb c 57) digit in
          ((leb-true 48 c parts.0, leb-true c 57 parts.1), sym (cond_some (leb (c - 48) 9) (c - 48) d q).1)
      | inr other ↦ elim (cases_Bool (leb 65 c && leb c 70)) [
        | inl upper ↦
            let q : at_most 9 (Some (c - 55)) ≡ Some d = rw (other, upper) at h in
            let low : 65 ≤ c = leb-true 65 c (and_parts (leb 65 c) (leb c 70) upper).0 in
            absurd (too_large (c - 55) d (omega arith) q)
        | inr other2 ↦ elim (cases_Bool (leb 97 c && leb c 102)) [
          | inl lower ↦
              let q : at_most 9 (Some (c - 87)) ≡ Some d = rw (other, other2, lower) at h in
              let low : 97 ≤ c = leb-true 97 c (and_parts (leb 97 c) (leb c 102) lower).0 in
              absurd (too_large (c - 87) d (omega arith) q)
          | inr other3 ↦
              let q : None ≡ Some d = rw (other, other2, other3) at h in
              absurd (none-some d q)
        ]
      ]
    ]

-- ---- digits are read as their number

read_digits : (a : ℕ) (ds : List ℕ) → AllDigits 10 ds → value_behind 10 (Some a) ds ≡ Some (read_on a ds)
read_digits a [] h = refl
read_digits a (c ∷ cs) h =
    let parts = tells_digits.parts c cs h in
    let sum : 10 * a + (c - 48) ≡ a * 10 + (c - 48) = omega arith in
    rw (digit_in c parts.0, sum) (read_digits (a * 10 + (c - 48)) cs parts.1)

-- what is read as a number are digits
record IsRead (a : ℕ) (ds : List ℕ) (v : ℕ) : Type 0 where
  digits : AllDigits 10 ds
  value : v ≡ read_on a ds

by_first : (a c : ℕ) (cs : List ℕ) (v : ℕ) (o : Option ℕ) → digit_of 10 c ≡ o → ((n : ℕ) → value_behind 10 (Some n) cs ≡ Some v → IsRead n cs v)
    → value_behind 10 (option_and_then (λ d. Some (10 * a + d)) o) cs ≡ Some v → IsRead a (c ∷ cs) v
by_first a c cs v None digit rest h = let q : None ≡ Some v = rw value_behind-none at h in absurd (none-some v q)
by_first a c cs v (Some d) digit rest h =
    let in_range = digit_is c d digit in
    let more = rest (10 * a + d) h in
    let sum : 10 * a + d ≡ a * 10 + (c - 48) = omega (arith, in_range.1) in
    record { digits = tells_digits.more c cs in_range.0 more.digits; value = more.value ∙ ap (λ (n : ℕ). read_on n cs) sum }

read_is : (a : ℕ) (ds : List ℕ) (v : ℕ) → value_behind 10 (Some a) ds ≡ Some v → IsRead a ds v
read_is a [] v h = record { digits = tells_digits.empty; value = let q : a ≡ v = cc in sym q }
read_is a (c ∷ cs) v h = by_first a c cs v (digit_of 10 c) refl (λ n p. read_is n cs v p) h

-- ---- without leading zeros

no_zero : (ds : List ℕ) → (get_or ds 0 0 ≡ 48 → length ds ≡ 1) → has_leading_zero ds ≡ false
no_zero [] h = refl
no_zero (b ∷ bs) h =
    elim (cases_Bool (eqb b 48)) [
      | inl zero ↦ let one : length (b ∷ bs) ≡ 1 = h (eqb-true b 48 zero) in let none : length bs ≡ 0 = omega arith in rw (zero, none) refl
      | inr other ↦ rw other refl
    ]

pub not_zero : (n : ℕ) → 0 < n → eqb n 0 ≡ false
not_zero n some = elim (cases_Bool (eqb n 0)) [ inl t ↦ let e : n ≡ 0 = eqb-true n 0 t in absurd (omega arith) | inr f ↦ f ]

is_alone : (ds : List ℕ) → 0 < length ds → has_leading_zero ds ≡ false → get_or ds 0 0 ≡ 48 → length ds ≡ 1
is_alone [] some h z = absurd (omega arith)
is_alone (b ∷ []) some h z = refl
is_alone (b ∷ c ∷ bs) some h z = let t : eqb b 48 ≡ true = eq-eqb b 48 z in let q : true ≡ false = rw (t, not_zero (length (c ∷ bs)) (omega arith)) at h in cc

first_of_decimal : (n : ℕ) → n < 2 ^ 64 → get_or (decimal n) 0 0 ≡ 48 → length (decimal n) ≡ 1
first_of_decimal n small h =
    elim (cases_eq n 0) [
      | inl zero ↦ let less : n < 10 = omega arith in rw (decimal_digit n less) refl
      | inr some ↦ let above = first_decimal n (omega arith) small in absurd (omega (arith, above))
    ]

value_at : (ds : List ℕ) (most v : ℕ) → 0 < length ds → value_behind 10 (Some 0) ds ≡ Some v → v ≤ most → value_of 10 most ds ≡ Some v
value_at [] most v some h le = absurd (omega arith)
value_at (b ∷ bs) most v some h le = rw (h, le-leb v most le) refl

-- what `decimal` writes is read as the number
pub plain_again : (v most : ℕ) → v ≤ most → v < 2 ^ 64 → plain_decimal_of (decimal v) most ≡ Some v
unfolding plain_decimal_of decimal_of
plain_again v most le small =
    let numeral = (decimal_is_IsNumeral v small).0 in
    let value : read_on 0 (decimal v) ≡ v = digits_value-decimal own v small in
    let read : value_behind 10 (Some 0) (decimal v) ≡ Some v = read_digits 0 (decimal v) numeral.1 ∙ ap (λ (n : ℕ). Some n) value in
    rw (no_zero (decimal v) (first_of_decimal v small)) (value_at (decimal v) most v numeral.0 read le)

value_is : (ds : List ℕ) (most v : ℕ) → value_of 10 most ds ≡ Some v → (0 < length ds) × (v ≤ most) × IsRead 0 ds v
value_is [] most v h = absurd (none-some v h)
value_is (b ∷ bs) most v h = by_value (value_behind 10 (Some 0) (b ∷ bs)) refl h
  where
    by_value : (o : Option ℕ) → value_behind 10 (Some 0) (b ∷ bs) ≡ o → at_most most o ≡ Some v → (0 < length (b ∷ bs)) × (v ≤ most) × IsRead 0 (b ∷ bs) v
    by_value None e p = absurd (none-some v p)
    by_value (Some n) e p =
        let q = cond_some (leb n most) n v p in
        (omega arith, (let le : n ≤ most = leb-true n most q.0 in rw q.1 at le), read_is 0 (b ∷ bs) v (e ∙ ap (λ (x : ℕ). Some x) q.1))

-- what is read as a number is what `decimal` writes of it
pub plain_is : (ds : List ℕ) (most v : ℕ) → most < 2 ^ 64 → plain_decimal_of ds most ≡ Some v → (ds ≡ decimal v) × (v ≤ most)
unfolding plain_decimal_of decimal_of
plain_is ds most v large h =
    elim (cases_Bool (has_leading_zero ds)) [
      | inl zero ↦ let q : None ≡ Some v = rw zero at h in absurd (none-some v q)
      | inr plain ↦
          let q : value_of 10 most ds ≡ Some v = rw plain at h in
          let parts = value_is ds most v q in
          let small : read_on 0 ds < 2 ^ 64 = omega (arith, parts.2.value, parts.1) in
          let same : decimal (read_on 0 ds) ≡ ds = decimal-digits_value own ds parts.2.digits parts.0 (is_alone ds parts.0 plain) small in
          (sym same ∙ ap decimal (sym parts.2.value), parts.1)
    ]

-- a number's digits are none of these bytes
pub digits_pass : (p : ℕ → Bool) → ((c : ℕ) → IsInRange 48 57 c → p c ≡ true) → (n : ℕ) → n < 2 ^ 64 → list_all p (decimal n) ≡ true
digits_pass p h n small = all_digits p h (decimal n) (decimal_is_IsNumeral n small).0.1
  where
    all_digits : (p : ℕ → Bool) → ((c : ℕ) → IsInRange 48 57 c → p c ≡ true) → (ds : List ℕ) → AllDigits 10 ds → list_all p ds ≡ true
    all_digits p h [] d = refl
    all_digits p h (c ∷ cs) d = let parts = tells_digits.parts c cs d in rw (h c parts.0, all_digits p h cs parts.1) refl
