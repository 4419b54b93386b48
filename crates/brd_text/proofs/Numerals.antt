-- A number that has grown too large, or has a byte that is no digit, is none, whatever follows.
use Rattle.std.proofs.Common.{◌≡◌, ℕ, ◌+◌, ◌*◌, ◌≤◌, ◌<◌, ◌==◌, false, List, [], ◌∷◌, length, get_or, drop, Option, Some, None, refl, sym, ap, ◌∙◌, arith}
use Rattle.std.proofs.lemmas.List.{drop_more}
use Rattle.std.proofs.lemmas.Bool.{lt-leb}
use Rattle.std.proofs.lemmas.Nat.{mul-le}
use Rattle.std.specs.Prelude.{option_and_then}
use Rattle.brd_text.specs.Numbers.{digit_of, value_behind, at_most, value_of}

pub value_behind-none : (base : ℕ) (bs : List ℕ) → value_behind base None bs ≡ None
value_behind-none base [] = refl
value_behind-none base (b ∷ bs) = refl

by_digit : (base most v : ℕ) (d : Option ℕ) (bs : List ℕ) → 1 ≤ base → most < v → ((w : ℕ) → most < w → at_most most (value_behind base (Some w) bs) ≡ None)
    → at_most most (value_behind base (option_and_then (λ d. Some (base * v + d)) d) bs) ≡ None
by_digit base most v None bs low large h = rw value_behind-none refl
by_digit base most v (Some d) bs low large h = h (base * v + d) (omega (arith, mul-le 1 v base v low (omega arith)))

pub never_again : (base most v : ℕ) (bs : List ℕ) → 1 ≤ base → most < v → at_most most (value_behind base (Some v) bs) ≡ None
never_again base most v [] low large = rw (lt-leb v most large) refl
never_again base most v (b ∷ bs) low large = by_digit base most v (digit_of base b) bs low large (λ w h. never_again base most w bs low h)

pub value_of-some : (base most : ℕ) (digits : List ℕ) → (length digits == 0) ≡ false → value_of base most digits ≡ at_most most (value_behind base (Some 0) digits)
value_of-some base most [] h = absurd (cc)
value_of-some base most (b ∷ bs) h = refl

-- one digit on, at place i
one_on : (base most v i : ℕ) (digits : List ℕ) (o : Option ℕ) → i < length digits → o ≡ digit_of base (get_or digits i 0)
    → at_most most (value_behind base (Some v) (drop i digits)) ≡ at_most most (value_behind base (option_and_then (λ d. Some (base * v + d)) o) (drop (i + 1) digits))
one_on base most v i digits o lt h =
    ap (λ (ds : List ℕ). at_most most (value_behind base (Some v) ds)) (drop_more digits i 0 lt)
    ∙ ap (λ (p : Option ℕ). at_most most (value_behind base (option_and_then (λ d. Some (base * v + d)) p) (drop (i + 1) digits))) (sym h)

pub no_digit_at : (base most v i : ℕ) (digits : List ℕ) → i < length digits → None ≡ digit_of base (get_or digits i 0) → at_most most (value_behind base (Some v) (drop i digits)) ≡ None
no_digit_at base most v i digits lt h = one_on base most v i digits None lt h ∙ rw value_behind-none refl

pub too_large_at : (base most v i d : ℕ) (digits : List ℕ) → i < length digits → Some d ≡ digit_of base (get_or digits i 0) → 1 ≤ base → most < base * v + d
    → at_most most (value_behind base (Some v) (drop i digits)) ≡ None
too_large_at base most v i d digits lt h low large = one_on base most v i digits (Some d) lt h ∙ never_again base most (base * v + d) (drop (i + 1) digits) low large
