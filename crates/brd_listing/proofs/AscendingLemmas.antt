-- The nearest symbol is the same in another order, if the symbols of each value stand in the same order; and of ascending
-- symbols it is the last one that isn't above the address.
use Rattle.std.proofs.Common.{◌≡◌, ◌∙◌, ℕ, zero, suc, ◌+◌, ◌<◌, ◌≤◌, Bool, true, false, List, [], ◌∷◌, length, map, get_or, Bor, refl, sym, ap, subst, inl, inr, le_refl, arith}
use Rattle.std.specs.Prelude.{nat_le, if◌then◌else◌, Option, Some, None, filter}
use Rattle.std.specs.List.{AllByRecursion, fold, prefix_len}
use Rattle.std.specs.List.Sorted.{IsNonDecreasingBy, IsPartitionPoint, IsStableByKey, ties}
use Rattle.std.specs.Ordering.{is_lt, nat_cmp}
use Rattle.std.proofs.Math.ListN.{get_or-map}
use Rattle.std.proofs.lemmas.List.{length-map}
use Rattle.std.proofs.lemmas.List.Elements.{filter_agree}
use Rattle.std.proofs.lemmas.Bool.{cases_Bool, cases_lt, le-leb, lt-leb, lt-ltb, leb-true}
use Rattle.std.proofs.lemmas.Bool.Decides.{nat_tests}
use Rattle.std.proofs.lemmas.List.Sums.{prefix_len_is, prefix_len-le-length}
use Rattle.brd_base.specs.Space.{base, top}
use Rattle.brd_mem.specs.declared.image.Symbol.{Symbol}
use Rattle.brd_listing.specs.Places.{is_below, is_nearer, nearer, nearest_of, has_value, IsAscending, of_ram}
use Rattle.brd_listing.proofs.PlaceLemmas.{Tops, Found, keeps, all_tops, stays_found, found_by}

-- ---- the last one of its value

-- the last of some symbols after one that was found
abbrev last_from : Option Symbol → List Symbol → Option Symbol
last_from found [] = found
last_from found (s ∷ ss) = last_from (Some s) ss

-- what was found, if it has a value
abbrev at_value : ℕ → Option Symbol → Option Symbol
at_value value None = None
at_value value (Some s) = if has_value value s then Some s else None

-- where some come, it doesn't matter what was found before
last_of_some : (found : Option Symbol) (s : Symbol) (ss : List Symbol) → last_from None ss ≡ Some s → last_from found ss ≡ Some s
last_of_some found s [] e = cc
last_of_some found s (t ∷ ss) e = e

-- what was found isn't above s
abbrev AtMost : ℕ → Option Symbol → Type 0
AtMost value None = Unit {0}
AtMost value (Some f) = f.value ≤ value

nearer_of_value : (address : ℕ) (found : Option Symbol) (t s : Symbol) → is_below address s ≡ true → t.value ≡ s.value
    → AtMost s.value found → is_nearer address found t ≡ true
nearer_of_value address None t s below same most = grind (arith, nat_tests, below, same)
nearer_of_value address (Some f) t s below same most = grind (arith, nat_tests, below, same, most)

-- one more symbol: it is nearer than what was found, or not; it has the value, or not
last_by : (near same : Bool) (address : ℕ) (found : Option Symbol) (t s : Symbol) (ss : List Symbol)
    → is_nearer address found t ≡ near → has_value s.value t ≡ same → is_below address s ≡ true → AtMost s.value found
    → last_from (at_value s.value (if near then Some t else found)) ss ≡ Some s
    → last_from (at_value s.value found) (if same then t ∷ ss else ss) ≡ Some s
last_by true true address found t s ss is_near is_same below most last = rw is_same at last
last_by true false address found t s ss is_near is_same below most last =
    last_of_some (at_value s.value found) s ss (rw is_same at last)
last_by false true address found t s ss is_near is_same below most last =
    let same : t.value ≡ s.value = grind (arith, nat_tests, is_same) in
    let near = nearer_of_value address found t s below same most in
    absurd (cc)
last_by false false address found t s ss is_near is_same below most last = last

at_most : (address : ℕ) (found : Option Symbol) (ss : List Symbol) (s : Symbol) → Found address found
    → fold (nearer address) found ss ≡ Some s → AtMost s.value found
at_most address None ss s is e = tt
at_most address (Some f) ss s is e =
    subst (Tops address f) e (keeps address f (Some f) ss (λ below. omega arith)) is

is_last : (address : ℕ) (found : Option Symbol) (ss : List Symbol) (s : Symbol) → Found address found
    → fold (nearer address) found ss ≡ Some s → last_from (at_value s.value found) (filter (has_value s.value) ss) ≡ Some s
is_last address found [] s is e = rw e (grind (arith, nat_tests))
is_last address found (t ∷ ss) s is e =
    let found_then = found_by (is_nearer address found t) address t found refl is in
    last_by (is_nearer address found t) (has_value s.value t) address found t s (filter (has_value s.value) ss) refl refl
    (subst (Found address) e (stays_found address found (t ∷ ss) is)) (at_most address found (t ∷ ss) s is e)
    (is_last address (nearer address found t) ss s found_then e)

-- ---- the same symbols of each value

none_of : (value : ℕ) (ss : List Symbol) → AllByRecursion (λ t. has_value value t ≡ false) ss → filter (has_value value) ss ≡ []
none_of value [] h = refl
none_of value (t ∷ ss) h = rw h.0 (none_of value ss h.1)

each : {P Q : Symbol → Type 0} → ((t : Symbol) → P t → Q t) → (ss : List Symbol) → AllByRecursion P ss → AllByRecursion Q ss
each f [] h = tt
each f (t ∷ ss) h = (f t h.0, each f ss h.1)

-- what was found is below s
abbrev Misses : Symbol → Option Symbol → Type 0
Misses s None = Unit {0}
Misses s (Some f) = f.value < s.value

of_other : (address : ℕ) (s : Symbol) (found : Option Symbol) → is_below address s ≡ true → Misses s found → (t : Symbol)
    → Tops address t found → has_value s.value t ≡ false
of_other address s None below miss t tops = grind (arith, nat_tests, below, tops)
of_other address s (Some f) below miss t tops = elim (cases_Bool (has_value s.value t)) [
  | inl is ↦
      let same : t.value ≡ s.value = grind (arith, nat_tests, is) in
      absurd (omega (arith, same, miss, tops (grind (arith, nat_tests, below, same))))
  | inr is ↦ is
]

-- what lies above what is found has no symbol of its value
missed : (address : ℕ) (s : Symbol) (found : Option Symbol) (ss : List Symbol) → is_below address s ≡ true
    → fold (nearer address) None ss ≡ found → Misses s found → filter (has_value s.value) ss ≡ []
missed address s found ss below e miss =
    none_of s.value ss (each (λ t tops. of_other address s found below miss t tops) ss
    (subst (λ (r : Option Symbol). AllByRecursion (λ t. Tops address t r) ss) e (all_tops address None ss)))

abbrev last_of : ℕ → List Symbol → Option Symbol
last_of value ss = last_from None (filter (has_value value) ss)

not_missed : (address : ℕ) (s : Symbol) (found : Option Symbol) (ss ts : List Symbol)
    → ((value : ℕ) → filter (has_value value) ss ≡ filter (has_value value) ts)
    → fold (nearer address) None ss ≡ Some s → fold (nearer address) None ts ≡ found → Misses s found → ⊥
not_missed address s found ss ts same left right miss =
    let below = subst (Found address) left (stays_found address None ss tt) in
    let last = sym (is_last address None ss s tt left) ∙ ap (last_from None) (same s.value ∙ missed address s found ts below right miss) in
    cc

same_by : (address : ℕ) (left right : Option Symbol) (ss ts : List Symbol)
    → ((value : ℕ) → filter (has_value value) ss ≡ filter (has_value value) ts)
    → fold (nearer address) None ss ≡ left → fold (nearer address) None ts ≡ right → left ≡ right
same_by address None None ss ts same left right = refl
same_by address (Some s) None ss ts same left right = absurd (not_missed address s None ss ts same left right tt)
same_by address None (Some t) ss ts same left right =
    absurd (not_missed address t None ts ss (λ value. sym (same value)) right left tt)
same_by address (Some s) (Some t) ss ts same left right =
    elim (cases_lt s.value t.value) [
      | inl lt ↦ absurd (not_missed address t (Some s) ts ss (λ value. sym (same value)) right left lt)
      | inr le ↦ elim (cases_lt t.value s.value) [
        | inl lt ↦ absurd (not_missed address s (Some t) ss ts same left right lt)
        | inr ge ↦
            let equal : s.value ≡ t.value = omega (arith, le, ge) in
            sym (is_last address None ss s tt left)
            ∙ (ap (last_from None) (same s.value) ∙ ap (λ (value : ℕ). last_of value ts) equal)
            ∙ is_last address None ts t tt right
      ]
    ]

pub same_nearest : (address : ℕ) (ss ts : List Symbol) → ((value : ℕ) → filter (has_value value) ss ≡ filter (has_value value) ts)
    → fold (nearer address) None ss ≡ fold (nearer address) None ts
same_nearest address ss ts same = same_by address _ _ ss ts same refl refl

-- ---- ascending symbols

abbrev Rises : ℕ → List (Bor Symbol) → Type 0
Rises low [] = Unit {0}
Rises low (s ∷ ss) = (low ≤ s.now.value) × Rises s.now.value ss

rises_from : (low : ℕ) (ss : List (Bor Symbol)) → ((d : Bor Symbol) → 0 < length ss → low ≤ (get_or ss 0 d).now.value)
    → IsNonDecreasingBy (λ s. s.now.value) ss → Rises low ss
rises_from low [] first rises = tt
rises_from low (s ∷ ss) first rises = (
  first s (omega arith),
  rises_from s.now.value ss (λ d some. rises 0 1 d (omega arith) (omega (arith, some)))
      (λ i j d le within. rises (suc i) (suc j) d (omega (arith, le)) (omega (arith, within))),
)

from_low : (low : ℕ) (ss : List (Bor Symbol)) (k : ℕ) (d : Bor Symbol) → Rises low ss → k < length ss → low ≤ (get_or ss k d).now.value
from_low low [] k d rises within = absurd (omega (arith, within))
from_low low (s ∷ ss) zero d rises within = rises.0
from_low low (s ∷ ss) (suc k) d rises within =
    omega (arith, rises.0, from_low s.now.value ss k d rises.1 (omega (arith, within)))

above : (address : ℕ) (found : Option Symbol) (s : Symbol) → address < s.value → is_nearer address found s ≡ false
above address None s lt = grind (arith, nat_tests, lt)
above address (Some f) s lt = grind (arith, nat_tests, lt)

none_above : (address low : ℕ) (found : Option Symbol) (ss : List (Bor Symbol)) → address < low → Rises low ss
    → fold (nearer address) found (map (λ s. s.now) ss) ≡ found
none_above address low found [] lt rises = refl
none_above address low found (s ∷ ss) lt rises =
    let out = above address found s.now (omega (arith, lt, rises.0)) in
    ap (λ b. fold (nearer address) (if b then Some s.now else found) (map (λ s. s.now) ss)) out
    ∙ none_above address s.now.value found ss (omega (arith, lt, rises.0)) rises.1

none_at : (address low : ℕ) (found : Option Symbol) (ss : List (Bor Symbol)) → Rises low ss
    → prefix_len (λ s. nat_le s.now.value address) ss ≡ 0 → fold (nearer address) found (map (λ s. s.now) ss) ≡ found
none_at address low found [] rises none = refl
none_at address low found (s ∷ ss) rises none = elim (cases_lt address s.now.value) [
  | inl lt ↦ none_above address s.now.value found (s ∷ ss) lt (le_refl s.now.value, rises.1)
  | inr le ↦ absurd (omega (arith, rw (le-leb s.now.value address le) at none))
]

raised : (low value : ℕ) (found : Option Symbol) → low ≤ value → AtMost low found → AtMost value found
raised low value None le most = tt
raised low value (Some f) le most = omega (arith, le, most)

-- an ascending symbol that isn't above the address takes the place of what was found, if RAM can lie there
nearer_is : (address : ℕ) (found : Option Symbol) (s : Symbol) → AtMost s.value found → s.value ≤ address
    → nearer address found s ≡ (if nat_le base s.value then Some s else found)
nearer_is address None s most le = rw (le-leb s.value address le) (grind (arith, nat_tests))
nearer_is address (Some f) s most le = rw (le-leb s.value address le, le-leb f.value s.value most) (grind (arith, nat_tests))

at_most_by : (b : Bool) (found : Option Symbol) (s : Symbol) → AtMost s.value found → AtMost s.value (if b then Some s else found)
at_most_by true found s most = le_refl s.value
at_most_by false found s most = most

-- one ascending symbol more, s, before t
before_by : (b : Bool) (found : Option Symbol) (s t : Symbol) → nat_le base s.value ≡ b → s.value ≤ t.value
    → (if nat_le base t.value then Some t else (if b then Some s else found)) ≡ (if nat_le base t.value then Some t else found)
before_by false found s t is le = refl
before_by true found s t is le =
    rw (le-leb base t.value (omega (arith, le, leb-true base s.value is))) refl

-- where some aren't above the address, the first one isn't
first_of : (address k : ℕ) (s : Bor Symbol) (ss : List (Bor Symbol)) → prefix_len (λ s. nat_le s.now.value address) (s ∷ ss) ≡ k + 1
    → (s.now.value ≤ address) × (prefix_len (λ s. nat_le s.now.value address) ss ≡ k)
first_of address k s ss is = elim (cases_lt address s.now.value) [
  | inl lt ↦ absurd (omega (arith, rw (lt-leb s.now.value address lt) at is))
  | inr le ↦ (le, omega (arith, rw (le-leb s.now.value address le) at is))
]

found_at : (address low : ℕ) (found : Option Symbol) (ss : List (Bor Symbol)) (k : ℕ) (d : Bor Symbol) → AtMost low found
    → Rises low ss → prefix_len (λ s. nat_le s.now.value address) ss ≡ k + 1
    → (if nat_le base (get_or ss k d).now.value then Some (get_or ss k d).now else found)
    ≡ fold (nearer address) found (map (λ s. s.now) ss)
found_at address low found [] k d most rises is = absurd (omega (arith, is))
found_at address low found (s ∷ ss) zero d most rises is =
    let first = first_of address 0 s ss is in
    sym (none_at address s.now.value (nearer address found s.now) ss rises.1 first.1
    ∙ nearer_is address found s.now (raised low s.now.value found rises.0 most) first.0)
found_at address low found (s ∷ ss) (suc k) d most rises is =
    let first = first_of address (suc k) s ss is in
    let t = (get_or ss k d).now in
    let within : k < length ss = omega (arith, first.1, prefix_len-le-length (λ (s : Bor Symbol). nat_le s.now.value address) ss) in
    let most_then = raised low s.now.value found rises.0 most in
    let next = nearer_is address found s.now most_then first.0 in
    let most_next = subst (AtMost s.now.value) (sym next) (at_most_by (nat_le base s.now.value) found s.now most_then) in
    sym (before_by (nat_le base s.now.value) found s.now t refl (from_low s.now.value ss k d rises.1 within))
    ∙ (ap (λ (f : Option Symbol). if nat_le base t.value then Some t else f) (sym next)
    ∙ found_at address s.now.value (nearer address found s.now) ss k d most_next rises.1 (omega (arith, first.1)))

-- ---- by references

rises_now : (ss : List (Bor Symbol)) → IsNonDecreasingBy (λ s. s.now.value) ss → IsNonDecreasingBy (λ s. s.value) (map (λ s. s.now) ss)
rises_now ss rises i j d le within =
    let none : Bor Symbol = record { ref_ptr = (0, 0); now = d } in
    let at = λ (k : ℕ). get_or-map (λ (s : Bor Symbol). s.now) ss k none in
    rw (at i, at j) (rises i j none le (omega (arith, length-map ss (λ (s : Bor Symbol). s.now), within)))

pub rises_behind : (ss : List (Bor Symbol)) → IsNonDecreasingBy (λ s. s.value) (map (λ s. s.now) ss) → IsNonDecreasingBy (λ s. s.now.value) ss
rises_behind ss rises i j d le within =
    let at = λ (k : ℕ). get_or-map (λ (s : Bor Symbol). s.now) ss k d in
    rw (at i, at j) at (rises i j d.now le (omega (arith, length-map ss (λ (s : Bor Symbol). s.now), within)))

filter_now : (p : Symbol → Bool) (ss : List (Bor Symbol)) → filter p (map (λ s. s.now) ss) ≡ map (λ s. s.now) (filter (λ s. p s.now) ss)
filter_now p [] = refl
filter_now p (s ∷ ss) = elim (cases_Bool (p s.now)) [
  | inl is ↦ rw is (ap (λ ts. s.now ∷ ts) (filter_now p ss))
  | inr is ↦ rw is (filter_now p ss)
]

same_tie : (x y : Bor Symbol) → ties (λ (a b : Bor Symbol). is_lt (nat_cmp a.now.value b.now.value)) x y ≡ has_value x.now.value y.now
same_tie x y = grind (arith, nat_tests)

-- a stable sort of references by the values of their symbols
pub sorted : (symbols : List Symbol) (ss ts : List (Bor Symbol)) → map (λ s. s.now) ss ≡ symbols
    → IsNonDecreasingBy (λ s. s.now.value) ts → IsStableByKey (λ (s : Bor Symbol). s.now.value) nat_cmp ss ts
    → IsAscending symbols (map (λ s. s.now) ts)
sorted symbols ss ts is rises stable = record {
  rises = rises_now ts rises;
  same = λ value.
      let one : Bor Symbol = record { ref_ptr = (0, 0); now = record { name = []; value = value } } in
      let kept = λ (xs : List (Bor Symbol)). filter_now (has_value value) xs
      ∙ ap (map (λ (s : Bor Symbol). s.now)) (sym (filter_agree _ _ (same_tie one) xs)) in
      kept ts ∙ (ap (map (λ (s : Bor Symbol). s.now)) (stable one) ∙ (sym (kept ss) ∙ ap (filter (has_value value)) is));
}

-- ---- what the code finds

pub none_found : (address : ℕ) (ss : List (Bor Symbol)) → IsNonDecreasingBy (λ s. s.now.value) ss
    → prefix_len (λ s. nat_le s.now.value address) ss ≡ 0 → None ≡ fold (nearer address) None (map (λ s. s.now) ss)
none_found address ss rises none = sym (none_at address 0 None ss (rises_from 0 ss (λ d some. omega arith) rises) none)

pub one_found : (address : ℕ) (ss : List (Bor Symbol)) (k : ℕ) (d : Bor Symbol) → IsNonDecreasingBy (λ s. s.now.value) ss
    → prefix_len (λ s. nat_le s.now.value address) ss ≡ k + 1
    → of_ram (get_or ss k d).now ≡ fold (nearer address) None (map (λ s. s.now) ss)
one_found address ss k d rises is =
    found_at address 0 None ss k d tt (rises_from 0 ss (λ d some. omega arith) rises) is

-- how many pass a test from the front on, by where a search by halves ends
pub prefix_from_point : {X : Type 0} (p : X → Bool) (xs : List X) (i : ℕ) → i ≤ length xs
    → IsPartitionPoint (λ x. p x ≡ true) (λ x. p x ≡ false) xs i → prefix_len p xs ≡ i
prefix_from_point p [] i bound point = omega (arith, bound)
prefix_from_point p (x ∷ xs) i bound point =
    prefix_len_is p (x ∷ xs) i x bound (λ k lt. point.0 k x (omega arith) lt) (λ lt. point.1 i x (omega arith) lt)

-- of an address in the space of RAM
pub nearest_by : (address : ℕ) (symbols ascending : List Symbol) → address < top → IsAscending symbols ascending
    → fold (nearer address) None ascending ≡ nearest_of symbols address
nearest_by address symbols ascending lt is =
    rw (lt-ltb address top lt) (same_nearest address ascending symbols is.same)
