-- Where what is loaded below an address ends.
use Rattle.std.proofs.Common.{◌≡◌, ⊎_elim, ℕ, zero, suc, ◌+◌, ◌-◌, ◌<◌, ◌≤◌, List, [], ◌∷◌, length, drop, refl, sym, ap, subst, ◌∙◌, arith}
use Rattle.std.proofs.lemmas.Bool.{false≢true, cases_lt}
use Rattle.std.proofs.lemmas.Bool.Decides.{nat_tests}
use Rattle.std.specs.Prelude.{Bool, true, false, nat_le, nat_lt, ◌&&◌, ◌||◌, max, if◌then◌else◌}
use Rattle.std.specs.List.{list_any}
use Rattle.brd_mem.specs.declared.image.Segment.{Segment}
use Rattle.brd_names.specs.Addresses.{is_in, is_loaded, end_below, last_end, LoadsNone}

both-false : (a b : Bool) → a ≡ false → b ≡ false → (a || b) ≡ false
both-false true b one other = absurd (false≢true (sym one))
both-false false b one other = other

false-left : (a b : Bool) → (a || b) ≡ false → a ≡ false
false-left true b is = absurd (false≢true (sym is))
false-left false b is = refl

false-right : (a b : Bool) → (a || b) ≡ false → b ≡ false
false-right true b is = absurd (false≢true (sym is))
false-right false b is = is

true-left : (a b : Bool) → a ≡ true → (a || b) ≡ true
true-left true b is = refl
true-left false b is = absurd (false≢true is)

true-right : (a b : Bool) → b ≡ true → (a || b) ≡ true
true-right true b is = refl
true-right false b is = is

max-left : (a b : ℕ) → b ≤ a → max a b ≡ a
max-left a b less = omega (arith, less)

max-right : (a b : ℕ) → a < b → max a b ≡ b
max-right a b less = omega (arith, less)

max-below : (a b p : ℕ) → max a b ≤ p → (a ≤ p) × (b ≤ p)
max-below a b p below = (omega (arith, below), omega (arith, below))

-- a segment that doesn't hold an address holds none from its end on up to there

none-from : (a n address p : ℕ) → (nat_le a address && nat_lt (address - a) n) ≡ false →
    (if nat_lt 0 n && nat_le (a + n) address then a + n else 0) ≤ p → p ≤ address → (nat_le a p && nat_lt (p - a) n) ≡ false
none-from a n address p out above below = grind (arith, nat_tests, out, above, below)

-- it holds the address before its end

last-in : (a n address : ℕ) → 1 ≤ (if nat_lt 0 n && nat_le (a + n) address then a + n else 0) →
    (nat_le a ((if nat_lt 0 n && nat_le (a + n) address then a + n else 0) - 1)
    && nat_lt ((if nat_lt 0 n && nat_le (a + n) address then a + n else 0) - 1 - a) n) ≡ true
last-in a n address some = grind (arith, nat_tests, some)

-- The same of several segments.

pub loads-none : (segments : List Segment) (address : ℕ) → is_loaded segments address ≡ false →
    LoadsNone segments (last_end address segments) address
loads-none [] address out p above below = refl
loads-none (segment ∷ segments) address out p above below =
    let both = max-below (end_below address segment) (last_end address segments) p above in
    both-false (is_in p segment) (list_any (is_in p) segments)
    (none-from segment.address (length segment.bytes) address p (false-left (is_in address segment) (list_any (is_in address) segments) out) both.0 below)
    (loads-none segments address (false-right (is_in address segment) (list_any (is_in address) segments) out) p both.1 below)

pub loads-last : (segments : List Segment) (address : ℕ) → 1 ≤ last_end address segments →
    is_loaded segments (last_end address segments - 1) ≡ true
loads-last [] address some = absurd (omega (arith, some))
loads-last (segment ∷ segments) address some =
    let end = end_below address segment in
    let rest = last_end address segments in
    ⊎_elim
    (λ less. let is : max (end_below address segment) (last_end address segments) ≡ last_end address segments = max-right end rest less in
    subst (λ (n : ℕ). (is_in (n - 1) segment || list_any (is_in (n - 1)) segments) ≡ true) (sym is)
    (true-right (is_in (rest - 1) segment) (list_any (is_in (rest - 1)) segments)
    (loads-last segments address (subst (λ (n : ℕ). 1 ≤ n) is some))))
    (λ more. let is : max (end_below address segment) (last_end address segments) ≡ end_below address segment = max-left end rest more in
    subst (λ (n : ℕ). (is_in (n - 1) segment || list_any (is_in (n - 1)) segments) ≡ true) (sym is)
    (true-left (is_in (end - 1) segment) (list_any (is_in (end - 1)) segments)
    (last-in segment.address (length segment.bytes) address (subst (λ (n : ℕ). 1 ≤ n) is some))))
    (cases_lt end rest)

-- past the last segment the greatest end so far is that of all

drop-past : (segments : List Segment) (i : ℕ) → length segments ≤ i → drop i segments ≡ []
drop-past [] zero past = refl
drop-past [] (suc i) past = refl
drop-past (segment ∷ segments) zero past = absurd (omega (arith, past))
drop-past (segment ∷ segments) (suc i) past = drop-past segments i (omega (arith, past))

max-none : (a : ℕ) → a ≡ max a 0
max-none a = omega arith

pub ends-all : (segments : List Segment) (address i last : ℕ) → length segments ≤ i →
    max last (last_end address (drop i segments)) ≡ last_end address segments → last ≡ last_end address segments
ends-all segments address i last past is =
    max-none last ∙ ap (λ (them : List Segment). max last (last_end address them)) (sym (drop-past segments i past)) ∙ is
