-- What the kept numbers say, and the first task whose wait ends.
use Rattle.std.proofs.Common.{◌≡◌, ◌≤◌, ◌<◌, ℕ, zero, suc, ◌+◌, ◌-◌, List, [], ◌∷◌, length, map, get_or, replicate, refl, sym, ap, subst, ◌∙◌, arith, drop, eqb}
use Rattle.std.specs.Prelude.{Bool, true, false, ◌==◌, nat_le, if◌then◌else◌, filter, find, slice_set, Option, None, Some, unwrap_or, is_some, Decides}
use Rattle.std.specs.List.{range_with_len}
use Rattle.std.specs.Cmp.Lexicographic.{pointwise, bytes_decides}
use Rattle.std.proofs.lemmas.Bool.{true≢false, false≢true, eqb-true}
use Rattle.std.proofs.lemmas.Bool.Decides.{nat_tests}
use Rattle.std.proofs.lemmas.List.{map-set, get_or-map, get_or-set_other}
use Rattle.brd_lanes.specs.Scan.{IsLeast, IsLeastAt, NoneBetween, is_due_at}
use Rattle.brd_time.specs.Time.{Time, beginning, with_due, last_count, has_come, is_due, due_from, next_due_of}
use Rattle.brd_time.specs.Kept.{never, due_in, AreNotBefore}

-- a tick that is counted stands for itself
due-in : (due : ℕ) → due < never → due_in due ≡ Some due
due-in due below =
    let other : (due == never) ≡ false = grind (arith, nat_tests, below) in
    ap (λ t. if t then None else Some due) other

pub armed : (dues : List ℕ) (id due : ℕ) → due < never → map due_in (slice_set dues id due) ≡ slice_set (map due_in dues) id (Some due)
armed dues id due below = map-set due_in dues id due ∙ ap (slice_set (map due_in dues) id) (due-in due below)

pub disarmed : (dues : List ℕ) (id : ℕ) → map due_in (slice_set dues id never) ≡ slice_set (map due_in dues) id None
disarmed dues id = map-set due_in dues id never

none_at_all : (n : ℕ) → map due_in (replicate n never) ≡ replicate n None
none_at_all zero = refl
none_at_all (suc n) = ap (λ (ds : List (Option ℕ)). None ∷ ds) (none_at_all n)

pub begins : (dues : List ℕ) → dues ≡ replicate 256 never → record { count = 0; dues = map due_in dues } ≡ beginning
unfolding beginning
begins dues are = ap (λ (ds : List (Option ℕ)). record { count = 0; dues = ds }) (ap (map due_in) are ∙ none_at_all 256)

-- whether a tick has come, as it is kept

come-by : (there : Bool) (count due : ℕ) → (due == never) ≡ there → count ≤ last_count → has_come count (if there then None else Some due) ≡ nat_le due count
come-by true count due test counted = grind (arith, nat_tests, test, counted)
come-by false count due test counted = refl

come : (count due : ℕ) → count ≤ last_count → has_come count (due_in due) ≡ nat_le due count
come count due counted = come-by (due == never) count due refl counted

pub is-due : (count : ℕ) (dues : List ℕ) (id : ℕ) → count ≤ last_count → id < length dues →
    is_due (record { count = count; dues = map due_in dues }) id ≡ is_due_at dues count id
is-due count dues id counted within =
    ap (has_come count) (get_or-map due_in dues id 0 None within) ∙ come count (get_or dues id 0) counted

-- the first number that is tested is found

first-by : (test : ℕ → Bool) (from n : ℕ) (holds : Bool) → test from ≡ holds →
    find test (range_with_len from (suc n)) ≡ (if holds then Some from else find test (range_with_len (from + 1) n))
first-by test from n holds is = ap (λ t. if t then Some from else find test (range_with_len (from + 1) n)) is

none-found : (test : ℕ → Bool) (from n : ℕ) → NoneBetween test from (from + n) → find test (range_with_len from n) ≡ None
none-found test from zero none = refl
none-found test from (suc n) none =
    first-by test from n false (none from (omega arith) (omega arith))
    ∙ none-found test (from + 1) n (λ k low high. none k (omega (arith, low)) (omega (arith, high)))

some-by : (same : Bool) (test : ℕ → Bool) (from n i : ℕ) → (i == from) ≡ same → IsLeastAt test from (from + suc n) i →
    (IsLeastAt test (from + 1) (from + 1 + n) i → find test (range_with_len (from + 1) n) ≡ Some i) → find test (range_with_len from (suc n)) ≡ Some i
some-by true test from n i same least others =
    let one : i ≡ from = grind (arith, nat_tests, same) in
    first-by test from n true (subst (λ j. test j ≡ true) one least.holds) ∙ ap Some (sym one)
some-by false test from n i same least others =
    let above : from + 1 ≤ i = grind (arith, nat_tests, same, least.started) in
    first-by test from n false (least.none_before from (omega arith) (omega (arith, above)))
    ∙ others (record {
      started = above;
      within = omega (arith, least.within);
      holds = least.holds;
      none_before = λ k low high. least.none_before k (omega (arith, low)) high;
    })

some-found : (test : ℕ → Bool) (from n i : ℕ) → IsLeastAt test from (from + n) i → find test (range_with_len from n) ≡ Some i
some-found test from zero i least = let no : ⊥ = omega (arith, least.started, least.within) in absurd no
some-found test from (suc n) i least = some-by (i == from) test from n i refl least (some-found test (from + 1) n i)

found : (test : ℕ → Bool) (from n : ℕ) (answer : Option ℕ) → IsLeast test from (from + n) answer → find test (range_with_len from n) ≡ answer
found test from n None none = none-found test from n none
found test from n (Some i) least = some-found test from n i least

-- two tests that agree
find-same : (p q : ℕ → Bool) (from n : ℕ) → ((k : ℕ) → k < from + n → p k ≡ q k) → find p (range_with_len from n) ≡ find q (range_with_len from n)
find-same p q from zero same = refl
find-same p q from (suc n) same =
    first-by p from n (q from) (same from (omega arith))
    ∙ ap (λ others. if q from then Some from else others) (find-same p q (from + 1) n (λ k high. same k (omega (arith, high))))

pub next-is : (count : ℕ) (dues : List ℕ) (from : ℕ) (answer : Option ℕ) → count ≤ last_count → length dues ≡ 256 → from ≤ 256 →
    IsLeast (is_due_at dues count) from (length dues) answer → next_due_of (record { count = count; dues = map due_in dues }) from ≡ answer
unfolding next_due_of
next-is count dues from answer counted long within least =
    let all : length dues ≡ from + (256 - from) = omega (arith, long, within) in
    find-same (is_due (record { count = count; dues = map due_in dues })) (is_due_at dues count) from (256 - from)
    (λ k high. is-due count dues k counted (omega (arith, all, high)))
    ∙ found (is_due_at dues count) from (256 - from) answer (subst (λ end. IsLeast (is_due_at dues count) from end answer) all least)

-- before the first of all ticks at which a wait ends nobody's wait does
pub none-yet : (count earliest : ℕ) (dues : List ℕ) (from : ℕ) → count ≤ last_count → length dues ≡ 256 → from ≤ 256 →
    AreNotBefore earliest dues → count < earliest → next_due_of (record { count = count; dues = map due_in dues }) from ≡ None
none-yet count earliest dues from counted long within none early =
    next-is count dues from None counted long within
    (λ id low high. let late : count < get_or dues id 0 = omega (arith, none id high, early) in grind (arith, nat_tests, late))

-- The tasks whose waits end, one after the other.

first-of : (test : ℕ → Bool) (from n : ℕ) (holds : Bool) → test from ≡ holds →
    filter test (range_with_len from (suc n)) ≡ (if holds then from ∷ filter test (range_with_len (from + 1) n) else filter test (range_with_len (from + 1) n))
first-of test from n holds is = ap (λ t. if t then from ∷ filter test (range_with_len (from + 1) n) else filter test (range_with_len (from + 1) n)) is

heads-by : (holds : Bool) (test : ℕ → Bool) (from n id : ℕ) → test from ≡ holds → find test (range_with_len from (suc n)) ≡ Some id →
    (find test (range_with_len (from + 1) n) ≡ Some id → filter test (range_with_len (from + 1) n) ≡ id ∷ filter test (range_with_len (id + 1) (from + 1 + n - (id + 1)))) →
    filter test (range_with_len from (suc n)) ≡ id ∷ filter test (range_with_len (id + 1) (from + suc n - (id + 1)))
heads-by true test from n id is found others =
    let one : from ≡ id = ap (λ (o : Option ℕ). unwrap_or o from) (sym (first-by test from n true is) ∙ found) in
    let left : n ≡ from + suc n - (id + 1) = omega (arith, one) in
    first-of test from n true is ∙ ap (λ (j : ℕ). j ∷ filter test (range_with_len (j + 1) n)) one ∙ ap (λ m. id ∷ filter test (range_with_len (id + 1) m)) left
heads-by false test from n id is found others =
    let left : from + 1 + n - (id + 1) ≡ from + suc n - (id + 1) = omega arith in
    first-of test from n false is ∙ others (sym (first-by test from n false is) ∙ found) ∙ ap (λ m. id ∷ filter test (range_with_len (id + 1) m)) left

heads : (test : ℕ → Bool) (from n id : ℕ) → find test (range_with_len from n) ≡ Some id →
    filter test (range_with_len from n) ≡ id ∷ filter test (range_with_len (id + 1) (from + n - (id + 1)))
heads test from zero id found = absurd (false≢true (ap is_some found))
heads test from (suc n) id found = heads-by (test from) test from n id refl found (heads test (from + 1) n id)

empty-by : (holds : Bool) (test : ℕ → Bool) (from n : ℕ) → test from ≡ holds → find test (range_with_len from (suc n)) ≡ None →
    (find test (range_with_len (from + 1) n) ≡ None → filter test (range_with_len (from + 1) n) ≡ []) → filter test (range_with_len from (suc n)) ≡ []
empty-by true test from n is found others = absurd (true≢false (ap is_some (sym (first-by test from n true is) ∙ found)))
empty-by false test from n is found others = first-of test from n false is ∙ others (sym (first-by test from n false is) ∙ found)

empty : (test : ℕ → Bool) (from n : ℕ) → find test (range_with_len from n) ≡ None → filter test (range_with_len from n) ≡ []
empty test from zero found = refl
empty test from (suc n) found = empty-by (test from) test from n refl found (empty test (from + 1) n)

rest-by : (small : Bool) (t : Time) (from id : ℕ) → nat_le from 256 ≡ small → find (is_due t) (range_with_len from (256 - from)) ≡ Some id →
    filter (is_due t) (range_with_len from (256 - from)) ≡ id ∷ filter (is_due t) (range_with_len (id + 1) (256 - (id + 1)))
rest-by true t from id small found =
    let left : from + (256 - from) - (id + 1) ≡ 256 - (id + 1) = grind (arith, nat_tests, small) in
    heads (is_due t) from (256 - from) id found ∙ ap (λ m. id ∷ filter (is_due t) (range_with_len (id + 1) m)) left
rest-by false t from id small found =
    let none : 256 - from ≡ 0 = grind (arith, nat_tests, small) in
    absurd (false≢true (ap (λ m. is_some (find (is_due t) (range_with_len from m))) (sym none) ∙ ap is_some found))

pub due-some : (t : Time) (from id : ℕ) → next_due_of t from ≡ Some id → due_from t from ≡ id ∷ due_from t (id + 1)
unfolding next_due_of due_from
due-some t from id found = rest-by (nat_le from 256) t from id refl found

pub due-none : (t : Time) (from : ℕ) → next_due_of t from ≡ None → due_from t from ≡ []
unfolding next_due_of due_from
due-none t from found = empty (is_due t) from (256 - from) found

-- Whose waits end from an ID on doesn't depend on those below it.

filter-same : (p q : ℕ → Bool) (from n : ℕ) → ((k : ℕ) → from ≤ k → p k ≡ q k) → filter p (range_with_len from n) ≡ filter q (range_with_len from n)
filter-same p q from zero same = refl
filter-same p q from (suc n) same =
    first-of p from n (q from) (same from (omega arith))
    ∙ ap (λ others. if q from then from ∷ others else others) (filter-same p q (from + 1) n (λ k above. same k (omega (arith, above))))

pub due-above : (t : Time) (id from : ℕ) (due : Option ℕ) → id < from → due_from (with_due t id due) from ≡ due_from t from
unfolding due_from
due-above t id from due below =
    filter-same (is_due (with_due t id due)) (is_due t) from (256 - from)
    (λ k above. ap (has_come t.count) (get_or-set_other t.dues id k due None (omega (arith, below, above))))

-- equal kept numbers stand for equal ticks, and no others do

apart-by : (a b : ℕ) (s t : Bool) → (a == never) ≡ s → (b == never) ≡ t → (if s then None else Some a) ≡ (if t then None else Some b) → a ≡ b
apart-by a b true true p q e = eqb-true a never p ∙ sym (eqb-true b never q)
apart-by a b true false p q e = absurd (false≢true (ap is_some e))
apart-by a b false true p q e = absurd (true≢false (ap is_some e))
apart-by a b false false p q e = ap (λ (due : Option ℕ). unwrap_or due 0) e

dues_apart : (xs ys : List ℕ) → map due_in xs ≡ map due_in ys → xs ≡ ys
dues_apart [] [] e = refl
dues_apart [] (y ∷ ys) e = absurd (omega (arith, ap length e))
dues_apart (x ∷ xs) [] e = absurd (omega (arith, ap length e))
dues_apart (x ∷ xs) (y ∷ ys) e =
    let first = ap (λ (dues : List (Option ℕ)). get_or dues 0 None) e in
    λ i. apart-by x y (x == never) (y == never) refl refl first i ∷ dues_apart xs ys (ap (drop 1) e) i

-- a test of what is kept is one of what it stands for
pub same_dues : (a b : Time) (count count' : ℕ) (xs ys : List ℕ) (r : Bool)
    → a ≡ record { count = count; dues = map due_in xs } → b ≡ record { count = count'; dues = map due_in ys }
    → count ≡ count' → r ≡ pointwise eqb xs ys → Decides r (a ≡ b)
same_dues a b count count' xs ys r is-a is-b counts is = (
  λ yes. let equal = (bytes_decides xs ys).0 (sym is ∙ yes) in
      is-a ∙ (λ i. record { count = counts i; dues = map due_in (equal i) }) ∙ sym is-b,
  λ equal. is ∙ (bytes_decides xs ys).1 (dues_apart xs ys (ap (λ (time : Time). time.dues) (sym is-a ∙ equal ∙ is-b))),
)
