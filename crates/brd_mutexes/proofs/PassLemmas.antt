-- A pass keeps what is founded, and where it lifts nobody, all are high.
use Rattle.std.proofs.Common.{◌≡◌, ◌≢◌, ◌<◌, ◌≤◌, ℕ, ◌+◌, zero, suc, Bool, true, false, List, [], ◌∷◌, length, refl, sym, ap, subst, ◌∙◌, arith, inl, inr}
use Rattle.std.specs.Prelude.{nat_lt, ◌||◌, if◌then◌else◌, cond, slice_index_or, slice_set, Option, None, Some}
use Rattle.std.specs.List.{sum, sum_by}
use Rattle.std.proofs.lemmas.Bool.{false≢true, or_parts}
use Rattle.std.proofs.lemmas.Bool.Decides.{nat_tests}
use Rattle.std.proofs.lemmas.List.{get_or-set_same, get_or-set_other, length-set}
use Rattle.std.proofs.lemmas.List.Sums.{sum_by-set}
use Rattle.std.proofs.Math.ListN.{get_or-eq_default}
use Rattle.brd_mutexes.specs.Lifting.{priority_at, holder_of, Leads, IsOf, AreFounded, AreHigh, AreLifted}
use Rattle.brd_mutexes.specs.Lifting.Leads.{itself, onward}
use Rattle.brd_mutexes.specs.Passes.{is_higher, lifted_by, passed, lifts}

-- ---- one holder

-- who has a priority that isn't 0 is there
there : (ps : List ℕ) (id : ℕ) → 0 < priority_at ps id → id < length ps
there [] id some = absurd (omega (arith, some))
there (p ∷ ps) zero some = omega arith
there (p ∷ ps) (suc id) some = omega (arith, there ps id some)

-- what a priority is after another one was written
written : (ps : List ℕ) (to p id : ℕ) (P : ℕ → Type 0) → to < length ps → (id ≡ to → P p) → (id ≢ to → P (priority_at ps id)) →
    P (priority_at (slice_set ps to p) id)
written [] to p id P small same other = absurd (omega (arith, small))
written (x ∷ ps) zero p zero P small same other = same refl
written (x ∷ ps) zero p (suc id) P small same other = other (λ e. omega (arith, e))
written (x ∷ ps) (suc to) p zero P small same other = other (λ e. omega (arith, e))
written (x ∷ ps) (suc to) p (suc id) P small same other =
    written ps to p id P (omega (arith, small)) (λ e. same (ap suc e)) (λ never. other (λ e. never (omega (arith, e))))

higher : (ps : List ℕ) (id to : ℕ) → is_higher ps id to ≡ true → priority_at ps id < priority_at ps to
higher ps id to is = grind (arith, nat_tests, is)

founded-if : (own : List ℕ) (holders : List (Option ℕ)) (ps : List ℕ) (id to : ℕ) (b : Bool) → is_higher ps id to ≡ b →
    holder_of holders id ≡ Some to → AreFounded own holders ps →
    AreFounded own holders (if b then slice_set ps to (priority_at ps id) else ps)
founded-if own holders ps id to false is waits was = was
founded-if own holders ps id to true is waits was =
    let p : ℕ = priority_at ps id in
    let more = higher ps id to is in
    let small = there ps to (omega (arith, more)) in
    let of = was.founded id in
    record {
      long = length-set ps to p ∙ was.long;
      none_lower = λ at. written ps to p at (λ x. x ≤ priority_at own at) small
          (λ same. subst (λ t. p ≤ priority_at own t) (sym same) (omega (arith, more, was.none_lower to)))
          (λ other. was.none_lower at);
      founded = λ at. written ps to p at (λ x. IsOf own holders at x) small
          (λ same. subst (λ t. IsOf own holders t p) (sym same)
          (record { from = of.from; leads = onward id to of.leads waits; same = of.same }))
          (λ other. was.founded at);
    }

-- ---- sums, which a pass that lifts somebody lowers

abbrev pub total : List ℕ → ℕ
total ps = sum_by (λ x. x) ps

less-if : (ps : List ℕ) (id to : ℕ) (b : Bool) → is_higher ps id to ≡ b →
    total (if b then slice_set ps to (priority_at ps id) else ps) ≤ total ps
less-if ps id to false is = omega arith
less-if ps id to true is =
    let more = higher ps id to is in
    omega (arith, more, sum_by-set (λ x. x) ps to (priority_at ps id) 0 (there ps to (omega (arith, more))))

lower : (ps : List ℕ) (id to : ℕ) → is_higher ps id to ≡ true → total (lifted_by ps id to) < total ps
lower ps id to is =
    let more = higher ps id to is in
    rw is (omega (arith, more, sum_by-set (λ x. x) ps to (priority_at ps id) 0 (there ps to (omega (arith, more)))))

-- ---- a pass

-- these are the holders of the tasks from an ID on
abbrev pub AreFrom : List (Option ℕ) → ℕ → List (Option ℕ) → Type 0
AreFrom holders n hs = (j : ℕ) → holder_of hs j ≡ holder_of holders (n + j)

tail : (holders : List (Option ℕ)) (n : ℕ) (h : Option ℕ) (hs : List (Option ℕ)) → AreFrom holders n (h ∷ hs) → AreFrom holders (n + 1) hs
tail holders n h hs are j =
    let same : n + suc j ≡ n + 1 + j = omega arith in
    are (suc j) ∙ ap (holder_of holders) same

head : (holders : List (Option ℕ)) (n : ℕ) (h : Option ℕ) (hs : List (Option ℕ)) → AreFrom holders n (h ∷ hs) → holder_of holders n ≡ h
head holders n h hs are =
    let same : n + 0 ≡ n = omega arith in
    sym (are 0 ∙ ap (holder_of holders) same)

pub founded : (own : List ℕ) (holders : List (Option ℕ)) (n : ℕ) (hs : List (Option ℕ)) (ps : List ℕ) → AreFrom holders n hs →
    AreFounded own holders ps → AreFounded own holders (passed n hs ps)
founded own holders n [] ps are was = was
founded own holders n (None ∷ hs) ps are was = founded own holders (n + 1) hs ps (tail holders n None hs are) was
founded own holders n (Some to ∷ hs) ps are was =
    founded own holders (n + 1) hs (lifted_by ps n to) (tail holders n (Some to) hs are)
    (founded-if own holders ps n to (is_higher ps n to) refl (head holders n (Some to) hs are) was)

at-most : (n : ℕ) (hs : List (Option ℕ)) (ps : List ℕ) → total (passed n hs ps) ≤ total ps
at-most n [] ps = omega arith
at-most n (None ∷ hs) ps = at-most (n + 1) hs ps
at-most n (Some to ∷ hs) ps = omega (arith, at-most (n + 1) hs (lifted_by ps n to), less-if ps n to (is_higher ps n to) refl)

less-by : (n to : ℕ) (hs : List (Option ℕ)) (ps : List ℕ) (b : Bool) → is_higher ps n to ≡ b →
    (lifts (n + 1) hs (lifted_by ps n to) ≡ true → total (passed (n + 1) hs (lifted_by ps n to)) < total (lifted_by ps n to)) →
    (b || lifts (n + 1) hs (lifted_by ps n to)) ≡ true → total (passed (n + 1) hs (lifted_by ps n to)) < total ps
less-by n to hs ps true is rest some = omega (arith, at-most (n + 1) hs (lifted_by ps n to), lower ps n to is)
less-by n to hs ps false is rest some = omega (arith, rest some, less-if ps n to (is_higher ps n to) refl)

pub less : (n : ℕ) (hs : List (Option ℕ)) (ps : List ℕ) → lifts n hs ps ≡ true → total (passed n hs ps) < total ps
less n [] ps some = absurd (false≢true some)
less n (None ∷ hs) ps some = less (n + 1) hs ps some
less n (Some to ∷ hs) ps some = less-by n to hs ps (is_higher ps n to) refl (less (n + 1) hs (lifted_by ps n to)) some

still-if : (ps : List ℕ) (id to : ℕ) → is_higher ps id to ≡ false → lifted_by ps id to ≡ ps
still-if ps id to is = rw is refl

pub still : (n : ℕ) (hs : List (Option ℕ)) (ps : List ℕ) → lifts n hs ps ≡ false → passed n hs ps ≡ ps
still n [] ps none = refl
still n (None ∷ hs) ps none = still (n + 1) hs ps none
still n (Some to ∷ hs) ps none =
    let parts = or_parts (is_higher ps n to) (lifts (n + 1) hs (lifted_by ps n to)) none in
    still (n + 1) hs (lifted_by ps n to) parts.1 ∙ still-if ps n to parts.0

not-higher : (ps : List ℕ) (id to : ℕ) → is_higher ps id to ≡ false → priority_at ps to ≤ priority_at ps id
not-higher ps id to is = grind (arith, nat_tests, is)

high-from : (n : ℕ) (hs : List (Option ℕ)) (ps : List ℕ) → lifts n hs ps ≡ false → (j to : ℕ) → holder_of hs j ≡ Some to →
    priority_at ps to ≤ priority_at ps (n + j)
high-from n [] ps none j to waits = let wrong : ⊥ = cc in absurd wrong
high-from n (None ∷ hs) ps none zero to waits = let wrong : ⊥ = cc in absurd wrong
high-from n (None ∷ hs) ps none (suc j) to waits =
    let same : n + 1 + j ≡ n + suc j = omega arith in
    subst (λ id. priority_at ps to ≤ priority_at ps id) same (high-from (n + 1) hs ps none j to waits)
high-from n (Some h ∷ hs) ps none zero to waits =
    let parts = or_parts (is_higher ps n h) (lifts (n + 1) hs (lifted_by ps n h)) none in
    let it : h ≡ to = cc in
    let same : n ≡ n + 0 = omega arith in
    subst (λ id. priority_at ps to ≤ priority_at ps id) same (subst (λ t. priority_at ps t ≤ priority_at ps n) it (not-higher ps n h parts.0))
high-from n (Some h ∷ hs) ps none (suc j) to waits =
    let parts = or_parts (is_higher ps n h) (lifts (n + 1) hs (lifted_by ps n h)) none in
    let on : lifts (n + 1) hs ps ≡ false = subst (λ x. lifts (n + 1) hs x ≡ false) (still-if ps n h parts.0) parts.1 in
    let same : n + 1 + j ≡ n + suc j = omega arith in
    subst (λ id. priority_at ps to ≤ priority_at ps id) same (high-from (n + 1) hs ps on j to waits)

pub high : (holders : List (Option ℕ)) (ps : List ℕ) → lifts 0 holders ps ≡ false → AreHigh holders ps
high holders ps none id to waits =
    let same : 0 + id ≡ id = omega arith in
    subst (λ t. priority_at ps to ≤ priority_at ps t) same (high-from 0 holders ps none id to waits)

-- ---- the whole

pub begins : (own : List ℕ) (holders : List (Option ℕ)) → AreFounded own holders own
begins own holders = record {
  long = refl;
  none_lower = λ id. omega arith;
  founded = λ id. record { from = id; leads = itself; same = refl };
}

pub pass_founded : (own : List ℕ) (holders : List (Option ℕ)) (ps : List ℕ) → AreFounded own holders ps → AreFounded own holders (passed 0 holders ps)
pass_founded own holders ps was =
    founded own holders 0 holders ps (λ j. let same : j ≡ 0 + j = omega arith in ap (holder_of holders) same) was

pub ends : (own : List ℕ) (holders : List (Option ℕ)) (ps : List ℕ) → AreFounded own holders ps → lifts 0 holders ps ≡ false →
    AreLifted own holders (passed 0 holders ps)
ends own holders ps was none =
    subst (AreLifted own holders) (sym (still 0 holders ps none)) (record { founded = was; high = high holders ps none })
