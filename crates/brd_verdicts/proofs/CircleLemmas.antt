-- What a filter keeps, and which tasks that wait are left when those are left out that others hold up.
use Rattle.std.proofs.Common.{◌≡◌, inl, inr, ℕ, zero, suc, ◌+◌, ◌<◌, ◌≤◌, List, [], ◌∷◌, length, refl, sym, ap, subst, ◌∙◌, arith}
use Rattle.std.specs.Prelude.{Bool, true, false, not, ◌==◌, ◌&&◌, ◌||◌, if◌then◌else◌, All, Decides, slice_index_or}
use Rattle.std.specs.List.{Contains, filter, list_all, list_any}
use Rattle.std.proofs.lemmas.Bool.{and_from, and_parts, or_cases, or_left, or_right, false≢true}
use Rattle.std.proofs.lemmas.List.Elements.{All-cons, All-contains, All-contains_itself, All-filter, All-weaker}
use Rattle.std.proofs.lemmas.List.Elements.{Contains-append_right}
use Rattle.std.proofs.lemmas.List.Folds.{list_any_at}
use Rattle.std.proofs.lemmas.List.Sums.{AllPass-from_list_all, list_all-from_AllPass}
use Rattle.brd_verdicts.specs.declared.circle.Wait.{Wait}
use Rattle.brd_verdicts.specs.declared.units.Unit.{Unit}
use Rattle.brd_verdicts.specs.Circle.{AreCircular, IsCircle, IsInCircle, is_among, is_held, is_of}

-- ---- lists

any-one : {X : Type 0} (p : X → Bool) (xs : List X) → list_any p xs ≡ true →
    (x : X) × Contains xs x × (p x ≡ true)
any-one p [] is = absurd (false≢true is)
any-one p (y ∷ ys) is = elim (or_cases (p y) (list_any p ys) is) [
  | inl now ↦ (y, (0, omega arith, refl), now)
  | inr later ↦
      let it = any-one p ys later in
      (it.0, Contains-append_right (y ∷ []) ys it.0 it.1, it.2)
]

one-any : {X : Type 0} (p : X → Bool) (xs : List X) (x : X) → Contains xs x → p x ≡ true → list_any p xs ≡ true
one-any p xs x has keeps = list_any_at p xs has.0 x has.1 (ap p has.2 ∙ keeps)

all-more : {X : Type 0} (p q : X → Bool) → ((x : X) → p x ≡ true → q x ≡ true) → (xs : List X) →
    list_all p xs ≡ true → list_all q xs ≡ true
all-more p q more xs all =
    list_all-from_AllPass q xs
    (All-weaker (λ x. p x ≡ true) (λ x. q x ≡ true) more xs (AllPass-from_list_all p xs all))

-- what a filter keeps was there, and passes
kept-there : {X : Type 0} (p : X → Bool) (xs : List X) (x : X) → Contains (filter p xs) x → Contains xs x
kept-there p xs x has =
    All-contains (Contains xs) (filter p xs) x (All-filter p (Contains xs) xs (All-contains_itself xs)) has

more-has : {X : Type 0} (b : Bool) (y : X) (ys : List X) (x : X) → Contains ys x →
    Contains (if b then y ∷ ys else ys) x
more-has true y ys x has = Contains-append_right (y ∷ []) ys x has
more-has false y ys x has = has

there-kept : {X : Type 0} (p : X → Bool) (xs : List X) (x : X) → Contains xs x → p x ≡ true → Contains (filter p xs) x
there-kept p [] x (k, few, is) passes = absurd (omega (arith, few))
there-kept p (y ∷ ys) x (zero, few, is) passes =
    subst (λ (b : Bool). Contains (if b then y ∷ filter p ys else filter p ys) x) (sym (ap p is ∙ passes))
    (zero, omega arith, is)
there-kept p (y ∷ ys) x (suc k, few, is) passes =
    more-has (p y) y (filter p ys) x (there-kept p ys x (k, omega (arith, few), is) passes)

two-by : {X : Type 0} (p : X → Bool) (b : Bool) (x : X) (ys zs : List X) → filter p ys ≡ zs →
    filter p (if b then x ∷ ys else ys) ≡ (if b && p x then x ∷ zs else zs)
two-by p true x ys zs same = ap (λ vs. if p x then x ∷ vs else vs) same
two-by p false x ys zs same = same

two-filters : {X : Type 0} (p q : X → Bool) (xs : List X) → filter p (filter q xs) ≡ filter (λ x. q x && p x) xs
two-filters p q [] = refl
two-filters p q (x ∷ xs) =
    two-by p (q x) x (filter q xs) (filter (λ x. q x && p x) xs) (two-filters p q xs)

fewer-by : {X : Type 0} (b : Bool) (x : X) (ys : List X) (n : ℕ) → length ys ≤ n →
    length (if b then x ∷ ys else ys) ≤ suc n
fewer-by true x ys n few = omega (arith, few)
fewer-by false x ys n few = omega (arith, few)

fewer : {X : Type 0} (p : X → Bool) (xs : List X) → length (filter p xs) ≤ length xs
fewer p [] = omega arith
fewer p (x ∷ xs) = fewer-by (p x) x (filter p xs) (length xs) (fewer p xs)

-- a filter that keeps as many keeps all
all-by : {X : Type 0} (p : X → Bool) (x : X) (xs ys : List X) (b : Bool) → p x ≡ b → length ys ≤ length xs →
    (length xs ≤ length ys → All (λ x. p x ≡ true) xs) → suc (length xs) ≤ length (if b then x ∷ ys else ys) →
    All (λ x. p x ≡ true) (x ∷ xs)
all-by p x xs ys true is few rest many = All-cons (λ x. p x ≡ true) x xs is (rest (omega (arith, many)))
all-by p x xs ys false is few rest many = absurd (omega (arith, many, few))

all-kept : {X : Type 0} (p : X → Bool) (xs : List X) → length xs ≤ length (filter p xs) → All (λ x. p x ≡ true) xs
all-kept p [] many = λ k d few. absurd (omega (arith, few))
all-kept p (x ∷ xs) many = all-by p x xs (filter p xs) (p x) refl (fewer p xs) (all-kept p xs) many

-- ---- circles

among-more : (those waits : List Wait) (task : ℕ) → All (Contains waits) those → is_among those task ≡ true →
    is_among waits task ≡ true
among-more those waits task all is =
    let it = any-one (λ (wait : Wait). wait.task == task) those is in
    one-any (λ (wait : Wait). wait.task == task) waits it.0 (All-contains (Contains waits) those it.0 all it.1) it.2

-- what is held among some is held among more
held-more : (units : List Unit) (those waits : List Wait) (wait : Wait) → All (Contains waits) those →
    is_held units those wait ≡ true → is_held units waits wait ≡ true
held-more units those waits wait all is =
    let parts = and_parts (list_any (is_of wait) units)
    (list_all (λ (unit : Unit). not (is_of wait unit) || is_among those unit.task) units) is in
    and_from (list_any (is_of wait) units)
    (list_all (λ (unit : Unit). not (is_of wait unit) || is_among waits unit.task) units) parts.0
    (all-more (λ (unit : Unit). not (is_of wait unit) || is_among those unit.task)
    (λ (unit : Unit). not (is_of wait unit) || is_among waits unit.task) one units parts.1)
  where
    one : (unit : Unit) → (not (is_of wait unit) || is_among those unit.task) ≡ true →
        (not (is_of wait unit) || is_among waits unit.task) ≡ true
    one unit is = elim (or_cases (not (is_of wait unit)) (is_among those unit.task) is) [
      | inl other ↦ or_left (not (is_of wait unit)) (is_among waits unit.task) other
      | inr among ↦
          or_right (not (is_of wait unit)) (is_among waits unit.task) (among-more those waits unit.task all among)
    ]

-- a circle is held among all
circle-held : (units : List Unit) (waits : List Wait) (wait : Wait) → IsInCircle units waits wait →
    is_held units waits wait ≡ true
circle-held units waits wait it =
    held-more units it.those waits wait it.circle.among
    (All-contains (λ (w : Wait). is_held units it.those w ≡ true) it.those wait it.circle.held it.in_it)

-- where those are left out that aren't held among all, the same are in a circle
pub left-circular : (units : List Unit) (waits left found : List Wait) → left ≡ filter (is_held units waits) waits →
    AreCircular units left found → AreCircular units waits found
left-circular units waits left found is are = record {
  test = λ wait. is_held units waits wait && are.test wait;
  those = are.those ∙ ap (filter are.test) is ∙ two-filters are.test (is_held units waits) waits;
  exactly = λ wait has. (
    λ both.
        let parts = and_parts (is_held units waits wait) (are.test wait) both in
        let it = (are.exactly wait (in-left wait has parts.0)).0 parts.1 in
        record {
          those = it.those;
          circle = record {
            among = All-weaker (Contains left) (Contains waits) there it.those it.circle.among;
            held = it.circle.held;
          };
          in_it = it.in_it;
        },
    λ it.
        let held : is_held units waits wait ≡ true = circle-held units waits wait it in
        and_from (is_held units waits wait) (are.test wait) held
        ((are.exactly wait (in-left wait has held)).1 (record {
          those = it.those;
          circle = record { among = all-left it; held = it.circle.held };
          in_it = it.in_it;
        })),
  );
}
  where
    there : (wait : Wait) → Contains left wait → Contains waits wait
    there wait has = kept-there (is_held units waits) waits wait (subst (λ (ws : List Wait). Contains ws wait) is has)

    in-left : (wait : Wait) → Contains waits wait → is_held units waits wait ≡ true → Contains left wait
    in-left wait has held =
        subst (λ (ws : List Wait). Contains ws wait) (sym is) (there-kept (is_held units waits) waits wait has held)

    all-left : {wait : Wait} (it : IsInCircle units waits wait) → All (Contains left) it.those
    all-left it = λ k d few.
        let other : Wait = slice_index_or it.those k d in
        in-left other (it.circle.among k d few)
        (held-more units it.those waits other it.circle.among (it.circle.held k d few))

-- where none is left out, all are
pub all-circular : (units : List Unit) (waits held : List Wait) → held ≡ filter (is_held units waits) waits →
    length held ≡ length waits → AreCircular units waits held
all-circular units waits held is many = record {
  test = is_held units waits;
  those = is;
  exactly = λ wait has. (
    λ _. record {
      those = waits;
      circle = record {
        among = All-contains_itself waits;
        held = all-kept (is_held units waits) waits (omega (arith, sym many, ap length is));
      };
      in_it = has;
    },
    λ it. circle-held units waits wait it,
  );
}

pub left-fewer : (units : List Unit) (waits left : List Wait) → left ≡ filter (is_held units waits) waits →
    (length left ≡ length waits → ⊥) → length left < length waits
left-fewer units waits left is other = omega (arith, ap length is, fewer (is_held units waits) waits, other)
