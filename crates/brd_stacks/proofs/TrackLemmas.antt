-- What is told of a stack after a point more.
use Rattle.std.proofs.Common.{◌≡◌, ℕ, zero, suc, ◌+◌, ◌<◌, ◌≤◌, List, [], ◌∷◌, ◌++◌, length, length-append, take, drop, refl, sym, ap, subst, ◌∙◌, arith, inl, inr}
use Rattle.std.specs.Prelude.{Bool, true, false, ◌&&◌, ◌||◌, if◌then◌else◌, Some, None, Option, ◌⊎◌, map, is_some}
use Rattle.std.specs.List.{slice_get, AllByRecursion}
use Rattle.std.proofs.lemmas.Bool.{false≢true}
use Rattle.std.proofs.lemmas.Bool.Decides.{nat_tests}
use Rattle.std.proofs.lemmas.Option.{slice_get_within}
use Rattle.std.proofs.lemmas.List.{take-append-le, length-map, append-nil}
use Rattle.std.proofs.Math.Seq.{drop-length, take-length, take-append_seam}
use Rattle.brd_stacks.specs.declared.stack.Point.{Point}
use Rattle.brd_stacks.specs.declared.stack.Stack.{Stack}
use Rattle.brd_stacks.specs.declared.track.Track.{Track}
use Rattle.brd_stacks.specs.Strands.{deeper, less_than, lies_in, overflows_when, stands_after, stands_from, stands_on}
use Rattle.brd_stacks.specs.Depths.{Lies, IsDeepest, DeepestOf, Overflows, IsFirst, OverflowOf, Follows, AreFollowed, IsSoonest, some_overflow}
use Rattle.brd_stacks.specs.Tracks.{overflow_by, started, taken}

of-some : {A : Type 0} (x y : A) → Some x ≡ Some y → x ≡ y
of-some x y e = cc

-- an element of a list with one more

get-more : {A : Type 0} (xs : List A) (y : A) (i : ℕ) (x : A) → slice_get xs i ≡ Some x → slice_get (xs ++ y ∷ []) i ≡ Some x
get-more [] y i x e = absurd (cc)
get-more (z ∷ xs) y zero x e = e
get-more (z ∷ xs) y (suc i) x e = get-more xs y i x e

get-last : {A : Type 0} (xs : List A) (y : A) → slice_get (xs ++ y ∷ []) (length xs) ≡ Some y
get-last [] y = refl
get-last (z ∷ xs) y = get-last xs y

get-cases : {A : Type 0} (xs : List A) (y : A) (i : ℕ) (x : A) → slice_get (xs ++ y ∷ []) i ≡ Some x →
    ((i < length xs) × (slice_get xs i ≡ Some x)) ⊎ ((i ≡ length xs) × (x ≡ y))
get-cases [] y zero x e = inr (refl, sym (of-some y x e))
get-cases [] y (suc i) x e = absurd (cc)
get-cases (z ∷ xs) y zero x e = inl (omega arith, e)
get-cases (z ∷ xs) y (suc i) x e = elim (get-cases xs y i x e) [
  | inl before ↦ inl (omega (arith, before.0), before.1)
  | inr last ↦ inr (omega (arith, last.0), last.1)
]

take-before : {A : Type 0} (xs : List A) (y : A) (i : ℕ) → i ≤ length xs → take i (xs ++ y ∷ []) ≡ take i xs
take-before xs y i h = take-append-le i xs (y ∷ []) h

take-front : {A : Type 0} (xs : List A) (y : A) → take (length xs) (xs ++ y ∷ []) ≡ xs
take-front xs y = take-append_seam xs (y ∷ [])

-- whether the strand stands on its stack

stands-more : (stack : Stack) (stands : Bool) (points : List Point) (p : Point) →
    stands_from stack stands (points ++ p ∷ []) ≡ stands_after stack (stands_from stack stands points) p
stands-more stack stands [] p = refl
stands-more stack stands (q ∷ points) p = stands-more stack (stands_after stack stands q) points p

-- tests

both : (a b : Bool) → (a && b) ≡ true → (a ≡ true) × (b ≡ true)
both true true e = (refl, refl)
both true false e = absurd (false≢true e)
both false b e = absurd (false≢true e)

second-off : (a b : Bool) → (a && b) ≡ false → a ≡ true → b ≡ false
second-off true b e is = e
second-off false b e is = absurd (false≢true is)

-- the deepest point

lies-more : (stack : Stack) (points : List Point) (p : Point) (k : ℕ) (q : Point) → Lies stack points k q → Lies stack (points ++ p ∷ []) k q
lies-more stack points p k q lies = record { is = get-more points p k q lies.is; inside = lies.inside }

lies-last : (stack : Stack) (points : List Point) (p : Point) → lies_in stack p ≡ true → Lies stack (points ++ p ∷ []) (length points) p
lies-last stack points p inside = record { is = get-last points p; inside = inside }

abbrev LiesLast : Stack → List Point → Point → ℕ → Point → Type 0
LiesLast stack points p k q = (k ≡ length points) × (q ≡ p) × (lies_in stack p ≡ true)

lies-cases : (stack : Stack) (points : List Point) (p : Point) (k : ℕ) (q : Point) → Lies stack (points ++ p ∷ []) k q →
    ((k < length points) × Lies stack points k q) ⊎ LiesLast stack points p k q
lies-cases stack points p k q lies = elim (get-cases points p k q lies.is) [
  | inl before ↦ inl (before.0, record { is = before.1; inside = lies.inside })
  | inr last ↦ inr (last.0, last.1, subst (λ (x : Point). lies_in stack x ≡ true) last.1 lies.inside)
]

lower : (p q : Point) → less_than p (Some q) ≡ true → p.after < q.after
lower p q e = grind (arith, nat_tests, e)

not-lower : (p q : Point) → less_than p (Some q) ≡ false → q.after ≤ p.after
not-lower p q e = grind (arith, nat_tests, e)

deepest-new : (stack : Stack) (points : List Point) (old : Option Point) (p : Point) → deeper stack old p ≡ true → DeepestOf stack points old →
    IsDeepest stack (points ++ p ∷ []) p
deepest-new stack points None p is none = record {
  k = length points;
  lies = lies-last stack points p (both (lies_in stack p) true is).0;
  least = λ j q lies. elim (lies-cases stack points p j q lies) [
    | inl before ↦ absurd (none j q before.1)
    | inr last ↦ let same : q.after ≡ p.after = ap (λ (x : Point). x.after) last.1 in omega (arith, same)
  ];
  first = λ j q lies earlier. elim (lies-cases stack points p j q lies) [
    | inl before ↦ absurd (none j q before.1)
    | inr last ↦ absurd (omega (arith, earlier, last.0))
  ];
}
deepest-new stack points (Some d) p is deepest =
    let tests = both (lies_in stack p) (less_than p (Some d)) is in
    let less : p.after < d.after = lower p d tests.1 in
    record {
      k = length points;
      lies = lies-last stack points p tests.0;
      least = λ j q lies. elim (lies-cases stack points p j q lies) [
        | inl before ↦ let no_less : d.after ≤ q.after = deepest.least j q before.1 in omega (arith, less, no_less)
        | inr last ↦ let same : q.after ≡ p.after = ap (λ (x : Point). x.after) last.1 in omega (arith, same)
      ];
      first = λ j q lies earlier. elim (lies-cases stack points p j q lies) [
        | inl before ↦ let no_less : d.after ≤ q.after = deepest.least j q before.1 in omega (arith, less, no_less)
        | inr last ↦ absurd (omega (arith, earlier, last.0))
      ];
    }

deepest-old : (stack : Stack) (points : List Point) (old : Option Point) (p : Point) → deeper stack old p ≡ false → DeepestOf stack points old →
    DeepestOf stack (points ++ p ∷ []) old
deepest-old stack points None p off none = λ k q lies. elim (lies-cases stack points p k q lies) [
  | inl before ↦ none k q before.1
  | inr last ↦ false≢true (sym (second-off (lies_in stack p) true off last.2))
]
deepest-old stack points (Some d) p off deepest =
    let within : deepest.k < length points = slice_get_within points deepest.k d deepest.lies.is in
    record {
      k = deepest.k;
      lies = lies-more stack points p deepest.k d deepest.lies;
      least = λ j q lies. elim (lies-cases stack points p j q lies) [
        | inl before ↦ deepest.least j q before.1
        | inr last ↦
            let same : q.after ≡ p.after = ap (λ (x : Point). x.after) last.1 in
            let no_less : d.after ≤ p.after = not-lower p d (second-off (lies_in stack p) (less_than p (Some d)) off last.2) in
            omega (arith, same, no_less)
      ];
      first = λ j q lies earlier. elim (lies-cases stack points p j q lies) [
        | inl before ↦ deepest.first j q before.1 earlier
        | inr last ↦ absurd (omega (arith, earlier, within, last.0))
      ];
    }

deepest-either : (stack : Stack) (points : List Point) (old : Option Point) (p : Point) (is : Bool) → deeper stack old p ≡ is → DeepestOf stack points old →
    DeepestOf stack (points ++ p ∷ []) (if is then Some p else old)
deepest-either stack points old p true is deepest = deepest-new stack points old p is deepest
deepest-either stack points old p false is deepest = deepest-old stack points old p is deepest

-- the first store below it

overflows-more : (stack : Stack) (points : List Point) (p : Point) (k : ℕ) (q : Point) → Overflows stack points k q → Overflows stack (points ++ p ∷ []) k q
overflows-more stack points p k q over =
    let within : k < length points = slice_get_within points k q over.is in
    record {
      is = get-more points p k q over.is;
      over = ap (λ (l : List Point). overflows_when stack (stands_on stack l) q) (take-before points p k (omega (arith, within))) ∙ over.over;
    }

abbrev OverflowsLast : Stack → List Point → Point → ℕ → Point → Type 0
OverflowsLast stack points p k q = (k ≡ length points) × (q ≡ p) × (overflows_when stack (stands_on stack points) p ≡ true)

overflows-cases : (stack : Stack) (points : List Point) (p : Point) (k : ℕ) (q : Point) → Overflows stack (points ++ p ∷ []) k q →
    ((k < length points) × Overflows stack points k q) ⊎ OverflowsLast stack points p k q
overflows-cases stack points p k q over = elim (get-cases points p k q over.is) [
  | inl before ↦ inl (
    before.0,
    record {
      is = before.1;
      over = ap (λ (l : List Point). overflows_when stack (stands_on stack l) q) (sym (take-before points p k (omega (arith, before.0)))) ∙ over.over;
    },
  )
  | inr last ↦ inr (
    last.0,
    last.1,
    subst (λ (x : Point). overflows_when stack (stands_on stack points) x ≡ true) last.1
        (ap (λ (l : List Point). overflows_when stack (stands_on stack l) q) (sym (ap (λ n. take n (points ++ p ∷ [])) last.0 ∙ take-front points p)) ∙ over.over),
  )
]

overflow-old : (stack : Stack) (points : List Point) (p o : Point) → IsFirst stack points o → IsFirst stack (points ++ p ∷ []) o
overflow-old stack points p o first =
    let within : first.k < length points = slice_get_within points first.k o first.over.is in
    record {
      k = first.k;
      over = overflows-more stack points p first.k o first.over;
      first = λ j q over. elim (overflows-cases stack points p j q over) [
        | inl before ↦ first.first j q before.1
        | inr last ↦ omega (arith, within, last.0)
      ];
    }

overflow-new : (stack : Stack) (points : List Point) (p : Point) (is : Bool) → overflows_when stack (stands_on stack points) p ≡ is → OverflowOf stack points None →
    OverflowOf stack (points ++ p ∷ []) (if is then Some p else None)
overflow-new stack points p true is none = record {
  k = length points;
  over = record {
    is = get-last points p;
    over = ap (λ (l : List Point). overflows_when stack (stands_on stack l) p) (take-front points p) ∙ is;
  };
  first = λ j q over. elim (overflows-cases stack points p j q over) [
    | inl before ↦ absurd (none j q before.1)
    | inr last ↦ omega (arith, last.0)
  ];
}
overflow-new stack points p false is none = λ k q over. elim (overflows-cases stack points p k q over) [
  | inl before ↦ none k q before.1
  | inr last ↦ false≢true (sym is ∙ last.2)
]

overflow-either : (track : Track) (points : List Point) (p : Point) (old : Option Point) → track.stands ≡ stands_on track.stack points →
    OverflowOf track.stack points old → OverflowOf track.stack (points ++ p ∷ []) (overflow_by track p old)
overflow-either track points p None stands over =
    overflow-new track.stack points p (overflows_when track.stack track.stands p) (ap (λ b. overflows_when track.stack b p) (sym stands)) over
overflow-either track points p (Some o) stands over = overflow-old track.stack points p o over

-- what is told of a stack, and of many

follows-taken : (points : List Point) (p : Point) (track : Track) → Follows points track → Follows (points ++ p ∷ []) (taken p track)
follows-taken points p track follows = record {
  stands = ap (λ b. stands_after track.stack b p) follows.stands ∙ sym (stands-more track.stack false points p);
  deepest = deepest-either track.stack points track.deepest p (deeper track.stack track.deepest p) refl follows.deepest;
  overflow = overflow-either track points p track.overflow follows.stands follows.overflow;
}

all-taken : (points : List Point) (p : Point) (tracks : List Track) → AllByRecursion (Follows points) tracks →
    AllByRecursion (Follows (points ++ p ∷ [])) (map (taken p) tracks)
all-taken points p [] all = all
all-taken points p (track ∷ tracks) all = (follows-taken points p track all.0, all-taken points p tracks all.1)

same-stacks : (p : Point) (tracks : List Track) → map (λ (t : Track). t.stack) (map (taken p) tracks) ≡ map (λ (t : Track). t.stack) tracks
same-stacks p [] = refl
same-stacks p (track ∷ tracks) = ap (λ (l : List Stack). track.stack ∷ l) (same-stacks p tracks)

pub followed-more : (stacks : List Stack) (points : List Point) (p : Point) (old new : List Track) → new ≡ map (taken p) old → AreFollowed stacks points old →
    AreFollowed stacks (points ++ p ∷ []) new
followed-more stacks points p old new is followed = record {
  same = ap (map (λ (t : Track). t.stack)) is ∙ same-stacks p old ∙ followed.same;
  each = subst (AllByRecursion (Follows (points ++ p ∷ []))) (sym is) (all-taken points p old followed.each);
}

-- where none is told, there is none

none-by : (o : Option Point) → is_some o ≡ false → o ≡ None
none-by None e = refl
none-by (Some p) e = absurd (false≢true (sym e))

neither : (a b : Bool) → (a || b) ≡ false → (a ≡ false) × (b ≡ false)
neither false b e = (refl, e)
neither true b e = absurd (false≢true (sym e))

no-overflow : (points : List Point) (tracks : List Track) → AllByRecursion (Follows points) tracks → some_overflow tracks ≡ false →
    (i : ℕ) (stack : Stack) (k : ℕ) (q : Point) → slice_get (map (λ (t : Track). t.stack) tracks) i ≡ Some stack → Overflows stack points k q → ⊥
no-overflow points [] all calm i stack k q is over = absurd (cc)
no-overflow points (track ∷ tracks) all calm zero stack k q is over =
    let same : track.stack ≡ stack = of-some track.stack stack is in
    let none : OverflowOf track.stack points None =
    subst (OverflowOf track.stack points) (none-by track.overflow (neither (is_some track.overflow) (some_overflow tracks) calm).0) all.0.overflow in
    none k q (subst (λ (s : Stack). Overflows s points k q) (sym same) over)
no-overflow points (track ∷ tracks) all calm (suc i) stack k q is over =
    no-overflow points tracks all.1 (neither (is_some track.overflow) (some_overflow tracks) calm).1 i stack k q is over

pub soonest-more : (stacks : List Stack) (points : List Point) (p : Point) (old : List Track) → AreFollowed stacks points old → some_overflow old ≡ false →
    IsSoonest stacks (points ++ p ∷ [])
soonest-more stacks points p old followed calm = λ i stack k q is over. elim (overflows-cases stack points p k q over) [
  | inl before ↦ absurd (no-overflow points old followed.each calm i stack k q (ap (λ (ss : List Stack). slice_get ss i) followed.same ∙ is) before.1)
  | inr last ↦ let longer : length (points ++ p ∷ []) ≡ length points + 1 = length-append points (p ∷ []) in omega (arith, last.0, longer)
]

-- nothing has happened

no-point : (k : ℕ) (p : Point) → slice_get [] k ≡ Some p → ⊥
no-point k p e = cc

follows-started : (stack : Stack) → Follows [] (started stack)
follows-started stack = record {
  stands = refl;
  deepest = λ k p lies. no-point k p lies.is;
  overflow = λ k p over. no-point k p over.is;
}

all-started : (stacks : List Stack) → AllByRecursion (Follows []) (map started stacks)
all-started [] = tt
all-started (stack ∷ stacks) = (follows-started stack, all-started stacks)

stacks-started : (stacks : List Stack) → map (λ (t : Track). t.stack) (map started stacks) ≡ stacks
stacks-started [] = refl
stacks-started (stack ∷ stacks) = ap (λ (l : List Stack). stack ∷ l) (stacks-started stacks)

pub followed-none : (stacks : List Stack) (tracks : List Track) → tracks ≡ map started stacks → AreFollowed stacks [] tracks
followed-none stacks tracks is = record {
  same = ap (map (λ (t : Track). t.stack)) is ∙ stacks-started stacks;
  each = subst (AllByRecursion (Follows [])) (sym is) (all-started stacks);
}

-- as many elements as there were take their place
pub written-back : {X : Type 0} (change : X → X) (old new : List X) (n : ℕ) → n ≡ length old → new ≡ map change old → take n (new ++ drop (length new) old) ≡ map change old
written-back change old new n all is =
    let same : length new ≡ length old = ap length is ∙ length-map old change in
    let none : drop (length new) old ≡ [] = ap (λ k. drop k old) same ∙ drop-length old in
    ap (λ l. take n (new ++ l)) none ∙ ap (take n) (append-nil new) ∙ ap (λ k. take k new) (all ∙ sym same) ∙ take-length new ∙ is
