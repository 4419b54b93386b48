-- Clocks and marks as they are kept.
use Rattle.std.proofs.Common.{◌≡◌, ℕ, zero, suc, ◌+◌, ◌<◌, ◌≤◌, List, [], ◌∷◌, ◌++◌, length, refl, sym, ap, subst}
use Rattle.std.proofs.Common.{◌∙◌, arith, inl, inr}
use Rattle.std.specs.Prelude.{Some, ◌⊎◌, Option, slice_set}
use Rattle.std.specs.List.{slice_get}
use Rattle.std.specs.Prelude.{IfSome, slice_index_or}
use Rattle.std.proofs.lemmas.Option.{slice_get_read}
use Rattle.std.proofs.lemmas.Bool.{cases_eq, cases_lt}
use Rattle.brd_order.specs.declared.deed.{Mark.Mark}
use Rattle.brd_order.specs.declared.clock.Clock.{Clock}
use Rattle.brd_order.specs.declared.marks.Share.{Share}
use Rattle.brd_order.specs.Clocks.{count_in, IsGreater, Joins}
use Rattle.brd_order.specs.Races.{IsIn}
use Rattle.brd_order.specs.Marks.{AreLike, ComesIn, Replaces, IsUnknown, TakesLater}
use Rattle.brd_order.specs.Tables.{counts_of, counts_if, counts_at, marks_if, marks_at, share_of}
use Rattle.brd_order.proofs.OrderLemmas.{of-some}

-- a clock with more counts of 0
pub count-more : (xs : List ℕ) (i : ℕ) → count_in (xs ++ 0 ∷ []) i ≡ count_in xs i
count-more [] zero = refl
count-more [] (suc i) = refl
count-more (x ∷ xs) zero = refl
count-more (x ∷ xs) (suc i) = count-more xs i

-- clocks with more empty ones
pub counts-more : (clocks : List Clock) (c : Clock) → c.counts.items ≡ [] → (i t : ℕ) →
    counts_at (clocks ++ c ∷ []) i t ≡ counts_at clocks i t
counts-more [] c empty zero t = ap (λ xs. count_in xs t) empty
counts-more [] c empty (suc i) t = refl
counts-more (x ∷ clocks) c empty zero t = refl
counts-more (x ∷ clocks) c empty (suc i) t = counts-more clocks c empty i t

-- an element that is set, and the others

pub set-there : {A : Type 0} (xs : List A) (i : ℕ) (x : A) → i < length xs → slice_get (slice_set xs i x) i ≡ Some x
set-there [] i x h = absurd (omega arith)
set-there (y ∷ xs) zero x h = refl
set-there (y ∷ xs) (suc i) x h = set-there xs i x (omega arith)

pub set-elsewhere : {A : Type 0} (xs : List A) (i j : ℕ) (x : A) → (j ≡ i → ⊥) →
    slice_get (slice_set xs i x) j ≡ slice_get xs j
set-elsewhere [] i j x h = refl
set-elsewhere (y ∷ xs) zero zero x h = absurd (h refl)
set-elsewhere (y ∷ xs) zero (suc j) x h = refl
set-elsewhere (y ∷ xs) (suc i) zero x h = refl
set-elsewhere (y ∷ xs) (suc i) (suc j) x h = set-elsewhere xs i j x (λ e. h (ap suc e))

-- shares

pub marks-more : (shares : List Share) (s : Share) → s.marks.items ≡ [] →
    ((i : ℕ) → marks_if (slice_get shares i) ≡ []) → (i : ℕ) →
    marks_if (slice_get (shares ++ s ∷ []) i) ≡ []
marks-more [] s empty all zero = empty
marks-more [] s empty all (suc i) = refl
marks-more (x ∷ shares) s empty all zero = all 0
marks-more (x ∷ shares) s empty all (suc i) = marks-more shares s empty (λ j. all (suc j)) i

-- a mark comes in where its share is replaced by one in which it comes in
share-there : (shares : List Share) (i w : ℕ) (s : Share) → i < length shares → share_of w ≡ i →
    marks_at (slice_set shares i s) w ≡ s.marks.items
share-there shares i w s within at = ap marks_if (ap (slice_get (slice_set shares i s)) at ∙ set-there shares i s
    within)

share-elsewhere : (shares : List Share) (i w : ℕ) (s : Share) → (share_of w ≡ i → ⊥) →
    marks_at (slice_set shares i s) w ≡ marks_at shares w
share-elsewhere shares i w s other = ap marks_if (set-elsewhere shares i (share_of w) s other)

share-read : (shares : List Share) (i w : ℕ) (s : Share) → i < length shares → s ≡ slice_index_or shares i s →
    share_of w ≡ i → marks_at shares w ≡ s.marks.items
share-read shares i w s within is at = ap marks_if (ap (slice_get shares) at ∙ slice_get_read shares (length shares) i s
    refl within is)

comes-those : (shares : List Share) (mark m : Mark) (i w : ℕ) (old new : Share) → i < length shares →
    old ≡ slice_index_or shares i old →
    Replaces mark old.marks.items new.marks.items → IsIn m (marks_at (slice_set shares i new) w) →
    (share_of w ≡ i) ⊎ (share_of w ≡ i → ⊥) →
    IsIn m (marks_at shares w) ⊎ (m ≡ mark)
comes-those shares mark m i w old new within is replaces in_new (inl at) =
    subst (λ (ms : List Mark). IsIn m ms ⊎ (m ≡ mark)) (sym (share-read shares i w old within is at))
    (replaces.those m (subst (IsIn m) (share-there shares i w new within at) in_new))
comes-those shares mark m i w old new within is replaces in_new (inr other) = inl
    (subst (IsIn m) (share-elsewhere shares i w new other) in_new)

comes-kept : (shares : List Share) (mark m : Mark) (i w : ℕ) (old new : Share) → i < length shares →
    old ≡ slice_index_or shares i old →
    Replaces mark old.marks.items new.marks.items → IsIn m (marks_at shares w) →
    (share_of w ≡ i) ⊎ (share_of w ≡ i → ⊥) →
    IsIn m (marks_at (slice_set shares i new) w) ⊎ AreLike m mark
comes-kept shares mark m i w old new within is replaces in_old (inl at) =
    subst (λ (ms : List Mark). IsIn m ms ⊎ AreLike m mark) (sym (share-there shares i w new within at))
    (replaces.kept m (subst (IsIn m) (share-read shares i w old within is at) in_old))
comes-kept shares mark m i w old new within is replaces in_old (inr other) = inl
    (subst (IsIn m) (sym (share-elsewhere shares i w new other)) in_old)

pub comes-in : (shares : List Share) (mark : Mark) (i : ℕ) (old new : Share) → share_of mark.touch.word ≡ i →
    i < length shares → old ≡ slice_index_or shares i old →
    Replaces mark old.marks.items new.marks.items → ComesIn mark (marks_at shares) (marks_at (slice_set shares i new))
comes-in shares mark i old new at within is replaces = record {
  those = λ w m in_new. comes-those shares mark m i w old new within is replaces in_new (cases_eq (share_of w) i);
  kept = λ w m in_old. comes-kept shares mark m i w old new within is replaces in_old (cases_eq (share_of w) i);
  there = subst (IsIn mark) (sym (share-there shares i mark.touch.word new within at)) replaces.there;
}

greater-same : (a b c one both : ℕ) → one ≡ a → both ≡ c → IsGreater a b c → IsGreater one b both
greater-same a b c one both e f greater = subst (λ n. IsGreater n b both) (sym e)
    (subst (λ n. IsGreater a b n) (sym f) greater)

-- the clock of a strand is another one

pub joins-at : (clocks : List Clock) (strand : ℕ) (old new : Clock) (given : ℕ → ℕ) → strand < length clocks →
    old ≡ slice_index_or clocks strand old →
    Joins (counts_of old) given (counts_of new) → Joins (counts_at clocks strand) given
    (counts_at (slice_set clocks strand new) strand)
joins-at clocks strand old new given within is joins t =
    let before : counts_at clocks strand t ≡ counts_of old t = ap (λ (c : Option Clock). counts_if c t)
    (slice_get_read clocks (length clocks) strand old refl within is) in
    let after : counts_at (slice_set clocks strand new) strand t ≡ counts_of new t = ap
    (λ (c : Option Clock). counts_if c t) (set-there clocks strand new within) in
    greater-same (counts_of old t) (given t) (counts_of new t) (counts_at clocks strand t)
    (counts_at (slice_set clocks strand new) strand t) before after (joins t)

pub counts-elsewhere : (clocks : List Clock) (strand : ℕ) (new : Clock) (other t : ℕ) → (other ≡ strand → ⊥) →
    counts_at (slice_set clocks strand new) other t ≡ counts_at clocks other t
counts-elsewhere clocks strand new other t n = ap (λ (c : Option Clock). counts_if c t)
    (set-elsewhere clocks strand other new n)

-- the last mark that isn't known, one mark more

pub later-unknown : (counts : ℕ → ℕ) (new : Mark) (marks : List Mark) (i : ℕ) (m : Mark) (old found : Option Mark) →
    slice_get marks i ≡ Some m →
    TakesLater counts new m old found → IfSome old (λ b. IsIn b marks × IsUnknown counts new b) →
    IfSome found (λ b. IsIn b marks × IsUnknown counts new b)
later-unknown counts new marks i m old found is (inl takes) unknown =
    subst (λ (o : Option Mark). IfSome o (λ b. IsIn b marks × IsUnknown counts new b)) (sym takes.2) ((i, is), takes.0)
later-unknown counts new marks i m old found is (inr keeps) unknown =
    subst (λ (o : Option Mark). IfSome o (λ b. IsIn b marks × IsUnknown counts new b)) (sym keeps.1) unknown

later-one : (counts : ℕ → ℕ) (new m q best : Mark) (old found : Option Mark) → TakesLater counts new m old found →
    old ≡ Some best → q.at ≤ best.at →
    (b : Mark) × (found ≡ Some b) × (q.at ≤ b.at)
later-one counts new m q best old found (inl takes) is late =
    let low : best.at ≤ m.at = subst (λ (o : Option Mark). IfSome o (λ b. b.at ≤ m.at)) is takes.1 in
    (m, takes.2, omega (arith, low, late))
later-one counts new m q best old found (inr keeps) is late = (best, keeps.1 ∙ is, late)

later-self : (counts : ℕ → ℕ) (new m : Mark) (old found : Option Mark) → TakesLater counts new m old found →
    IsUnknown counts new m →
    (b : Mark) × (found ≡ Some b) × (m.at ≤ b.at)
later-self counts new m old found (inl takes) unknown = (m, takes.2, omega arith)
later-self counts new m old found (inr keeps) unknown = let it = keeps.0 unknown in (it.0, keeps.1 ∙ it.1, it.2)

pub later-last : (counts : ℕ → ℕ) (new : Mark) (marks : List Mark) (i : ℕ) (m : Mark) (old found : Option Mark) →
    slice_get marks i ≡ Some m →
    TakesLater counts new m old found →
    ((k : ℕ) (q : Mark) → k < i → slice_get marks k ≡ Some q → IsUnknown counts new q →
    (b : Mark) × (old ≡ Some b) × (q.at ≤ b.at)) →
    (k : ℕ) (q : Mark) → k < i + 1 → slice_get marks k ≡ Some q → IsUnknown counts new q →
    (b : Mark) × (found ≡ Some b) × (q.at ≤ b.at)
later-last counts new marks i m old found is takes last k q below at unknown = elim (cases_lt k i) [
  | inl less ↦ let it = last k q less at unknown in later-one counts new m q it.0 old found takes it.1 it.2
  | inr same ↦
      let e : k ≡ i = omega (arith, same, below) in
      let one : m ≡ q = of-some m q (sym is ∙ (ap (slice_get marks) (sym e) ∙ at)) in
      subst (λ (x : Mark). (b : Mark) × (found ≡ Some b) × (x.at ≤ b.at)) one
      (later-self counts new m old found takes (subst (IsUnknown counts new) (sym one) unknown))
]
