-- The least and the greatest stop of a range, from those of its parts.
use Rattle.std.proofs.Common.{◌≡◌, ℕ, ◌+◌, ◌<◌, ◌≤◌, refl, sym, subst, arith, inl, inr}
use Rattle.std.specs.Prelude.{Bool, true, false, Decides, if◌then◌else◌, Option, Some, None, is_some, IfNone}
use Rattle.std.proofs.lemmas.Bool.{cases_lt, false≢true}
use Rattle.brd_debug.specs.Stops.{NoneFrom, IsLeast, IsGreatest}

pub none-more : (Stop : ℕ → Type 0) (from to : ℕ) → NoneFrom Stop from to → (Stop to → ⊥) → NoneFrom Stop from (to + 1)
none-more Stop from to none here m above below stop = elim (cases_lt m to) [
  | inl lt ↦ none m above lt stop
  | inr ge ↦ let same : m ≡ to = omega (arith, ge, below) in here (subst Stop same stop)
]

greatest-here : (Stop : ℕ → Type 0) (from to : ℕ) → from ≤ to → Stop to → IsGreatest Stop from (to + 1) (Some to)
greatest-here Stop from to above here = (above, omega arith, here, λ m behind before stop. omega (arith, behind, before))

greatest-more : (Stop : ℕ → Type 0) (from to : ℕ) (last : Option ℕ) → IsGreatest Stop from to last → (Stop to → ⊥) → IsGreatest Stop from (to + 1) last
greatest-more Stop from to None none here = none-more Stop from to none here
greatest-more Stop from to (Some n) is here = (
  is.0,
  omega (arith, is.1),
  is.2,
  λ m behind before stop. elim (cases_lt m to) [
    | inl lt ↦ is.3 m behind lt stop
    | inr ge ↦ let same : m ≡ to = omega (arith, ge, before) in here (subst Stop same stop)
  ],
)

-- with one position more
pub greatest-next : (Stop : ℕ → Type 0) (from at : ℕ) (found : Bool) (last new : Option ℕ) → Decides found (Stop at) → from ≤ at →
    new ≡ (if found then Some at else last) → IsGreatest Stop from at last → IsGreatest Stop from (at + 1) new
greatest-next Stop from at true last new is on gives greatest =
    subst (IsGreatest Stop from (at + 1)) (sym gives) (greatest-here Stop from at on (is.0 refl))
greatest-next Stop from at false last new is on gives greatest =
    subst (IsGreatest Stop from (at + 1)) (sym gives) (greatest-more Stop from at last greatest (λ stop. false≢true (is.1 stop)))

-- two ranges, one after the other

pub none-both : (Stop : ℕ → Type 0) (from mid to : ℕ) → NoneFrom Stop from mid → NoneFrom Stop mid to → NoneFrom Stop from to
none-both Stop from mid to front behind m above below stop = elim (cases_lt m mid) [
  | inl lt ↦ front m above lt stop
  | inr ge ↦ behind m ge below stop
]

-- a range, and one after it in which there is none

pub greatest-on : (Stop : ℕ → Type 0) (from mid to : ℕ) (last : Option ℕ) → mid ≤ to → IsGreatest Stop from mid last → NoneFrom Stop mid to →
    IsGreatest Stop from to last
greatest-on Stop from mid to None on is none = none-both Stop from mid to is none
greatest-on Stop from mid to (Some n) on is none =
    (is.0, omega (arith, is.1, on), is.2, λ m behind before stop. none-both Stop (n + 1) mid to (λ k above below s. is.3 k (omega (arith, above)) below s) none m (omega (arith, behind)) before stop)

pub least-whole : (Stop : ℕ → Type 0) (from mid end to n : ℕ) → from ≤ mid → end ≤ to → NoneFrom Stop from mid →
    IsLeast Stop mid end (Some n) → IsLeast Stop from to (Some n)
least-whole Stop from mid end to n above below none is =
    (omega (arith, above, is.0), omega (arith, below, is.1), is.2, none-both Stop from mid n none is.3)

pub greatest-whole : (Stop : ℕ → Type 0) (low from mid to n : ℕ) → low ≤ from → mid ≤ to → NoneFrom Stop mid to →
    IsGreatest Stop from mid (Some n) → IsGreatest Stop low to (Some n)
greatest-whole Stop low from mid to n above below none is = (
  omega (arith, above, is.0),
  omega (arith, below, is.1),
  is.2,
  λ m behind before stop. elim (cases_lt m mid) [
    | inl lt ↦ is.3 m behind lt stop
    | inr ge ↦ none m ge before stop
  ],
)

-- what was found in a part, or not

pub found-least : (Stop : ℕ → Type 0) (from mid end to : ℕ) (found : Option ℕ) → is_some found ≡ true → from ≤ mid → end ≤ to →
    NoneFrom Stop from mid → IsLeast Stop mid end found → IsLeast Stop from to found
found-least Stop from mid end to None some above below none is = absurd (false≢true some)
found-least Stop from mid end to (Some n) some above below none is = least-whole Stop from mid end to n above below none is

pub found-more : (Stop : ℕ → Type 0) (from to : ℕ) (found : Option ℕ) → is_some found ≡ true → IsLeast Stop from to found → from < to
found-more Stop from to None some is = absurd (false≢true some)
found-more Stop from to (Some n) some is = omega (arith, is.0, is.1)

pub found-greatest : (Stop : ℕ → Type 0) (low from mid to : ℕ) (found : Option ℕ) → is_some found ≡ true → low ≤ from → mid ≤ to →
    NoneFrom Stop mid to → IsGreatest Stop from mid found → IsGreatest Stop low to found
found-greatest Stop low from mid to None some above below none is = absurd (false≢true some)
found-greatest Stop low from mid to (Some n) some above below none is = greatest-whole Stop low from mid to n above below none is

pub found-some : (P : Type 0) (found : Option ℕ) → is_some found ≡ true → IfNone found P
found-some P None some = absurd (false≢true some)
found-some P (Some n) some = tt

pub none-of : (found : Option ℕ) → is_some found ≡ false → found ≡ None
none-of None none = refl
none-of (Some n) none = absurd (false≢true (sym none))

pub none-least : (Stop : ℕ → Type 0) (from to : ℕ) (found : Option ℕ) → is_some found ≡ false → IsLeast Stop from to found → NoneFrom Stop from to
none-least Stop from to None none is = is
none-least Stop from to (Some n) none is = absurd (false≢true (sym none))

pub none-greatest : (Stop : ℕ → Type 0) (from to : ℕ) (found : Option ℕ) → is_some found ≡ false → IsGreatest Stop from to found → NoneFrom Stop from to
none-greatest Stop from to None none is = is
none-greatest Stop from to (Some n) none is = absurd (false≢true (sym none))
