-- Who is in a ring after each call, that nobody is in it twice, and how many there can be.
use Rattle.std.proofs.Common.{◌≡◌, ◌<◌, ◌≤◌, ℕ, List, [], ◌∷◌, ◌++◌, length, refl, sym, true≢false, eqb, arith}
use Rattle.std.specs.Prelude.{Bool, true, false, ◌==◌, ◌||◌, ◌&&◌, not, if◌then◌else◌}
use Rattle.std.specs.List.{AllByRecursion, IsDistinct, list_any}
use Rattle.std.proofs.lemmas.Bool.Decides.{nat_tests}
use Rattle.std.proofs.lemmas.Map.Steps.{length-le_from_distinct_below}
use Rattle.brd_rings.specs.Rings.{has, without, turned, AreApart}

pub has-append : (k x : ℕ) (xs : List ℕ) → has k (xs ++ x ∷ []) ≡ (x == k) || has k xs
has-append k x [] = refl
has-append k x (y ∷ ys) = grind (arith, nat_tests, has-append k x ys)

pub has-without : (k x : ℕ) (xs : List ℕ) → has k (without x xs) ≡ not (k == x) && has k xs
has-without k x [] = grind (arith, nat_tests)
has-without k x (y ∷ ys) = grind (arith, nat_tests, has-without k x ys)

pub has-turned : (k : ℕ) (xs : List ℕ) → has k (turned xs) ≡ has k xs
has-turned k [] = refl
has-turned k (x ∷ xs) = has-append k x xs

pub without-absent : (x : ℕ) (xs : List ℕ) → has x xs ≡ false → without x xs ≡ xs
without-absent x [] none = refl
without-absent x (y ∷ ys) none = grind (arith, nat_tests, without-absent x ys)

-- whoever is last leaves
pub without-last : (x : ℕ) (xs : List ℕ) → has x xs ≡ false → without x (xs ++ x ∷ []) ≡ xs
without-last x [] none = grind (arith, nat_tests)
without-last x (y ∷ ys) none = grind (arith, nat_tests, without-last x ys)

pub apart-append : (x : ℕ) (xs : List ℕ) → x < 256 → has x xs ≡ false → AreApart xs → AreApart (xs ++ x ∷ [])
apart-append x [] small new apart = (small, refl, tt)
apart-append x (y ∷ ys) small new apart = grind (arith, nat_tests, apart-append x ys small, has-append y x ys)

pub apart-without : (x : ℕ) (xs : List ℕ) → AreApart xs → AreApart (without x xs)
apart-without x [] apart = tt
apart-without x (y ∷ ys) apart = grind (arith, nat_tests, apart-without x ys, has-without y x ys)

pub apart-turned : (xs : List ℕ) → AreApart xs → AreApart (turned xs)
apart-turned [] apart = tt
apart-turned (x ∷ xs) apart = apart-append x xs apart.0 apart.1 apart.2

pub small-among : (k : ℕ) (xs : List ℕ) → AreApart xs → has k xs ≡ true → k < 256
small-among k [] apart there = absurd (true≢false (sym there))
small-among k (x ∷ xs) apart there = grind (arith, nat_tests, small-among k xs apart.2, apart.0)

among : (q : ℕ) (xs : List ℕ) → AreApart xs → list_any (eqb q) xs ≡ true → q < 256
among q [] apart there = absurd (true≢false (sym there))
among q (x ∷ xs) apart there = grind (arith, nat_tests, among q xs apart.2, apart.0)

others_differ : (x : ℕ) (xs : List ℕ) → has x xs ≡ false → AllByRecursion (λ other. eqb x other ≡ false) xs
others_differ x [] none = tt
others_differ x (y ∷ ys) none = (grind (arith, nat_tests), others_differ x ys (grind (arith, nat_tests)))

are_distinct : (xs : List ℕ) → AreApart xs → IsDistinct eqb xs
unfolding IsDistinct
are_distinct [] apart = tt
are_distinct (x ∷ xs) apart = (others_differ x xs apart.1, are_distinct xs apart.2)

pub few : (xs : List ℕ) → AreApart xs → length xs ≤ 256
few xs apart = length-le_from_distinct_below xs 256 (are_distinct xs apart) (λ q there. among q xs apart there)
