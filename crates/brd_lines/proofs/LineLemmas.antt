-- The stretch in which an address lies, by how many end at it or below it; and stretches with one more.
use Rattle.std.proofs.Common.{◌≡◌, ℕ, zero, suc, ◌+◌, ◌≤◌, ◌<◌, leb, Bool, true, false, List, [], ◌∷◌, ◌++◌, get_or, length, refl, sym, inl, inr, arith}
use Rattle.std.proofs.lemmas.Bool.{cases_Bool, cases_lt, lt-ltb, le-ltb, lt-leb, le-leb}
use Rattle.std.proofs.lemmas.List.Sums.{prefix_len_is}
use Rattle.std.specs.List.{prefix_len}
use Rattle.std.specs.Prelude.{None, find}
use Rattle.brd_lines.specs.declared.lines.Stretch.{Stretch}
use Rattle.brd_lines.specs.Lines.{AreApart, end_of, covers, stretch_at, ends_by, chosen}

-- what begins above an address doesn't cover it
none_above : (address low : ℕ) (ss : List Stretch) → address < low → AreApart low ss → find (covers address) ss ≡ None
none_above address low [] lt apart = refl
none_above address low (s ∷ ss) lt apart =
    rw (lt-leb s.from address (omega (arith, apart.0, lt))) (none_above address s.to ss (omega (arith, apart.0, apart.1, lt)) apart.2)

-- none ends above an address
pub at_end : (address low : ℕ) (ss : List Stretch) → AreApart low ss → length ss ≤ prefix_len (ends_by address) ss
    → None ≡ stretch_at ss address
at_end address low [] apart all = refl
at_end address low (s ∷ ss) apart all =
    elim (cases_lt address s.to) [
      | inl lt ↦ absurd (omega (arith, rw (lt-leb s.to address lt) at all))
      | inr le ↦ rw (le-ltb address s.to le, le-leb s.from address (omega (arith, le, apart.1)))
          (at_end address s.to ss apart.2 (omega (arith, rw (le-leb s.to address le) at all)))
    ]

pub at_point : (address low : ℕ) (ss : List Stretch) (d : Stretch) → AreApart low ss
    → prefix_len (ends_by address) ss < length ss
    → chosen address (get_or ss (prefix_len (ends_by address) ss) d) ≡ stretch_at ss address
at_point address low [] d apart within = absurd (omega (arith, within))
at_point address low (s ∷ ss) d apart within =
    elim (cases_lt address s.to) [
      | inl lt ↦ elim (cases_Bool (leb s.from address)) [
        | inl from ↦ rw (lt-leb s.to address lt, from, lt-ltb address s.to lt) refl
        | inr from ↦ rw (lt-leb s.to address lt, from) (sym (none_above address s.to ss lt apart.2))
      ]
      | inr le ↦
          let one : 1 + prefix_len (ends_by address) ss ≡ suc (prefix_len (ends_by address) ss) = omega arith in
          rw (le-leb s.to address le, one, le-ltb address s.to le, le-leb s.from address (omega (arith, le, apart.1)))
          (at_point address s.to ss d apart.2 (omega (arith, rw (le-leb s.to address le) at within)))
    ]

-- where stretches end, in their order
above : (low : ℕ) (ss : List Stretch) → AreApart low ss → (j : ℕ) (d : Stretch) → j < length ss → low < (get_or ss j d).to
above low [] apart j d within = absurd (omega (arith, within))
above low (s ∷ ss) apart zero d within = omega (arith, apart.0, apart.1)
above low (s ∷ ss) apart (suc j) d within =
    omega (arith, apart.0, apart.1, above s.to ss apart.2 j d (omega (arith, within)))

pub rise : (low : ℕ) (ss : List Stretch) → AreApart low ss → (i j : ℕ) (d : Stretch) → i ≤ j → j < length ss
    → (get_or ss i d).to ≤ (get_or ss j d).to
rise low [] apart i j d le within = absurd (omega (arith, within))
rise low (s ∷ ss) apart zero zero d le within = omega arith
rise low (s ∷ ss) apart zero (suc j) d le within = omega (arith, above s.to ss apart.2 j d (omega (arith, within)))
rise low (s ∷ ss) apart (suc i) zero d le within = absurd (omega (arith, le))
rise low (s ∷ ss) apart (suc i) (suc j) d le within = rise s.to ss apart.2 i j d (omega (arith, le)) (omega (arith, within))

pub prefix_from_point : {X : Type 0} (p : X → Bool) (xs : List X) (r : ℕ) (d : X) → r ≤ length xs
    → ((k : ℕ) (e : X) → 0 ≤ k → k < r → p (get_or xs k e) ≡ true)
    × ((k : ℕ) (e : X) → r ≤ k → k < length xs → p (get_or xs k e) ≡ false) → prefix_len p xs ≡ r
prefix_from_point p xs r d bound point =
    prefix_len_is p xs r d bound (λ k l. point.0 k d (omega arith) l) (λ l. point.1 r d (omega arith) l)

-- ---- one more stretch

pub one_more : (low : ℕ) (ss : List Stretch) (s : Stretch) → AreApart low ss → end_of low ss ≤ s.from → s.from < s.to
    → AreApart low (ss ++ s ∷ [])
one_more low [] s apart from to = (from, to, tt)
one_more low (first ∷ ss) s apart from to = (apart.0, apart.1, one_more first.to ss s apart.2 from to)

pub end_of-more : (low : ℕ) (ss : List Stretch) (s : Stretch) → end_of low (ss ++ s ∷ []) ≡ s.to
end_of-more low [] s = refl
end_of-more low (first ∷ ss) s = end_of-more first.to ss s
