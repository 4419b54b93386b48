-- What is left of a list of events that fails.
use Rattle.std.proofs.Common.{◌≡◌, ℕ, ◌+◌, ◌-◌, ◌<◌, ◌≤◌, List, [], ◌∷◌, ◌++◌, length, refl, sym, ap, subst, ◌∙◌, inl, inr, ◌⊎◌, arith, length-append, eq-eqb}
use Rattle.std.specs.Prelude.{Bool, true, false, not, ◌==◌, Option, Some, None}
use Rattle.std.specs.List.Sorted.{IsPermutation}
use Rattle.std.proofs.lemmas.Bool.{cases_lt, true≢false, eqb-true}
use Rattle.std.proofs.lemmas.List.{append-nil, append_assoc}
use Rattle.std.proofs.lemmas.List.Sorted.{IsPermutation-refl, IsPermutation-sym, IsPermutation-trans, IsPermutation-cons, IsPermutation-middle, IsPermutation-append_left, length_permutation}
use Rattle.brd_board.specs.declared.event.Event.{Event}
use Rattle.brd_board.specs.declared.event.Event.TheVariants.{Step, Tick, Raise}
use Rattle.brd_board.specs.Board.{BoardState}
use Rattle.brd_explore.specs.declared.wanted.Wanted.{Wanted}
use Rattle.brd_explore.specs.Shrinking.{is_failing, IsPart}
use Rattle.brd_shrink.specs.Turns.{stepper, is_other, is_switch, one_if, switches_after, switches, is_cut, IsTurn, swapped}
use Rattle.brd_shrink.specs.Settled.{AreSome, IsPassing, IsSettledAt, IsSettled, IsBetter}
use Rattle.brd_shrink.proofs.TurnLemmas.{one-end, swapped-permutes}

-- ---- some of the events

pub some-part : (left all : List Event) → IsPart left all → AreSome left all
some-part [] all part = record { rest = all; permutes = IsPermutation-refl all }
some-part (x ∷ left) [] part = absurd part
some-part (x ∷ left) (y ∷ all) (inl same) =
    let more = some-part left all same.1 in
    record {
      rest = more.rest;
      permutes = subst (λ e. IsPermutation (y ∷ all) (e ∷ (left ++ more.rest))) (sym same.0) (IsPermutation-cons y all (left ++ more.rest) more.permutes);
    }
some-part (x ∷ left) (y ∷ all) (inr part) =
    let more = some-part (x ∷ left) all part in
    record {
      rest = y ∷ more.rest;
      permutes = IsPermutation-trans (y ∷ all) (y ∷ ((x ∷ left) ++ more.rest)) ((x ∷ left) ++ y ∷ more.rest)
          (IsPermutation-cons y all ((x ∷ left) ++ more.rest) more.permutes)
          (IsPermutation-sym ((x ∷ left) ++ y ∷ more.rest) (y ∷ ((x ∷ left) ++ more.rest)) (IsPermutation-middle (x ∷ left) y more.rest));
    }

pub some-permuted : (left all : List Event) → IsPermutation all left → AreSome left all
some-permuted left all permutes = record { rest = []; permutes = subst (IsPermutation all) (sym (append-nil left)) permutes }

pub some-both : (one two all : List Event) → AreSome one two → AreSome two all → AreSome one all
some-both one two all few more = record {
  rest = few.rest ++ more.rest;
  permutes = IsPermutation-trans all (two ++ more.rest) (one ++ (few.rest ++ more.rest)) more.permutes
      (subst (IsPermutation (two ++ more.rest)) (append_assoc one few.rest more.rest)
      (IsPermutation-append_left more.rest two (one ++ few.rest) few.permutes));
}

pub some-shorter : (left all : List Event) → AreSome left all → length left ≤ length all
some-shorter left all some =
    omega (arith, length_permutation all (left ++ some.rest) some.permutes, length-append left some.rest)

-- ---- switches of a part

-- one switch more where the last step before isn't the same processor's
abbrev apart : Option ℕ → Option ℕ → ℕ
apart None other = 0
apart (Some cpu) None = 1
apart (Some cpu) (Some other) = one_if (not (other == cpu))

at_most_one : (same : Bool) → one_if (not same) ≤ 1 + 0
at_most_one true = omega arith
at_most_one false = omega arith

same_or : (a b : ℕ) (same : Bool) → (a == b) ≡ same → (same ≡ true) ⊎ (one_if (not (a == b)) ≡ 1)
same_or a b true is = inl refl
same_or a b false is = inr (ap (λ t. one_if (not t)) is)

-- whoever is apart from a third one is apart from one of the two
three : (cpu other next : ℕ) → one_if (not (next == cpu)) ≤ one_if (not (other == cpu)) + one_if (not (next == other))
three cpu other next = elim (same_or other cpu (other == cpu) refl) [
  | inl same ↦ let is : other ≡ cpu = eqb-true other cpu same in
      omega (arith, ap (λ k. one_if (not (next == k))) is)
  | inr apart ↦ omega (arith, apart, at_most_one (next == cpu))
]

apart-self : (cpu : ℕ) → one_if (not (cpu == cpu)) ≡ 0
apart-self cpu = ap (λ t. one_if (not t)) (eq-eqb cpu cpu refl)

nearer_cpu : (last other : Option ℕ) (cpu : ℕ) → apart last (Some cpu) ≤ apart last other + one_if (is_other other cpu)
nearer_cpu None other cpu = omega arith
nearer_cpu (Some last) None cpu = at_most_one (cpu == last)
nearer_cpu (Some last) (Some other) cpu = three last other cpu

sooner_cpu : (last other : Option ℕ) (cpu : ℕ) → one_if (is_other last cpu) ≤ apart last other + one_if (is_other other cpu)
sooner_cpu None other cpu = omega arith
sooner_cpu (Some last) None cpu = at_most_one (cpu == last)
sooner_cpu (Some last) (Some other) cpu = three last other cpu

nearer : (last other : Option ℕ) (event : Event) → apart last (stepper other event) ≤ apart last other + one_if (is_switch other event)
nearer last other (Step cpu) = nearer_cpu last other cpu
nearer last other Tick = omega arith
nearer last other (Raise line) = omega arith

stepped : (last other : Option ℕ) (event : Event) (m n : ℕ) → m ≤ apart (stepper last event) (stepper other event) + n
    → one_if (is_switch last event) + m ≤ apart last other + (one_if (is_switch other event) + n)
stepped last other (Step cpu) m n on = omega (arith, on, sooner_cpu last other cpu, apart-self cpu)
stepped last other Tick m n on = omega (arith, on)
stepped last other (Raise line) m n on = omega (arith, on)

switches-part_after : (last other : Option ℕ) (part all : List Event) → IsPart part all → switches_after last part ≤ apart last other + switches_after other all
switches-part_after last other [] all is = omega arith
switches-part_after last other (x ∷ part) [] is = absurd is
switches-part_after last other (x ∷ part) (y ∷ all) (inl same) =
    subst (λ e. one_if (is_switch last e) + switches_after (stepper last e) part ≤ apart last other + (one_if (is_switch other y) + switches_after (stepper other y) all))
    (sym same.0)
    (stepped last other y (switches_after (stepper last y) part) (switches_after (stepper other y) all)
    (switches-part_after (stepper last y) (stepper other y) part all same.1))
switches-part_after last other (x ∷ part) (y ∷ all) (inr is) =
    omega (arith, switches-part_after last (stepper other y) (x ∷ part) all is, nearer last other y)

pub switches-part : (part all : List Event) → IsPart part all → switches part ≤ switches all
unfolding switches
switches-part part all is = omega (arith, switches-part_after None None part all is)

-- ---- no turn can be moved

abbrev pub IsSettledBelow : Wanted → BoardState → List Event → ℕ → Type 0
IsSettledBelow wanted b events from = (k : ℕ) → k < from → IsSettledAt wanted b events k

module _ (wanted : Wanted) (b : BoardState) (events : List Event) where
  -- where no turn begins, none can be moved
  pub settled-uncut : (from : ℕ) → is_cut events from ≡ false → IsSettledAt wanted b events from
  settled-uncut from uncut = record {
    earlier = λ to at turn before cut. absurd (true≢false (sym turn.begins ∙ uncut));
    later = λ to at turn after within cut. absurd (true≢false (sym turn.begins ∙ uncut));
  }

  settled-past : (from : ℕ) → length events ≤ from → IsSettledAt wanted b events from
  settled-past from past = record {
    earlier = λ to at turn before cut. absurd (omega (arith, turn.some, turn.within, past));
    later = λ to at turn after within cut. absurd (omega (arith, turn.some, turn.within, past));
  }

  pub settled-turn : (from to : ℕ) → IsTurn events from to
      → ((at : ℕ) → at < from → is_cut events at ≡ true → IsPassing wanted b events (swapped events at from to))
      → ((at : ℕ) → to < at → at ≤ length events → is_cut events at ≡ true → IsPassing wanted b events (swapped events from to at))
      → IsSettledAt wanted b events from
  settled-turn from to is sooner on = record {
    earlier = λ end at turn before cut. subst (λ n. IsPassing wanted b events (swapped events at from n)) (one-end events from to end is turn) (sooner at before cut);
    later = λ end at turn after within cut.
        let same = one-end events from to end is turn in
        subst (λ n. IsPassing wanted b events (swapped events from n at)) same (on at (subst (λ n. n < at) (sym same) after) within cut);
  }

  pub settled-all : (from : ℕ) → length events ≤ from → IsSettledBelow wanted b events from → IsSettled wanted b events
  settled-all from past below k = elim (cases_lt k from) [
    | inl lt ↦ below k lt
    | inr ge ↦ settled-past k (omega (arith, past, ge))
  ]

  pub settled-more : (from : ℕ) → IsSettledBelow wanted b events from → IsSettledAt wanted b events from → IsSettledBelow wanted b events (from + 1)
  settled-more from below here k lt = elim (cases_lt k from) [
    | inl under ↦ below k under
    | inr ge ↦ let same : from ≡ k = omega (arith, ge, lt) in subst (IsSettledAt wanted b events) same here
  ]

-- ---- a turn that was moved

abbrev Same : Wanted → BoardState → List Event → List Event → ℕ → Type 0
Same wanted b old events from = switches events ≡ switches old → (events ≡ old) × IsSettledBelow wanted b events from

-- after a move there are fewer switches
pub never-same : (wanted : Wanted) (b : BoardState) (old events moved : List Event) (from : ℕ) → switches events ≤ switches old →
    IsBetter wanted b events moved → Same wanted b old moved from
never-same wanted b old events moved from fewer better same = absurd (omega (arith, fewer, better.fewer, same))

pub less-to-do : (wanted : Wanted) (b : BoardState) (events moved : List Event) (from : ℕ) → IsBetter wanted b events moved →
    switches moved + (length moved - from) < switches events + (length events - from)
less-to-do wanted b events moved from better =
    omega (arith, better.fewer, ap (λ n. n - from) (length_permutation events moved better.permutes))

pub better-so : (wanted : Wanted) (b : BoardState) (events moved counted : List Event) (from middle to few all : ℕ) (fails : Bool)
    → from ≤ middle → middle ≤ to → moved ≡ swapped events from middle to → counted ≡ moved → few ≡ switches counted → all ≡ switches events
    → few < all → fails ≡ is_failing wanted b counted → fails ≡ true → IsBetter wanted b events moved
better-so wanted b events moved counted from middle to few all fails first second is same few-is all-is lt fails-is failing = record {
  fails = ap (is_failing wanted b) (sym same) ∙ sym fails-is ∙ failing;
  permutes = subst (IsPermutation events) (sym is) (swapped-permutes events from middle to first second);
  fewer = omega (arith, lt, all-is, few-is, ap switches same);
}

pub some-left : (all old moved left : List Event) → AreSome old all → IsPermutation old moved → IsPart left moved → AreSome left all
some-left all old moved left some permutes part =
    some-both left moved all (some-part left moved part) (some-both moved old all (some-permuted moved old permutes) some)
