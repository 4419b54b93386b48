-- Switches, turns and their ends.
use Rattle.std.proofs.Common.{◌≡◌, ℕ, ◌+◌, ◌-◌, ◌<◌, ◌≤◌, List, [], ◌∷◌, ◌++◌, length, get_or, take, drop, refl, sym, ap, subst, ◌∙◌, inl, inr, arith, eq-eqb}
use Rattle.std.specs.Prelude.{Bool, true, false, ◌==◌, ◌||◌, Option, None, slice_range}
use Rattle.std.specs.List.Sorted.{IsPermutation}
use Rattle.std.proofs.lemmas.Bool.{cases_lt, true≢false}
use Rattle.std.proofs.lemmas.List.{take-append-drop, append_assoc, take_more}
use Rattle.std.proofs.lemmas.List.Folds.{drop_split}
use Rattle.std.proofs.lemmas.List.Sorted.{IsPermutation-append_comm, IsPermutation-append_left, IsPermutation-append_right}
use Rattle.brd_board.specs.declared.event.Event.{Event}
use Rattle.brd_board.specs.declared.event.Event.TheVariants.{Step, Tick, Raise}
use Rattle.brd_shrink.specs.Turns.{stepper, stepper_after, is_cut, IsTurn, swapped}

pub last-more : (last : Option ℕ) (xs : List Event) (event : Event) → stepper_after last (xs ++ event ∷ []) ≡ stepper (stepper_after last xs) event
last-more last [] event = refl
last-more last (x ∷ xs) event = last-more (stepper last x) xs event

-- whose the last step of a front is, one event after another
pub stepper-front : (events : List Event) (n : ℕ) (d : Event) → 0 < n → n ≤ length events →
    stepper_after None (take n events) ≡ stepper (stepper_after None (take (n - 1) events)) (get_or events (n - 1) d)
stepper-front events n d some within =
    ap (λ k. stepper_after None (take k events)) (omega (arith, some))
    ∙ ap (stepper_after None) (take_more events (n - 1) d (omega (arith, some, within)))
    ∙ last-more None (take (n - 1) events) (get_or events (n - 1) d)

pub no-step : (last : Option ℕ) (event : Event) → ((cpu : ℕ) → event ≡ Step cpu → ⊥) → stepper last event ≡ last
no-step last (Step cpu) none = absurd (none cpu refl)
no-step last Tick none = refl
no-step last (Raise line) none = refl

or_true : (a b : Bool) → b ≡ true → a || b ≡ true
or_true true b is = refl
or_true false b is = is

or_first : (a b : Bool) → a ≡ true → a || b ≡ true
or_first true b is = refl
or_first false b is = absurd (true≢false (sym is))

pub cut-end : (events : List Event) → is_cut events (length events) ≡ true
unfolding is_cut
cut-end events = or_true (length events == 0) _ (or_first (length events == length events) _ (eq-eqb (length events) (length events) refl))

pub before-end : (events : List Event) (k : ℕ) → k ≤ length events → is_cut events k ≡ false → k < length events
before-end events k within uncut = elim (cases_lt k (length events)) [
  | inl lt ↦ lt
  | inr ge ↦ let same : length events ≡ k = omega (arith, within, ge) in
      absurd (true≢false (sym (subst (λ n. is_cut events n ≡ true) same (cut-end events)) ∙ uncut))
]

-- a turn has one end
pub one-end : (events : List Event) (from to other : ℕ) → IsTurn events from to → IsTurn events from other → to ≡ other
one-end events from to other one two = elim (cases_lt to other) [
  | inl lt ↦ absurd (true≢false (sym one.ends ∙ two.whole to one.some lt))
  | inr ge ↦ elim (cases_lt other to) [
    | inl lt ↦ absurd (true≢false (sym two.ends ∙ one.whole other two.some lt))
    | inr le ↦ omega (arith, ge, le)
  ]
]

-- stretches that change places
pub swapped-permutes : (events : List Event) (from middle to : ℕ) → from ≤ middle → middle ≤ to → IsPermutation events (swapped events from middle to)
swapped-permutes events from middle to one two =
    let first : List Event = slice_range events from middle in
    let second : List Event = slice_range events middle to in
    let back : List Event = drop to events in
    let split : drop from events ≡ (first ++ second) ++ back =
    drop_split events from middle one ∙ ap (λ l. first ++ l) (drop_split events middle to two) ∙ sym (append_assoc first second back) in
    let whole : take from events ++ ((first ++ second) ++ back) ≡ events =
    ap (λ l. take from events ++ l) (sym split) ∙ take-append-drop from events in
    let moved : IsPermutation ((first ++ second) ++ back) (second ++ (first ++ back)) =
    subst (IsPermutation ((first ++ second) ++ back)) (append_assoc second first back)
    (IsPermutation-append_left back (first ++ second) (second ++ first) (IsPermutation-append_comm first second)) in
    subst (λ l. IsPermutation l (swapped events from middle to)) whole
    (IsPermutation-append_right (take from events) ((first ++ second) ++ back) (second ++ (first ++ back)) moved)

-- no cut up to here, and none here
pub uncut-more : (events : List Event) (from to : ℕ) → ((k : ℕ) → from < k → k < to → is_cut events k ≡ false) → is_cut events to ≡ false →
    (k : ℕ) → from < k → k < to + 1 → is_cut events k ≡ false
uncut-more events from to none here k after before = elim (cases_lt k to) [
  | inl lt ↦ none k after lt
  | inr ge ↦ let same : to ≡ k = omega (arith, ge, before) in subst (λ n. is_cut events n ≡ false) same here
]
