-- What of a list was left out.
use Rattle.std.proofs.Common.{◌≡◌, ℕ, ◌+◌, ◌<◌, List, take, drop, sym, ap, subst, ◌∙◌, arith, ◌⊎◌, inl, inr}
use Rattle.std.specs.Prelude.{Bool, true, false}
use Rattle.std.proofs.lemmas.Bool.{cases_lt}
use Rattle.brd_board.specs.declared.event.Event.{Event}
use Rattle.brd_board.specs.Board.{BoardState, after}
use Rattle.brd_journal.proofs.AfterLemmas.{after-append}
use Rattle.brd_explore.specs.declared.wanted.Wanted.{Wanted}
use Rattle.brd_explore.specs.Failures.{ended}
use Rattle.brd_explore.specs.Searching.{AreAlike}
use Rattle.brd_explore.specs.Shrinking.{is_failing, without}
use Rattle.brd_explore.proofs.SizeLemmas.{alike-after, alike-both, alike-back, alike-ended}

pub played-without : (b one two three : BoardState) (events : List Event) (from to : ℕ) → one ≡ b → two ≡ after one (take from events) →
    three ≡ after two (drop to events) → three ≡ after b (without events from to)
played-without b one two three events from to first second third =
    third ∙ ap (λ x. after x (drop to events)) (second ∙ ap (λ x. after x (take from events)) first)
    ∙ sym (after-append b (take from events) (drop to events))

-- the scratch board after a list and perhaps its fair end
pub alike-judged : (wanted : Wanted) (b old new : BoardState) (events : List Event) → old ≡ after b events → (new ≡ old) ⊎ (new ≡ ended wanted old) → AreAlike new b
alike-judged wanted b old new events is (inl same) =
    subst (λ x. AreAlike x b) (sym (same ∙ is)) (alike-back b (after b events) (alike-after b events))
alike-judged wanted b old new events is (inr end) =
    subst (λ x. AreAlike x b) (sym end)
    (alike-back b (ended wanted old) (alike-both b old (ended wanted old) (subst (AreAlike b) (sym is) (alike-after b events)) (alike-ended wanted old)))

-- none of the events so far can be left out
abbrev pub NoneBelow : Wanted → BoardState → List Event → ℕ → Type 0
NoneBelow wanted b events at = (k : ℕ) → k < at → is_failing wanted b (without events k (k + 1)) ≡ false

pub none-more-below : (wanted : Wanted) (b : BoardState) (events : List Event) (at : ℕ) → NoneBelow wanted b events at →
    is_failing wanted b (without events at (at + 1)) ≡ false → NoneBelow wanted b events (at + 1)
none-more-below wanted b events at none here k below = elim (cases_lt k at) [
  | inl lt ↦ none k lt
  | inr ge ↦ let same : at ≡ k = omega (arith, ge, below) in subst (λ n. is_failing wanted b (without events n (n + 1)) ≡ false) same here
]

-- what is left after a stretch that needn't be there
pub left-fails : (wanted : Wanted) (b : BoardState) (seen events new : List Event) (from to : ℕ) (fails : Bool) → seen ≡ events →
    fails ≡ is_failing wanted b (without seen from to) → fails ≡ true → new ≡ without events from to → is_failing wanted b new ≡ true
left-fails wanted b seen events new from to fails same says is left =
    ap (is_failing wanted b) (left ∙ ap (λ es. without es from to) (sym same)) ∙ sym says ∙ is
