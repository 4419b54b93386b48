-- Walks that come back to a board at which they were before: no instruction of theirs is ever visible.
use Rattle.std.proofs.Common.{◌≡◌, ℕ, zero, suc, ◌+◌, ◌<◌, ◌≤◌, ◌⊎◌, inl, inr, sym, ap, subst, ◌∙◌, arith}
use Rattle.brd_board.specs.declared.event.Event.TheVariants.{Step}
use Rattle.brd_board.specs.Board.{BoardState, happens}
use Rattle.brd_frames.specs.Lagging.{Sharing}
use Rattle.brd_blocks.specs.Stepping.{IsHidden}
use Rattle.brd_reach.proofs.WalkLemmas.{plus-suc, plus-zero}
use Rattle.brd_lazy.specs.Blocks.{after_steps, AreHidden}
use Rattle.brd_lazy.specs.Finding.{EndsWithin, HasWalked}
use Rattle.brd_lazy.specs.declared.block.Block.{Block}
use Rattle.brd_lazy.specs.declared.block.Block.TheVariants as block

steps-add : (b : BoardState) (cpu n more : ℕ) → after_steps b cpu (n + more) ≡ after_steps (after_steps b cpu n) cpu more
steps-add b cpu zero more = ap (after_steps b cpu) (plus-zero more)
steps-add b cpu (suc n) more = ap (after_steps b cpu) (plus-suc n more) ∙ steps-add (happens b (Step cpu)).board cpu n more

less-or-more : (n late : ℕ) → (n < late) ⊎ ((more : ℕ) × (n ≡ late + more))
less-or-more n zero = inr (n, omega arith)
less-or-more zero (suc late) = inl (omega arith)
less-or-more (suc n) (suc late) =
    elim (less-or-more n late) [
      | inl less ↦ inl (omega (arith, less))
      | inr more ↦ inr (more.0, omega (arith, more.1))
    ]

-- Each one is hidden of a walk that was earlier and later at the same board. `bound` is above the number of its place.
hides-ever : (by : Sharing) (b : BoardState) (cpu early late : ℕ) (middle : BoardState) → early < late → HasWalked by b cpu early middle →
    HasWalked by b cpu late middle → (bound n : ℕ) → n < bound → IsHidden by (after_steps b cpu n) cpu
hides-ever by b cpu early late middle less one two zero n below = absurd (omega (arith, below))
hides-ever by b cpu early late middle less one two (suc bound) n below =
    elim (less-or-more n late) [
      | inl before ↦ two.hidden n before
      | inr more ↦
          let same : after_steps b cpu (early + more.0) ≡ after_steps b cpu n =
          steps-add b cpu early more.0 ∙ ap (λ z. after_steps z cpu more.0) (sym one.is ∙ two.is) ∙ sym (steps-add b cpu late more.0)
          ∙ ap (after_steps b cpu) (sym more.1) in
          subst (λ z. IsHidden by z cpu) same
          (hides-ever by b cpu early late middle less one two bound (early + more.0) (omega (arith, less, below, more.1)))
    ]

pub walk-ever : (by : Sharing) (b : BoardState) (cpu early late : ℕ) (middle : BoardState) (most : ℕ) → early < late →
    HasWalked by b cpu early middle → HasWalked by b cpu late middle → AreHidden by b cpu most
walk-ever by b cpu early late middle most less one two n below =
    hides-ever by b cpu early late middle less one two (suc n) n (omega arith)

-- A walk that was long enough.
pub walk-cut : (by : Sharing) (b : BoardState) (cpu count : ℕ) (middle : BoardState) (most : ℕ) → most ≤ count →
    HasWalked by b cpu count middle → AreHidden by b cpu most
walk-cut by b cpu count middle most enough walked n below = walked.hidden n (omega (arith, enough, below))

-- One that has ended within a few steps has done so within more.
pub ends-more : (few most : ℕ) (came : Block) → few ≤ most → EndsWithin few came → EndsWithin most came
ends-more few most block.Idle more ends = tt
ends-more few most block.Alone more ends = tt
ends-more few most (block.Ends count) more ends = omega (arith, more, ends)
ends-more few most block.Cut more ends = tt
ends-more few most (block.Strays count) more ends = tt
ends-more few most block.Unknown more ends = tt
