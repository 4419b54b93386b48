-- Walks that come back to a board at which they were before: no instruction of theirs is ever visible.
use Rattle.std.proofs.Common.{◌≡◌, ℕ, zero, suc, sym, subst, ◌⊎◌, inl, inr, arith}
use Rattle.std.specs.Prelude.{◌+◌, ◌<◌}
use Rattle.brd_board.specs.Board.{BoardState}
use Rattle.brd_frames.specs.Agents.{Agent}
use Rattle.brd_frames.specs.Going.{IsNext}
use Rattle.brd_frames.specs.Commuting.{EndsNoLink}
use Rattle.brd_frames.specs.Lagging.{Sharing, Keeps, IsInvisible, Path}
use Rattle.brd_blocks.specs.Stepping.{AllStandWell}
use Rattle.brd_reach.specs.Rounds.{LeadsTo, HasWalked}
use Rattle.brd_reach.proofs.WalkLemmas.{invisible-same, plus-suc, plus-zero}

-- a longer path goes on from where a shorter one ends
path-rest : (by : Sharing) (who : Agent) (n more : ℕ) (b x y : BoardState) → Path by b who n x → Path by b who (n + more) y →
    Path by x who more y
path-rest by who zero more b x y one two =
    subst (λ z. Path by z who more y) (sym one) (subst (λ k. Path by b who k y) (plus-zero more) two)
path-rest by who (suc n) more b x y one two =
    let on : Path by b who (suc (n + more)) y = subst (λ k. Path by b who k y) (plus-suc n more) two in
    path-rest by who n more one.0 x y one.2
    (subst (λ z. Path by z who (n + more) y) (sym (invisible-same by b who one.0 on.0 one.1 on.1)) on.2)

-- a path from where another one ends makes a longer one of that
path-both : (by : Sharing) (who : Agent) (n more : ℕ) (b x y : BoardState) → Path by b who n x → Path by x who more y →
    Path by b who (n + more) y
path-both by who zero more b x y one two =
    subst (λ k. Path by b who k y) (sym (plus-zero more)) (subst (λ z. Path by z who more y) one two)
path-both by who (suc n) more b x y one two =
    subst (λ k. Path by b who k y) (sym (plus-suc n more)) (one.0, one.1, path-both by who n more one.0 x y one.2 two)

less-or-more : (n late : ℕ) → (n < late) ⊎ ((more : ℕ) × (n ≡ late + more))
less-or-more n zero = inr (n, omega arith)
less-or-more zero (suc late) = inl (omega arith)
less-or-more (suc n) (suc late) =
    elim (less-or-more n late) [
      | inl less ↦ inl (omega (arith, less))
      | inr more ↦ inr (more.0, omega (arith, more.1))
    ]

-- an instruction of an agent is invisible
abbrev Hides : Sharing → ℕ → BoardState → Agent → Type 0
Hides by cpu m who = Keeps by m who × (new : BoardState) × IsInvisible by m who new × EndsNoLink m cpu who

-- Each one is of a walk that was earlier and later at the same board. `bound` is above the number of its place.
hides : (by : Sharing) (b : BoardState) (cpu early late : ℕ) (middle : BoardState) → early < late → HasWalked by b cpu early middle →
    HasWalked by b cpu late middle → (bound n : ℕ) (m : BoardState) (who : Agent) → n < bound → IsNext b cpu who →
    Path by b who n m → Hides by cpu m who
hides by b cpu early late middle less one two zero n m who below next path = absurd (omega (arith, below))
hides by b cpu early late middle less one two (suc bound) n m who below next path =
    elim (less-or-more n late) [
      | inl before ↦ two.hidden m who n before next path
      | inr more ↦
          let rest : Path by middle who more.0 m =
          path-rest by who late more.0 b middle m (two.reached who next) (subst (λ k. Path by b who k m) more.1 path) in
          hides by b cpu early late middle less one two bound (early + more.0) m who (omega (arith, less, below, more.1)) next
          (path-both by who early more.0 b middle m (one.reached who next) rest)
    ]

-- so a block of it stays
pub walk-stays : (by : Sharing) (b : BoardState) (cpu early late : ℕ) (middle : BoardState) → early < late → AllStandWell b cpu →
    HasWalked by b cpu early middle → HasWalked by b cpu late middle → LeadsTo by b cpu b
walk-stays by b cpu early late middle less well one two = record {
  well = well;
  quiet = λ quiet. absurd (let none : late ≡ 0 = two.loud quiet in omega (arith, less, none));
  blocks = λ m who n next path.
      let found = hides by b cpu early late middle less one two (suc n) n m who (omega arith) next path in
      (found.0, inl (found.1, found.2, found.3));
}
