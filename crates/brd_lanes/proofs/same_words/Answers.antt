use Rattle.std.proofs.Common.{◌≡◌, ℕ, ◌+◌, ◌-◌, Bool, true, false, List, ◌++◌, take, drop, refl, ap, ap₂, sym, ◌∙◌, arith}
use Rattle.std.specs.Prelude.{slice_range, MatchBool, IsTrue, ◌↔◌, ◌≢◌}
use Rattle.std.proofs.Math.Seq.{take-add}
use Rattle.std.proofs.lemmas.List.{take-append-drop}
use Rattle.brd_lanes.proofs.same_words.Goals as goal

-- two lists that agree up to a place and from it on
whole : (a b : List ℕ) (at : ℕ) → take at a ≡ take at b → drop at a ≡ drop at b → a ≡ b
whole a b at front back = sym (take-append-drop at a) ∙ ap₂ (λ x y. x ++ y) front back ∙ take-append-drop at b

-- and two that agree on the next eight words too
eight_more : (a b : List ℕ) (at : ℕ) → take at a ≡ take at b → slice_range a at (at + 8) ≡ slice_range b at (at + 8) → take (at + 8) a ≡ take (at + 8) b
eight_more a b at front next =
    let n : (at + 8) - at ≡ 8 = omega arith in
    take-add at 8 a ∙ ap₂ (λ x y. x ++ y) front (ap (λ k. take k (drop at a)) (sym n) ∙ next ∙ ap (λ k. take k (drop at b)) n) ∙ sym (take-add at 8 b)

-- the rest decides
decided : (same : Bool) (a b : List ℕ) (at : ℕ) → take at a ≡ take at b → MatchBool same (drop at a ≡ drop at b) (a ≢ b) → IsTrue same ↔ (a ≡ b)
decided true a b at front back = (λ _. whole a b at front back, λ _. refl)
decided false a b at front differ = (λ e. absurd (cc), λ e. absurd (differ e))

pub loop-at-preserved : goal.loop-at-preserved
loop-at-preserved c = record {
  within = omega arith;
  same = eight_more c.args.a.now c.args.b.now c.loop-at.at c.loop-at.invariant.same (c.if-not-are_same.ensures);
}

pub returns : goal.returns
returns c = decided c.are_same-2.result c.args.a.now c.args.b.now c.loop-at.at c.loop-at.invariant.same c.are_same-2.ensures
