use Rattle.std.proofs.Common.{◌≡◌, ℕ, ◌+◌, ◌<◌, List, [], ◌∷◌, ◌++◌, length, take, refl, sym, ap, ◌∙◌, arith, subst, append_assoc}
use Rattle.std.specs.Prelude.{slice_index_or}
use Rattle.std.proofs.lemmas.List.{take_more}
use Rattle.brd_order.specs.declared.deed.Deed.{Deed}
use Rattle.brd_order.specs.declared.order.Order.{Order}
use Rattle.brd_order.specs.After.{IsAfter}
use Rattle.brd_order.specs.Refusals.{IsKept}
use Rattle.brd_deeds.proofs.racing.take_all.Goals as goal

after-more : (before deeds : List Deed) (i : ℕ) (d it : Deed) (o : Order) → i < length deeds → IsAfter ((before ++ take i deeds) ++ it ∷ []) o →
    it ≡ slice_index_or deeds i d → IsAfter (before ++ take (i + 1) deeds) o
after-more before deeds i d it o lt after is =
    subst (λ (ds : List Deed). IsAfter ds o)
    (append_assoc before (take i deeds) (it ∷ []) ∙ ap (λ (x : Deed). before ++ (take i deeds ++ x ∷ [])) is
    ∙ ap (λ (ds : List Deed). before ++ ds) (sym (take_more deeds i d lt)))
    after

pub loop-deed-preserved : goal.loop-deed-preserved
loop-deed-preserved c = record {
  after = λ before is. after-more before c.args.deeds.now c.loop-deed.deed-index _ _ c.take.new.self (omega arith)
      (c.in_ok-take.ensures.after (before ++ take c.loop-deed.deed-index c.args.deeds.now) (c.loop-deed.invariant.after before is)) refl;
  kept = λ n kept.
      let same : n + c.loop-deed.deed-index + 1 ≡ n + (c.loop-deed.deed-index + 1) = omega arith in
      subst (λ k. IsKept k c.take.new.self) same (c.in_ok-take.ensures.kept (n + c.loop-deed.deed-index) (c.loop-deed.invariant.kept n kept));
}

pub returns-clause-kept : goal.returns-clause-kept
returns-clause-kept c = λ n kept.
    let all : c.loop-deed.deed-index ≡ length c.args.deeds.now = omega arith in
    subst (λ k. IsKept (n + k) c.loop-deed.order) all (c.loop-deed.invariant.kept n kept)
