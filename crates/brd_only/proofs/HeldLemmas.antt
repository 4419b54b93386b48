-- What was gone through, where there are more places.
use Rattle.std.proofs.Common.{◌≡◌, ℕ, zero, suc, ◌+◌, ◌<◌, inl, inr, true, List, length, sym, ap, subst, ◌∙◌, arith}
use Rattle.std.specs.Prelude.{get_or, slice_get, Some}
use Rattle.std.proofs.lemmas.List.{get_or_default}
use Rattle.std.proofs.lemmas.Option.{slice_get_within}
use Rattle.brd_board.specs.declared.event.Event.{Event}
use Rattle.brd_board.specs.declared.event.Event.TheVariants.{Tick}
use Rattle.brd_explore.specs.declared.wanted.Wanted.{Wanted}
use Rattle.brd_explore.specs.Schedules.{Place, does, next, event_at}
use Rattle.brd_spots.specs.Spots.{IsMore, IsKnown}
use Rattle.brd_spots.proofs.KnownLemmas.{known-more, less-or-same, same-some, spot-more, there-is}
use Rattle.brd_only.specs.declared.region.Regions.{Regions}
use Rattle.brd_only.specs.Finding.{may_go, HeldBy, IsHeld, HaveGone, IsDone, AreDone}

by-more : (among : List Event) (regions : Regions) (wanted : Wanted) (old new : List Place) (n : ℕ) (p : Place) →
    IsMore old new → HeldBy among regions wanted old n p → HeldBy among regions wanted new n p
by-more among regions wanted old new zero p more held = known-more old new p more held
by-more among regions wanted old new (suc n) p more held = (
  held.0,
  λ k less may did.
      by-more among regions wanted old new n (next p (event_at among k)) more (held.1 k less may did),
)

pub held-more : (among : List Event) (regions : Regions) (wanted : Wanted) (old new : List Place) (p : Place) →
    IsMore old new → IsHeld among regions wanted old p → IsHeld among regions wanted new p
held-more among regions wanted old new p more held =
    (held.0, by-more among regions wanted old new held.0 p more held.1)

pub known-held : (among : List Event) (regions : Regions) (wanted : Wanted) (spots : List Place) (p : Place) →
    IsKnown spots p → IsHeld among regions wanted spots p
known-held among regions wanted spots p known = (zero, known)

done-more : (among : List Event) (regions : Regions) (wanted : Wanted) (old new : List Place) (p : Place) →
    IsMore old new → IsDone among regions wanted old p → IsDone among regions wanted new p
done-more among regions wanted old new p more it = record {
  holds = it.holds;
  gone = λ k less may did.
      held-more among regions wanted old new (next p (event_at among k)) more (it.gone k less may did);
}

pub done-next : (among : List Event) (regions : Regions) (wanted : Wanted) (old new : List Place) (at : ℕ)
    (spot : Place) → AreDone among regions wanted old at → IsMore old new → slice_get old at ≡ Some spot →
    IsDone among regions wanted new spot → AreDone among regions wanted new (at + 1)
done-next among regions wanted old new at spot done more here it k less s is =
    elim (less-or-same k at less) [
      | inl below ↦
          let found = there-is old k (omega (arith, below, slice_get_within old at spot here)) in
          subst (IsDone among regions wanted new)
          (same-some found.0 s (sym (spot-more old new k found.0 more found.1) ∙ is))
          (done-more among regions wanted old new found.0 more (done k below found.0 found.1))
      | inr same ↦
          subst (IsDone among regions wanted new)
          (same-some spot s
          (sym (spot-more old new at spot more here) ∙ subst (λ n. slice_get new n ≡ Some s) same is)) it
    ]

-- One event more was tried.
pub gone-next : (among : List Event) (regions : Regions) (wanted : Wanted) (old new : List Place) (p : Place)
    (i : ℕ) (event : Event) → IsMore old new → HaveGone among regions wanted old p i →
    (may_go regions p event ≡ true → does p.board event ≡ true → IsHeld among regions wanted new (next p event)) →
    event ≡ get_or among i event → i < length among → HaveGone among regions wanted new p (i + 1)
gone-next among regions wanted old new p i event more before here is within k less may did =
    elim (less-or-same k i less) [
      | inl below ↦
          held-more among regions wanted old new (next p (event_at among k)) more (before k below may did)
      | inr same ↦
          let there : event_at among k ≡ event =
          ap (event_at among) same ∙ sym (is ∙ get_or_default among i event Tick within) in
          subst (λ e. IsHeld among regions wanted new (next p e)) (sym there)
          (here (subst (λ e. may_go regions p e ≡ true) there may) (subst (λ e. does p.board e ≡ true) there did))
    ]
