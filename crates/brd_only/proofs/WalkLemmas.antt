-- Walks: the same event again and again, where no other one may come.
use Rattle.std.proofs.Common.{◌≡◌, ℕ, zero, suc, ◌+◌, ◌<◌, true, false, List, refl, sym, ap, subst, ◌∙◌, arith}
use Rattle.std.specs.Prelude.{replicate, Result, Ok, Err, OnOk, Option}
use Rattle.std.proofs.lemmas.Bool.{false≢true}
use Rattle.brd_board.specs.declared.event.Event.{Event}
use Rattle.brd_board.specs.Board.{BoardState, happens, after}
use Rattle.brd_explore.specs.declared.bounds.Bounds.{Bounds}
use Rattle.brd_explore.specs.declared.wanted.Wanted.{Wanted}
use Rattle.brd_explore.specs.Failures.{fails_at}
use Rattle.brd_explore.specs.Schedules.{Place, does, stepper, spent, next}
use Rattle.brd_spots.specs.declared.spots.Margin.{Margin}
use Rattle.brd_spots.specs.Spots.{spot_of, IsKnown}
use Rattle.brd_spots.proofs.PlayLemmas.{next-is}
use Rattle.brd_only.specs.declared.region.Regions.{Regions}
use Rattle.brd_only.specs.Finding.{IsAlone, HeldBy, IsHeld, HasWalked}
use Rattle.brd_only.proofs.HeldLemmas.{known-held}

-- one event more
after-more : (b : BoardState) (event : Event) (n : ℕ) →
    (happens (after b (replicate n event)) event).board ≡ after b (replicate (suc n) event)
after-more b event zero = refl
after-more b event (suc n) = after-more (happens b event).board event n

plus-one : (n : ℕ) → suc n ≡ n + 1
plus-one n = omega arith

-- Where no other event may come, a place is held if the next one is.
pub alone-held : (among : List Event) (regions : Regions) (wanted : Wanted) (spots : List Place) (p : Place) (event : Event) →
    fails_at wanted p.board p.left ≡ false → IsAlone among regions p event → IsHeld among regions wanted spots (next p event) →
    IsHeld among regions wanted spots p
alone-held among regions wanted spots p event holds alone held = (
  suc held.0,
  (
    holds,
    λ k less may did. subst (λ e. HeldBy among regions wanted spots held.0 (next p e)) (sym (alone k less may)) held.1,
  ),
)

-- It is held too if that one does nothing.
pub over-held : (among : List Event) (regions : Regions) (wanted : Wanted) (spots : List Place) (p : Place) (event : Event) →
    fails_at wanted p.board p.left ≡ false → IsAlone among regions p event → does p.board event ≡ false →
    IsHeld among regions wanted spots p
over-held among regions wanted spots p event holds alone none = (
  suc zero,
  (
    holds,
    λ k less may did. absurd (false≢true (sym none ∙ subst (λ e. does p.board e ≡ true) (alone k less may) did)),
  ),
)

pub walked-none : (among : List Event) (regions : Regions) (wanted : Wanted) (p : Place) (event : Event) →
    HasWalked among regions wanted p event p 0
walked-none among regions wanted p event = record { board = refl; held = λ spots held. held; few = omega arith }

pub walked-more : (among : List Event) (regions : Regions) (wanted : Wanted) (from p : Place) (event : Event) (count : ℕ)
    (b : BoardState) (left : Bounds) (last : Option ℕ) → HasWalked among regions wanted from event p count → count < 10000 →
    fails_at wanted p.board p.left ≡ false → IsAlone among regions p event → b ≡ (happens p.board event).board →
    left ≡ spent p.left p.last event → last ≡ stepper b p.last event →
    HasWalked among regions wanted from event (record { board = b; left = left; last = last }) (count + 1)
walked-more among regions wanted from p event count b left last walked room holds alone board rest who = record {
  board =
      board ∙ ap (λ z. (happens z event).board) walked.board ∙ after-more from.board event count
      ∙ ap (λ n. after from.board (replicate n event)) (plus-one count);
  held = λ spots held.
      walked.held spots (alone-held among regions wanted spots p event holds alone
      (subst (IsHeld among regions wanted spots) (sym (next-is p event b left last board rest who)) held));
  few = omega (arith, room);
}

-- What was walked to is known.
on-ok : {E A : Type 0} (result : Result A E) (P Q : Type 0) → (P → Q) → OnOk result P → OnOk result Q
on-ok (Ok done) P Q f it = f it
on-ok (Err fault) P Q f it = tt

pub walked-held : {E A : Type 0} (among : List Event) (regions : Regions) (wanted : Wanted) (spots : List Place) (p : Place)
    (event : Event) (first b : BoardState) (rest margin : Margin) (count : ℕ) (result : Result A E) → first ≡ (happens p.board event).board →
    rest.left ≡ spent p.left p.last event → rest.last ≡ stepper first p.last event →
    HasWalked among regions wanted (spot_of first rest) event (spot_of b margin) count → OnOk result (IsKnown spots (spot_of b margin)) →
    OnOk result (IsHeld among regions wanted spots (next p event))
walked-held among regions wanted spots p event first b rest margin count result board left last walked known =
    on-ok result (IsKnown spots (spot_of b margin)) (IsHeld among regions wanted spots (next p event))
    (λ it. subst (IsHeld among regions wanted spots) (sym (next-is p event first rest.left rest.last board left last))
    (walked.held spots (known-held among regions wanted spots (spot_of b margin) it))) known

-- Nothing comes behind the next place.
pub over-next : (among : List Event) (regions : Regions) (wanted : Wanted) (p : Place) (event : Event) (first : BoardState)
    (rest : Margin) → first ≡ (happens p.board event).board → rest.left ≡ spent p.left p.last event →
    rest.last ≡ stepper first p.last event → ((spots : List Place) → IsHeld among regions wanted spots (spot_of first rest)) →
    (spots : List Place) → IsHeld among regions wanted spots (next p event)
over-next among regions wanted p event first rest board left last over spots =
    subst (IsHeld among regions wanted spots) (sym (next-is p event first rest.left rest.last board left last)) (over spots)

pub walked-leads : (among : List Event) (regions : Regions) (wanted : Wanted) (b first there : BoardState) (event : Event)
    (rest margin : Margin) (count : ℕ) → first ≡ (happens b event).board →
    HasWalked among regions wanted (spot_of first rest) event (spot_of there margin) count →
    there ≡ after b (replicate (count + 1) event)
walked-leads among regions wanted b first there event rest margin count is walked =
    walked.board ∙ ap (λ z. after z (replicate count event)) is ∙ ap (λ n. after b (replicate n event)) (plus-one count)
