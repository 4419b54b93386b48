-- Pictures without what has no lane.
use Rattle.std.proofs.Common.{◌≡◌, ℕ, ◌+◌, ◌<◌, List, [], ◌∷◌, length, map, refl, sym, ap, ◌∙◌, subst, arith}
use Rattle.std.proofs.lemmas.Bool.{false≢true}
use Rattle.std.proofs.lemmas.Bool.Decides.{nat_tests}
use Rattle.std.proofs.lemmas.List.{length-map}
use Rattle.std.proofs.lemmas.List.Elements.{filter_passes, All-weaker}
use Rattle.std.specs.Prelude.{Bool, true, false, ◌==◌, nat_lt, if◌then◌else◌, filter, slice_get, Some, All}
use Rattle.brd_board.specs.declared.event.Event.{Event}
use Rattle.brd_board.specs.Board.{BoardState}
use Rattle.brd_journal.specs.Playing.{board_at}
use Rattle.brd_timeline.specs.declared.timeline.Lane.{Lane}
use Rattle.brd_timeline.specs.declared.timeline.Slice.{Slice}
use Rattle.brd_timeline.specs.declared.timeline.Timeline.{Timeline}
use Rattle.brd_recording.specs.Lanes.{Title, titled, titles_of}
use Rattle.brd_recording.specs.Slices.{Subject, subjects_of, title_of, slices_in, AreOf, AreSlices}
use Rattle.brd_trace.proofs.SlicesLemmas.{got-less}
use Rattle.brd_timeline.specs.declared.fault.PictureFault.{PictureFault}
use Rattle.brd_timeline.specs.declared.fault.PictureFault.TheVariants.{NoMemory, TooMuch}
use Rattle.brd_page.specs.Picture.{IsUndrawn, KeepsFromDrawing}

-- what passes the second test passes the first one
kept-one : (p q : Slice → Bool) (x : Slice) (one other : List Slice) (b c : Bool) → p x ≡ b → q x ≡ c → (c ≡ true → b ≡ true) →
    filter q one ≡ other → filter q (if p x then x ∷ one else one) ≡ (if q x then x ∷ other else other)
kept-one p q x one other true c is_p is_q within rest =
    ap (λ (t : Bool). filter q (if t then x ∷ one else one)) is_p ∙ ap (λ (them : List Slice). if q x then x ∷ them else them) rest
kept-one p q x one other false false is_p is_q within rest =
    ap (λ (t : Bool). filter q (if t then x ∷ one else one)) is_p ∙ rest ∙ sym (ap (λ (t : Bool). if t then x ∷ other else other) is_q)
kept-one p q x one other false true is_p is_q within rest = absurd (false≢true (within refl))

filter-kept : (p q : Slice → Bool) (xs : List Slice) → ((x : Slice) → q x ≡ true → p x ≡ true) → filter q (filter p xs) ≡ filter q xs
filter-kept p q [] within = refl
filter-kept p q (x ∷ xs) within =
    kept-one p q x (filter p xs) (filter q xs) (p x) (q x) refl refl (within x) (filter-kept p q xs within)

slices-kept : (lane n : ℕ) (xs : List Slice) → lane < n → slices_in lane (filter (λ (it : Slice). nat_lt it.lane n) xs) ≡ slices_in lane xs
unfolding slices_in
slices-kept lane n xs less =
    filter-kept (λ (it : Slice). nat_lt it.lane n) (λ (it : Slice). it.lane == lane) xs (λ x own. grind (arith, nat_tests, own, less))

-- A timeline without the slices that have no lane says the same.
module _ (boot : BoardState) (events : List Event) (from to : ℕ) (old new : Timeline) (same_from : new.from ≡ old.from)
    (same_to : new.to ≡ old.to) (same_lanes : new.lanes ≡ old.lanes)
    (kept : new.slices.items ≡ filter (λ (it : Slice). nat_lt it.lane (length old.lanes.items)) old.slices.items) where
  pub still-slices : AreSlices boot events from to old → AreSlices boot events from to new
  still-slices are =
      let subjects : List Subject = subjects_of (board_at boot events from) in
      let many : length old.lanes.items ≡ length subjects =
      sym (length-map old.lanes.items (λ (lane : Lane). titled lane.name.items lane.group)) ∙ ap length are.titles ∙ length-map subjects title_of in
      record {
        from_is = same_from ∙ are.from_is;
        to_is = same_to ∙ are.to_is;
        titles = ap (λ lanes. titles_of lanes.items) same_lanes ∙ are.titles;
        slices = λ lane subject got.
            let less : lane < length old.lanes.items = omega (arith, got-less subjects lane subject got, many) in
            let those : slices_in lane new.slices.items ≡ slices_in lane old.slices.items =
            ap (slices_in lane) kept ∙ slices-kept lane (length old.lanes.items) old.slices.items less in
            subst (AreOf boot events from to subject) (sym those) (are.slices lane subject got);
      }

  pub all-in-lanes : All (λ (it : Slice). it.lane < length new.lanes.items) new.slices.items
  all-in-lanes =
      subst (λ lanes. All (λ (it : Slice). it.lane < length lanes.items) new.slices.items) (sym same_lanes)
      (subst (All (λ (it : Slice). it.lane < length old.lanes.items)) (sym kept)
      (All-weaker (λ (it : Slice). nat_lt it.lane (length old.lanes.items) ≡ true) (λ (it : Slice). it.lane < length old.lanes.items)
      (λ it passes. grind (arith, nat_tests, passes))
      (filter (λ (it : Slice). nat_lt it.lane (length old.lanes.items)) old.slices.items)
      (filter_passes (λ (it : Slice). nat_lt it.lane (length old.lanes.items)) old.slices.items)))

-- why there is no picture, where one reason is left
pub keeps-from : (boot : BoardState) (events : List Event) (from to : ℕ) (fault : PictureFault) →
    (fault ≡ TooMuch → IsUndrawn boot events from to) → KeepsFromDrawing boot events from to fault
keeps-from boot events from to NoMemory undrawn = tt
keeps-from boot events from to TooMuch undrawn = undrawn refl
