-- Since when a processor is in its loop, while a board plays on.
use Rattle.std.proofs.Common.{◌≡◌, inl, inr, ℕ, zero, suc, ◌+◌, ◌-◌, ◌<◌, ◌≤◌, List, length, replicate, refl, sym, ap}
use Rattle.std.proofs.Common.{subst, ◌∙◌, arith}
use Rattle.std.specs.Prelude.{◌≢◌, ◌^◌, min, Option, Some, None, slice_get, slice_index_or, slice_set}
use Rattle.std.proofs.lemmas.Bool.{cases_lt, cases_eq}
use Rattle.std.proofs.lemmas.List.{get_or-set_same, get_or-set_other}
use Rattle.std.proofs.Math.Nat.{le-min, le_refl, min-le_left}
use Rattle.brd_board.specs.declared.event.Event.{Event}
use Rattle.brd_board.specs.Board.{BoardState}
use Rattle.brd_journal.specs.declared.playback.Playback.{Playback}
use Rattle.brd_journal.specs.Playing.{board_at, AreStill, IsPlayed}
use Rattle.brd_spins.specs.Since.{since_by, AreSeen, AreThere, AreWatched, IsLeft, IsSeen, IsSince, IsThere, IsThereAt}
use Rattle.brd_spins.specs.declared.spin.Turning.{Turning}
use Rattle.brd_spins.specs.declared.watching.Watching.{Watching}
use Rattle.brd_spins.proofs.StateLemmas.{get-within}

-- Between positions at which no event does anything the board is the same.
still-on : (boot : BoardState) (events : List Event) (from to p : ℕ) → AreStill boot events from to → from ≤ p →
    (n : ℕ) → p + n ≤ to →
    board_at boot events (p + n) ≡ board_at boot events p
still-on boot events from to p still above zero within =
    let same : p + zero ≡ p = omega arith in ap (board_at boot events) same
still-on boot events from to p still above (suc n) within =
    let next : p + suc n ≡ suc (p + n) = omega arith in
    ap (board_at boot events) next ∙ still (p + n) (omega (arith, above)) (omega (arith, within))
    ∙ still-on boot events from to p still above n (omega (arith, within))

still-board : (boot : BoardState) (events : List Event) (from to p : ℕ) → AreStill boot events from to → from ≤ p →
    p ≤ to →
    board_at boot events to ≡ board_at boot events p
still-board boot events from to p still above below =
    let there : p + (to - p) ≡ to = omega (arith, below) in
    sym (ap (board_at boot events) there) ∙ still-on boot events from to p still above (to - p) (omega (arith, below))

module _ (boot : BoardState) (events : List Event) (cpu : ℕ) (turning : Turning) where
  -- where it is in its loop at the last of some positions, and was up to the one before them
  there-on : (from at next : ℕ) → AreStill boot events (at + 1) next →
      AreThere boot events cpu turning.who turning.states from at →
      IsThere (board_at boot events next) cpu turning.who turning.states →
      AreThere boot events cpu turning.who turning.states from next
  there-on from at next still are now p above below = elim (cases_lt at p) [
    | inl behind ↦
        subst (λ (b : BoardState). IsThere b cpu turning.who turning.states)
        (still-board boot events (at + 1) next p still (omega (arith, behind)) below) now
    | inr before ↦ are p above before
  ]

  left-on : (at next : ℕ) (left : Option ℕ) → at ≤ next → AreStill boot events (at + 1) next →
      IsLeft boot events cpu turning.who turning.states at left →
      IsThere (board_at boot events next) cpu turning.who turning.states →
      IsLeft boot events cpu turning.who turning.states next left
  left-on at next None on still is now = there-on 0 at next still is now
  left-on at next (Some left) on still is now = (
    omega (arith, is.0, on),
    is.1,
    there-on (suc left) at next still is.2 now,
  )

  left-now : (at : ℕ) → (IsThereAt boot events cpu turning.who turning.states at → ⊥) →
      IsLeft boot events cpu turning.who turning.states at (Some at)
  left-now at away = (omega arith, away, λ p above below. absurd (omega (arith, above, below)))

  -- after a look at the last of some positions
  left-more : (at next : ℕ) (old new : Option ℕ) → at ≤ next → AreStill boot events (at + 1) next →
      IsLeft boot events cpu turning.who turning.states at old → IsSeen
      (board_at boot events next) cpu turning next old new →
      IsLeft boot events cpu turning.who turning.states next new
  left-more at next old new on still is (inl there) =
      subst (IsLeft boot events cpu turning.who turning.states next) (sym there.1)
      (left-on at next old on still is there.0)
  left-more at next old new on still is (inr away) =
      subst (IsLeft boot events cpu turning.who turning.states next) (sym away.1) (left-now next away.0)

  -- after the first look
  left-first : (old new : Option ℕ) → old ≡ None → IsSeen boot cpu turning 0 old new →
      IsLeft boot events cpu turning.who turning.states 0 new
  left-first old new none (inl there) =
      subst (IsLeft boot events cpu turning.who turning.states 0) (sym (there.1 ∙ none)) (λ p above below.
      let first : 0 ≡ p = omega (arith, below) in
      subst (IsThereAt boot events cpu turning.who turning.states) first there.0)
  left-first old new none (inr away) =
      subst (IsLeft boot events cpu turning.who turning.states 0) (sym away.1) (left-now 0 away.0)

  -- since when, where it is in its loop at the last position
  pub since-is : (to : ℕ) (left : Option ℕ) → to < 2 ^ 64 → IsLeft boot events cpu turning.who turning.states to left →
      IsThereAt boot events cpu turning.who turning.states to →
      IsSince boot events cpu turning.who turning.states to (since_by left)
  since-is to None few is now = record {
    within = omega arith;
    there = is;
    least = λ before next. absurd (omega (arith, next));
  }
  since-is to (Some left) few is now = elim (cases_eq left to) [
    | inl last ↦ absurd (is.1 (subst (IsThereAt boot events cpu turning.who turning.states) (sym last) now))
    | inr other ↦
        let low : left + 1 ≤ min (left + 1) (2 ^ 64 - 1) = le-min (le_refl (left + 1))
        (omega (arith, is.0, other, few)) in
        let since : suc left ≡ min (left + 1) (2 ^ 64 - 1) = omega (arith, low, min-le_left (left + 1) (2 ^ 64 - 1)) in
        subst (IsSince boot events cpu turning.who turning.states to) since (record {
          within = omega (arith, is.0, other);
          there = is.2;
          least = λ before next.
              let same : left ≡ before = omega (arith, next) in
              λ there. is.1 (subst (IsThereAt boot events cpu turning.who turning.states) (sym same) there);
        })
  ]

-- all that is watched, after some events and a look
pub watched-on : (boot : BoardState) (events : List Event) (turnings : List Turning) (old new : Watching)
    (next : Playback) →
    AreWatched boot events turnings old → new.playback ≡ next → IsPlayed boot events next → old.playback.at ≤ next.at →
    AreStill boot events (old.playback.at + 1) next.at → AreSeen next.board turnings
    (length turnings) next.at old.lefts new.lefts →
    AreWatched boot events turnings new
watched-on boot events turnings old new next are same played on still seen = record {
  played = subst (IsPlayed boot events) (sym same) played;
  lefts = λ place turning found some.
      subst (λ (p : Playback). IsLeft boot events (place + 1) turning.who turning.states p.at
      (slice_index_or new.lefts place None)) (sym same)
      (left-more boot events (place + 1) turning old.playback.at next.at (slice_index_or old.lefts place None)
      (slice_index_or new.lefts place None) on
      still (are.lefts place turning found some)
      (subst (λ (b : BoardState). IsSeen b (place + 1) turning next.at (slice_index_or old.lefts place None)
      (slice_index_or new.lefts place None))
      played.board (seen place turning (get-within turnings turning place found) found some)));
}

pub none-left : (n place : ℕ) (none : Option ℕ) → none ≡ None → slice_index_or (replicate n none) place None ≡ None
none-left zero place none is = refl
none-left (suc n) zero none is = is
none-left (suc n) (suc place) none is = none-left n place none is

-- before any event
pub watched-first : (boot : BoardState) (events : List Event) (turnings : List Turning) (old : List (Option ℕ))
    (new : Watching) (start : Playback) →
    new.playback ≡ start → start ≡ record { board = boot; at = 0 } →
    ((place : ℕ) → slice_index_or old place None ≡ None) →
    AreSeen boot turnings (length turnings) 0 old new.lefts → AreWatched boot events turnings new
watched-first boot events turnings old new start same begins none seen = record {
  played = subst (IsPlayed boot events) (sym (same ∙ begins)) (record { board = refl; within = omega arith });
  lefts = λ place turning found some.
      subst (λ (p : Playback). IsLeft boot events (place + 1) turning.who turning.states p.at
      (slice_index_or new.lefts place None))
      (sym (same ∙ begins))
      (left-first boot events (place + 1) turning (slice_index_or old place None)
      (slice_index_or new.lefts place None) (none place)
      (seen place turning (get-within turnings turning place found) found some));
}

-- ---- a look at the processors

same-turning : (a b : Turning) → Some a ≡ Some b → a ≡ b
same-turning a b is = cc

-- one more, which isn't in its loop
pub seen-away : (board : BoardState) (turnings : List Turning) (i position : ℕ) (old now : List (Option ℕ))
    (it : Turning) →
    AreSeen board turnings i position old now → slice_get turnings i ≡ Some it → i < length now →
    (IsThere board (i + 1) it.who it.states → ⊥) →
    AreSeen board turnings (i + 1) position old (slice_set now i (Some position))
seen-away board turnings i position old now it seen here less away place turning below found some = elim
    (cases_eq place i) [
      | inl same ↦
          let its : turning ≡ it = same-turning turning it (sym found ∙ ap (slice_get turnings) same ∙ here) in
          inr (
            λ there. away (subst (λ (n : ℕ). IsThere board (n + 1) it.who it.states) same
                (subst (λ (t : Turning). IsThere board (place + 1) t.who t.states) its there)),
            ap (λ (k : ℕ). slice_index_or (slice_set now i (Some position)) k None) same ∙ get_or-set_same now i
                (Some position) None less,
          )
      | inr other ↦
          subst (IsSeen board (place + 1) turning position (slice_index_or old place None))
          (sym (get_or-set_other now i place (Some position) None other))
          (seen place turning (omega (arith, below, other)) found some)
    ]

-- one more, which is
pub seen-there : (board : BoardState) (turnings : List Turning) (i position : ℕ) (old now : List (Option ℕ))
    (it : Turning) →
    AreSeen board turnings i position old now → slice_get turnings i ≡ Some it →
    slice_index_or now i None ≡ slice_index_or old i None →
    (it.what ≢ None → IsThere board (i + 1) it.who it.states) → AreSeen board turnings (i + 1) position old now
seen-there board turnings i position old now it seen here kept there place turning below found some = elim
    (cases_eq place i) [
      | inl same ↦
          let its : it ≡ turning = same-turning it turning (sym here ∙ ap (slice_get turnings) (sym same) ∙ found) in
          inl (
            subst (λ (n : ℕ). IsThere board (n + 1) turning.who turning.states) (sym same)
                (subst (λ (t : Turning). IsThere board (i + 1) t.who t.states) its
                (there (λ none. some (ap (λ (t : Turning). t.what) (sym its) ∙ none)))),
            ap (λ (k : ℕ). slice_index_or now k None) same ∙ kept ∙ ap (λ (k : ℕ). slice_index_or old k None) (sym same),
          )
      | inr other ↦ seen place turning (omega (arith, below, other)) found some
    ]

-- those behind it stay as they were
pub rest-away : (i position : ℕ) (old now : List (Option ℕ)) →
    ((place : ℕ) → i ≤ place → slice_index_or now place None ≡ slice_index_or old place None) →
    (place : ℕ) → i + 1 ≤ place → slice_index_or (slice_set now i (Some position)) place None ≡ slice_index_or old
    place None
rest-away i position old now rest place behind =
    get_or-set_other now i place (Some position) None (λ same. absurd (omega (arith, behind, same))) ∙ rest place
    (omega (arith, behind))
