-- What a search leaves out doesn't fail.
use Rattle.std.proofs.Common.{◌≡◌, ℕ, ◌+◌, ◌<◌, ◌≤◌, List, [], ◌∷◌, ◌++◌, length, drop, sym, ap, subst, ◌∙◌, arith, ◌⊎◌, inl, inr}
use Rattle.std.specs.Prelude.{true, false, All, Some, if◌then◌else◌}
use Rattle.std.proofs.lemmas.Bool.{cases_lt, cases_Bool, false≢true}
use Rattle.std.proofs.lemmas.List.{drop_all, drop-append-le}
use Rattle.std.proofs.lemmas.List.Elements.{All-nil, All-push, All-pop}
use Rattle.brd_board.specs.declared.event.Event.{Event}
use Rattle.brd_board.specs.Board.{BoardState}
use Rattle.brd_explore.specs.declared.search.Search.{Search}
use Rattle.brd_explore.specs.declared.search.Saved.{Saved}
use Rattle.brd_explore.specs.declared.wanted.Wanted.{Wanted}
use Rattle.brd_explore.specs.Schedules.{Place, does, is_left, next, place_after}
use Rattle.brd_explore.specs.Ordering.{event_tried}
use Rattle.brd_explore.specs.Failures.{fails_at}
use Rattle.brd_explore.specs.Sleeping.{Spot, next_spot, is_left_out}
use Rattle.brd_explore.specs.Searching.{FailsAt, NoneGoes, NoneGoesBy, NoneGoesFrom, IsTooMuch, place_of, spot_of, spot_of_saved, NoneHere, NoneLeftFrom, NoneLeft, HasGone, HasStayed, HasPassed, HasGoneBack, KeepsOr}
use Rattle.brd_explore.proofs.OrderLemmas.{among-tried, tried-among}

-- whichever way a test of an event goes
pub does-or : (b : BoardState) (e : Event) → (does b e ≡ true) ⊎ (does b e ≡ false)
does-or b e = cases_Bool (does b e)

pub after-doing : (p : Place) (e : Event) (es : List Event) → does p.board e ≡ true → place_after p (e ∷ es) ≡ place_after (next p e) es
after-doing p e es did = ap (λ test. if test then place_after (next p e) es else place_after p es) did

pub after-nothing : (p : Place) (e : Event) (es : List Event) → does p.board e ≡ false → place_after p (e ∷ es) ≡ place_after p es
after-nothing p e es none = ap (λ test. if test then place_after (next p e) es else place_after p es) none

-- Where the place doesn't fail, and no schedule that begins with one of the events fails, none does.
pub none-goes : (wanted : Wanted) (among : List Event) (spot : Spot) → NoneGoesFrom wanted among spot 0 → (FailsAt wanted spot.place → ⊥) → NoneGoes wanted among spot
none-goes wanted among spot begins here [] to leads fails = here (subst (FailsAt wanted) (sym leads) fails)
none-goes wanted among spot begins here (e ∷ es) to leads fails =
    let one = among-tried among spot.place.last e leads.0 in
    let none : NoneGoesBy wanted among spot e = subst (NoneGoesBy wanted among spot) one.is (begins one.at (omega arith) one.below) in
    none leads.2 leads.1 leads.3 es to leads.4 fails

-- nothing is left for any of them
pub none-too_much : (wanted : Wanted) (among : List Event) (spot : Spot) (from : ℕ) → IsTooMuch among spot.place from (length among) → NoneGoesFrom wanted among spot from
none-too_much wanted among spot from much k above below did left = absurd (false≢true (sym (much k above below) ∙ left))

-- some are too much, one fails not, and then those behind it
pub none-more : (wanted : Wanted) (among : List Event) (spot : Spot) (from at : ℕ) → from ≤ at → IsTooMuch among spot.place from at →
    NoneGoesBy wanted among spot (event_tried among spot.place.last at) → NoneGoesFrom wanted among spot (at + 1) → NoneGoesFrom wanted among spot from
none-more wanted among spot from at on much here rest k above below = elim (cases_lt k at) [
  | inl lt ↦ λ did left. absurd (false≢true (sym (much k above lt) ∙ left))
  | inr ge ↦ elim (cases_lt at k) [
    | inl more ↦ rest k (omega (arith, more)) below
    | inr less ↦ let same : at ≡ k = omega (arith, ge, less) in subst (λ n. NoneGoesBy wanted among spot (event_tried among spot.place.last n)) same here
  ]
]

-- what is left after going on, and before it

-- no schedule fails from a place that a search has just come to, and from where it has nothing left
pub none-from : (wanted : Wanted) (among : List Event) (t : Search) → NoneHere wanted among t → t.at ≡ 0 → fails_at wanted t.board t.left ≡ false →
    NoneGoes wanted among (spot_of t)
none-from wanted among t none at fine =
    none-goes wanted among (spot_of t) (subst (NoneGoesFrom wanted among (spot_of t)) at none) (λ fails. false≢true (sym fine ∙ fails))

-- a saved place from which nothing fails
abbrev IsFine : Wanted → List Event → Saved → Type 0
IsFine wanted among f = NoneGoesFrom wanted among (spot_of_saved f) f.at

-- the rest of a place, and the places saved before
abbrev Rest : Wanted → List Event → ℕ → Search → ℕ → Type 0
Rest wanted among height s at = NoneGoesFrom wanted among (spot_of s) (at + 1) × All (IsFine wanted among) (drop height s.saved.items)

kept-rest : (wanted : Wanted) (among : List Event) (height : ℕ) (s t : Search) (at : ℕ) → height ≤ length s.saved.items →
    KeepsOr (IsTooMuch among (place_of s) (at + 1) (length among)) s at t →
    All (IsFine wanted among) (drop height t.saved.items) → Rest wanted among height s at
kept-rest wanted among height s t at low (inl same) all =
    (none-too_much wanted among (spot_of s) (at + 1) same.1, subst (λ fs. All (IsFine wanted among) (drop height fs)) same.0 all)
kept-rest wanted among height s t at low (inr more) all =
    let split : drop height t.saved.items ≡ drop height s.saved.items ++ more.0 ∷ [] =
    ap (drop height) more.1 ∙ drop-append-le height s.saved.items (more.0 ∷ []) low in
    let parts = All-pop (IsFine wanted among) (drop height t.saved.items) (drop height s.saved.items) (Some more.0) split all in
    let same : spot_of_saved more.0 ≡ spot_of s = λ i. record { place = more.2 i; asleep = more.5 i } in
    (subst (λ spot. NoneGoesFrom wanted among spot (at + 1)) same (subst (NoneGoesFrom wanted among (spot_of_saved more.0)) more.3 parts.1), parts.0)

pub leaves-gone : (wanted : Wanted) (among : List Event) (height : ℕ) (s t : Search) (at : ℕ) → height ≤ length s.saved.items → s.at ≤ at → at < length among →
    is_left (place_of s) (event_tried among s.last at) ≡ true → IsTooMuch among (place_of s) s.at at → HasGone among s at t → fails_at wanted t.board t.left ≡ false →
    NoneLeftFrom wanted among height t → NoneLeftFrom wanted among height s
leaves-gone wanted among height s t at low on below left much gone fine none =
    let there : NoneGoes wanted among (spot_of t) = none-from wanted among t none.here gone.at fine in
    let same : spot_of t ≡ next_spot (spot_of s) (event_tried among s.last at) = λ i. record { place = gone.place i; asleep = gone.asleep i } in
    let begins : NoneGoesBy wanted among (spot_of s) (event_tried among s.last at) = λ did is tried. subst (NoneGoes wanted among) same there in
    let kept = kept-rest wanted among height s t at low gone.saved none.saved in
    record {
      here = none-more wanted among (spot_of s) s.at at on much begins kept.0;
      saved = kept.1;
    }

-- what is left to be tried where it has stayed
from-stayed : (wanted : Wanted) (among : List Event) (s t : Search) (at : ℕ) → place_of t ≡ place_of s → t.asleep ≡ s.asleep → t.at ≡ at + 1 →
    NoneGoesFrom wanted among (spot_of t) t.at → NoneGoesFrom wanted among (spot_of s) (at + 1)
from-stayed wanted among s t at place asleep is none =
    let same : spot_of t ≡ spot_of s = λ i. record { place = place i; asleep = asleep i } in
    subst (λ spot. NoneGoesFrom wanted among spot (at + 1)) same (subst (NoneGoesFrom wanted among (spot_of t)) is none)

pub leaves-stayed : (wanted : Wanted) (among : List Event) (height : ℕ) (s t : Search) (at : ℕ) → s.at ≤ at → IsTooMuch among (place_of s) s.at at →
    HasStayed among s at t → NoneLeftFrom wanted among height t → NoneLeftFrom wanted among height s
leaves-stayed wanted among height s t at on much stayed none = record {
  here = none-more wanted among (spot_of s) s.at at on much (λ did left tried. absurd (false≢true (sym stayed.did ∙ did)))
      (from-stayed wanted among s t at stayed.place stayed.asleep stayed.at none.here);
  saved = subst (λ fs. All (IsFine wanted among) (drop height fs)) stayed.saved none.saved;
}

-- it has left an event out, which would have done something
pub leaves-passed : (wanted : Wanted) (among : List Event) (height : ℕ) (s t : Search) (at : ℕ) → s.at ≤ at → at < length among →
    is_left (place_of s) (event_tried among s.last at) ≡ true → IsTooMuch among (place_of s) s.at at → is_left_out wanted (spot_of s) (event_tried among s.last at) ≡ true →
    HasPassed s at t → NoneLeftFrom wanted among height t → NoneLeftFrom wanted among height s
leaves-passed wanted among height s t at on below left much out passed none = record {
  here = none-more wanted among (spot_of s) s.at at on much (λ did is tried. absurd (false≢true (sym tried ∙ out)))
      (from-stayed wanted among s t at passed.place passed.asleep passed.at none.here);
  saved = subst (λ fs. All (IsFine wanted among) (drop height fs)) passed.saved none.saved;
}

-- where nothing is left
pub none-over : (wanted : Wanted) (among : List Event) (s : Search) → IsTooMuch among (place_of s) s.at (length among) → NoneHere wanted among s
none-over wanted among s much = none-too_much wanted among (spot_of s) s.at much

-- and so it is where no schedule fails
pub none-known : (wanted : Wanted) (among : List Event) (s : Search) → NoneGoes wanted among (spot_of s) → NoneHere wanted among s
none-known wanted among s none k above below did left tried es to leads fails =
    none (event_tried among s.last k ∷ es) to (tried-among among s.last k below, left, did, tried, leads) fails

-- all the saved places are below
pub none-below : (wanted : Wanted) (among : List Event) (height : ℕ) (s : Search) → NoneHere wanted among s → length s.saved.items ≤ height →
    NoneLeftFrom wanted among height s
none-below wanted among height s none high = record {
  here = none;
  saved = subst (All (IsFine wanted among)) (sym (drop_all height s.saved.items high)) (All-nil (IsFine wanted among));
}

pub leaves-back : (wanted : Wanted) (among : List Event) (height : ℕ) (s t : Search) → height ≤ length t.saved.items → NoneHere wanted among s →
    HasGoneBack s t → NoneLeftFrom wanted among height t → NoneLeftFrom wanted among height s
leaves-back wanted among height s t low here back none =
    let same : spot_of t ≡ spot_of_saved back.f = λ i. record { place = back.place i; asleep = back.asleep i } in
    record {
      here = here;
      saved = subst (All (IsFine wanted among)) (sym (ap (drop height) back.saved ∙ drop-append-le height t.saved.items (back.f ∷ []) low))
          (All-push (IsFine wanted among) (drop height t.saved.items) back.f none.saved
          (subst (NoneGoesFrom wanted among (spot_of_saved back.f)) back.at (subst (λ spot. NoneGoesFrom wanted among spot t.at) same none.here)));
    }

pub leaves-over : (wanted : Wanted) (among : List Event) (s : Search) → NoneHere wanted among s → s.saved.items ≡ [] → NoneLeft wanted among s
leaves-over wanted among s here nothing = none-below wanted among 0 s here (omega (arith, ap length nothing))
