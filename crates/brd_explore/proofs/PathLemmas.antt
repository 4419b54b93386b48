-- The path of a search leads to where it is.
use Rattle.std.proofs.Common.{◌≡◌, ℕ, ◌<◌, ◌≤◌, List, [], ◌∷◌, ◌++◌, length, take, sym, ap, subst, ◌∙◌, arith, inl, inr}
use Rattle.std.specs.Prelude.{true, if◌then◌else◌}
use Rattle.std.proofs.lemmas.Bool.{false≢true}
use Rattle.std.proofs.lemmas.List.{length-take-le, take_all, take-take, take-append-le, length-append}
use Rattle.brd_board.specs.declared.event.Event.{Event}
use Rattle.brd_explore.specs.declared.search.Search.{Search}
use Rattle.brd_explore.specs.declared.search.Saved.{Saved}
use Rattle.brd_explore.specs.declared.wanted.Wanted.{Wanted}
use Rattle.brd_explore.specs.Schedules.{Place, does, is_left, next, place_after, IsAmong, IsWithin}
use Rattle.brd_explore.specs.Ordering.{event_tried}
use Rattle.brd_explore.specs.Failures.{fails_at}
use Rattle.brd_explore.specs.Searching.{FailsAt, IsFound, place_of, place_of_saved, Leads, AreOnPath, IsOnPath, HasGoneOr, HasStayed, HasPassed, HasGoneBack, KeepsOr}
use Rattle.brd_explore.proofs.LessLemmas.{left-after}
use Rattle.brd_explore.proofs.OrderLemmas.{tried-among}

-- what leads to a place is within the bounds

pub leads-within : (among : List Event) (p : Place) (es : List Event) (to : Place) → Leads among p es to → IsWithin among p es
leads-within among p [] to leads = tt
leads-within among p (e ∷ es) to leads =
    (λ did. (leads.0, leads.1, leads-within among (next p e) es to leads.3), λ none. absurd (false≢true (sym none ∙ leads.2)))

pub leads-after : (among : List Event) (p : Place) (es : List Event) (to : Place) → Leads among p es to → place_after p es ≡ to
leads-after among p [] to leads = leads
leads-after among p (e ∷ es) to leads =
    ap (λ test. if test then place_after (next p e) es else place_after p es) leads.2 ∙ leads-after among (next p e) es to leads.3

pub leads-on : (among : List Event) (p : Place) (es : List Event) (to : Place) (e : Event) → Leads among p es to →
    IsAmong among e → is_left to e ≡ true → does to.board e ≡ true → Leads among p (es ++ e ∷ []) (next to e)
leads-on among p [] to e leads one left did = (
  one,
  subst (λ (q : Place). is_left q e ≡ true) (sym leads) left,
  subst (λ (q : Place). does q.board e ≡ true) (sym leads) did,
  ap (λ (q : Place). next q e) leads,
)
leads-on among p (f ∷ es) to e leads one left did = (leads.0, leads.1, leads.2, leads-on among (next p f) es to e leads.3 one left did)

-- each of these events takes one of those that are left
pub leads-few : (among : List Event) (p : Place) (es : List Event) (to : Place) → Leads among p es to → length es ≤ p.left.events
leads-few among p [] to leads = omega arith
leads-few among p (e ∷ es) to leads = omega (arith, left-after p e leads.1, leads-few among (next p e) es to leads.3)

-- the places that were saved

len-on : (among : List Event) (from : Place) (path : List Event) (len : ℕ) (fs : List Saved) → AreOnPath among from path len fs → len ≤ length path
len-on among from path len [] on = on
len-on among from path len (f ∷ fs) on = omega (arith, on.0, len-on among from path f.len fs on.2)

on-more : (among : List Event) (from : Place) (path more : List Event) (len : ℕ) (fs : List Saved) → AreOnPath among from path len fs →
    AreOnPath among from (path ++ more) len fs
on-more among from path more len [] on = omega (arith, on, length-append path more)
on-more among from path more len (f ∷ fs) on = (
  on.0,
  subst (λ es. Leads among from es (place_of_saved f)) (sym (take-append-le f.len path more (len-on among from path f.len fs on.2))) on.1,
  on-more among from path more f.len fs on.2,
)

on-saved : (among : List Event) (from : Place) (path : List Event) (len : ℕ) (fs : List Saved) (f : Saved) → AreOnPath among from path len fs →
    f.len ≡ length path → Leads among from path (place_of_saved f) → AreOnPath among from path len (fs ++ f ∷ [])
on-saved among from path len [] f on is leads = (
  omega (arith, on, is),
  subst (λ es. Leads among from es (place_of_saved f)) (sym (take_all f.len path (omega (arith, is)))) leads,
  omega (arith, is),
)
on-saved among from path len (g ∷ fs) f on is leads = (on.0, on.1, on-saved among from path g.len fs f on.2 is leads)

-- without the one that was saved last, on the path that leads there

len-back : (among : List Event) (from : Place) (path : List Event) (len : ℕ) (fs : List Saved) (f : Saved) → AreOnPath among from path len (fs ++ f ∷ []) → len ≤ f.len
len-back among from path len [] f on = on.0
len-back among from path len (g ∷ fs) f on = omega (arith, on.0, len-back among from path g.len fs f on.2)

last-on : (among : List Event) (from : Place) (path : List Event) (len : ℕ) (fs : List Saved) (f : Saved) → AreOnPath among from path len (fs ++ f ∷ []) →
    (f.len ≤ length path) × Leads among from (take f.len path) (place_of_saved f)
last-on among from path len [] f on = (on.2, on.1)
last-on among from path len (g ∷ fs) f on = last-on among from path g.len fs f on.2

on-back : (among : List Event) (from : Place) (path : List Event) (len : ℕ) (fs : List Saved) (f : Saved) → AreOnPath among from path len (fs ++ f ∷ []) →
    AreOnPath among from (take f.len path) len fs
on-back among from path len [] f on = omega (arith, on.0, on.2, length-take-le f.len path on.2)
on-back among from path len (g ∷ fs) f on = (
  on.0,
  subst (λ es. Leads among from es (place_of_saved g)) (sym (take-take g.len f.len path (len-back among from path g.len fs f on.2))) on.1,
  on-back among from path g.len fs f on.2,
)

-- what a turn leaves

on-kept : {Else : Type 0} (among : List Event) (from : Place) (s t : Search) (at : ℕ) → IsOnPath among from s → KeepsOr Else s at t →
    AreOnPath among from s.path.items 0 t.saved.items
on-kept among from s t at on (inl same) = subst (AreOnPath among from s.path.items 0) (sym same.0) on.saved
on-kept among from s t at on (inr more) = subst (AreOnPath among from s.path.items 0) (sym more.1)
    (on-saved among from s.path.items 0 s.saved.items more.0 on.saved more.4
    (subst (Leads among from s.path.items) (sym more.2) on.here))

leads-gone : {Else : Type 0} (among : List Event) (from : Place) (s t : Search) (at : ℕ) → at < length among → is_left (place_of s) (event_tried among s.last at) ≡ true →
    IsOnPath among from s → HasGoneOr Else among s at t → Leads among from t.path.items (place_of t)
leads-gone among from s t at below left on gone =
    subst (Leads among from t.path.items) (sym gone.place)
    (subst (λ es. Leads among from es (next (place_of s) (event_tried among s.last at))) (sym gone.path)
    (leads-on among from s.path.items (place_of s) (event_tried among s.last at) on.here (tried-among among s.last at below) left gone.did))

pub on-gone : {Else : Type 0} (among : List Event) (from : Place) (s t : Search) (at : ℕ) → at < length among → is_left (place_of s) (event_tried among s.last at) ≡ true →
    IsOnPath among from s → HasGoneOr Else among s at t → IsOnPath among from t
on-gone among from s t at below left on gone = record {
  here = leads-gone among from s t at below left on gone;
  saved = subst (λ es. AreOnPath among from es 0 t.saved.items) (sym gone.path)
      (on-more among from s.path.items (event_tried among s.last at ∷ []) 0 t.saved.items (on-kept among from s t at on gone.saved));
}

pub on-stayed : (among : List Event) (from : Place) (s t : Search) (at : ℕ) → IsOnPath among from s → HasStayed among s at t → IsOnPath among from t
on-stayed among from s t at on stayed = record {
  here = subst (Leads among from t.path.items) (sym stayed.place) (subst (λ es. Leads among from es (place_of s)) (sym stayed.path) on.here);
  saved = subst (λ es. AreOnPath among from es 0 t.saved.items) (sym stayed.path) (subst (AreOnPath among from s.path.items 0) (sym stayed.saved) on.saved);
}

pub on-passed : (among : List Event) (from : Place) (s t : Search) (at : ℕ) → IsOnPath among from s → HasPassed s at t → IsOnPath among from t
on-passed among from s t at on passed = record {
  here = subst (Leads among from t.path.items) (sym passed.place) (subst (λ es. Leads among from es (place_of s)) (sym passed.path) on.here);
  saved = subst (λ es. AreOnPath among from es 0 t.saved.items) (sym passed.path) (subst (AreOnPath among from s.path.items 0) (sym passed.saved) on.saved);
}

pub on-back-gone : (among : List Event) (from : Place) (s t : Search) → IsOnPath among from s → HasGoneBack s t → IsOnPath among from t
on-back-gone among from s t on back =
    let saved = subst (AreOnPath among from s.path.items 0) back.saved on.saved in
    record {
      here = subst (Leads among from t.path.items) (sym back.place)
          (subst (λ es. Leads among from es (place_of_saved back.f)) (sym back.path) (last-on among from s.path.items 0 t.saved.items back.f saved).1);
      saved = subst (λ es. AreOnPath among from es 0 t.saved.items) (sym back.path) (on-back among from s.path.items 0 t.saved.items back.f saved);
    }

-- what is found

pub found-here : (wanted : Wanted) (among : List Event) (from : Place) (es : List Event) (to : Place) → Leads among from es to →
    FailsAt wanted to → IsFound wanted among from es
found-here wanted among from es to leads fails = record {
  within = leads-within among from es to leads;
  few = leads-few among from es to leads;
  fails = subst (FailsAt wanted) (sym (leads-after among from es to leads)) fails;
}

pub found-now : (wanted : Wanted) (among : List Event) (from : Place) (t : Search) → IsOnPath among from t →
    fails_at wanted t.board t.left ≡ true → IsFound wanted among from t.path.items
found-now wanted among from t on fails = found-here wanted among from t.path.items (place_of t) on.here fails
