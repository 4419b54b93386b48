-- What the turns of a search come to.
use Rattle.std.proofs.Common.{◌≡◌, ℕ, List, [], ◌∷◌, ◌++◌, take, sym, ap, subst, ◌∙◌, arith}
use Rattle.std.specs.Prelude.{Bool, true, false, All, Option}
use Rattle.std.proofs.lemmas.Bool.{false≢true}
use Rattle.std.proofs.lemmas.List.Elements.{All-push}
use Rattle.brd_board.specs.declared.event.Event.{Event}
use Rattle.brd_explore.specs.declared.search.Search.{Search}
use Rattle.brd_explore.specs.declared.search.Saved.{Saved}
use Rattle.brd_explore.specs.declared.wanted.Wanted.{Wanted}
use Rattle.brd_explore.specs.Schedules.{Place}
use Rattle.brd_explore.specs.Failures.{fails_at}
use Rattle.brd_explore.specs.Searching.{place_of, place_of_saved, spot_of, NoneLeft, NoneFails, NoneGoes, Leads, AreOnPath, IsOnPath, AreAlike, IsSized, Takes, TriesOr, HasGoneOr, HasStayed, HasGoneBack, LeavesOut, LeadsOn, Finds, Answers, Begins, ended_by}
use Rattle.brd_explore.specs.Sleeping.{awake}
use Rattle.brd_explore.proofs.AwakeLemmas.{none-awake}
use Rattle.brd_explore.proofs.SizeLemmas.{alike-after}
use Rattle.brd_explore.proofs.SearchLemmas.{none-from}

taken-alike : (s t : Search) (event : Event) (done : Bool) → done ≡ true → Takes s event t done → AreAlike s.board t.board
taken-alike s t event true is takes = subst (AreAlike s.board) (ap (λ (p : Place). p.board) (sym takes.1)) (alike-after s.board (event ∷ []))
taken-alike s t event false is takes = absurd (false≢true is)

-- the place before an event was saved
pub sized-saved : (s t : Search) (event : Event) (f : Saved) (done : Bool) → done ≡ true → Takes s event t done → place_of_saved f ≡ place_of s → IsSized t →
    All (λ (x : Saved). AreAlike x.board t.board) (t.saved.items ++ f ∷ [])
sized-saved s t event f done is takes same sized = All-push (λ (x : Saved). AreAlike x.board t.board) t.saved.items f sized.saved
    (subst (λ (p : Place). AreAlike p.board t.board) (sym same) (taken-alike s t event done is takes))

pub gone-of : {Else : Type 0} (among : List Event) (s t : Search) (at : ℕ) (done : Bool) → done ≡ true → TriesOr Else among s at t done → HasGoneOr Else among s at t
gone-of among s t at true is tries = tries
gone-of among s t at false is tries = absurd (false≢true is)

pub stayed-of : (Else : Type 0) (among : List Event) (s t : Search) (at : ℕ) (done : Bool) → done ≡ false → TriesOr Else among s at t done → HasStayed among s at t
stayed-of Else among s t at true is tries = absurd (false≢true (sym is))
stayed-of Else among s t at false is tries = tries

-- a schedule was counted before going back
pub back-same : (s t u : Search) → t.saved.items ≡ s.saved.items → t.path.items ≡ s.path.items → HasGoneBack t u → HasGoneBack s u
back-same s t u saved path back = record {
  f = back.f;
  saved = sym saved ∙ back.saved;
  place = back.place;
  asleep = back.asleep;
  at = back.at;
  fresh = back.fresh;
  path = subst (λ es. u.path.items ≡ take back.f.len es) path back.path;
}

pub begins-on : (among : List Event) (from : Place) (s : Search) → Begins from s → IsOnPath among from s
begins-on among from s begins = record {
  here = subst (λ es. Leads among from es (place_of s)) (sym begins.path) (sym begins.place);
  saved = subst (AreOnPath among from s.path.items 0) (sym begins.saved) (omega arith);
}

none-begins : (wanted : Wanted) (among : List Event) (from : Place) (s : Search) → Begins from s → fails_at wanted from.board from.left ≡ false →
    NoneLeft wanted among s → NoneFails wanted among from
none-begins wanted among from s begins fine none =
    let fine' : fails_at wanted s.board s.left ≡ false = ap (λ (p : Place). fails_at wanted p.board p.left) begins.place ∙ fine in
    let same : spot_of s ≡ awake from = λ i. record { place = begins.place i; asleep = begins.awake i } in
    none-awake wanted among from (subst (NoneGoes wanted among) same (none-from wanted among s none.here begins.at fine'))

pub finds : (wanted : Wanted) (among : List Event) (from : Place) (s t : Search) (found : Bool) (schedule : Option (List Event)) → Begins from s →
    fails_at wanted from.board from.left ≡ false → LeavesOut wanted among s t (ended_by found) →
    ((f : Place) → IsOnPath among f s → LeadsOn wanted among f t (ended_by found)) → Finds t found schedule → Answers wanted among from schedule
finds wanted among from s t true schedule begins fine out on is = subst (Answers wanted among from) (sym is) (on from (begins-on among from s begins))
finds wanted among from s t false schedule begins fine out on is = subst (Answers wanted among from) (sym is) (none-begins wanted among from s begins fine out)
