-- Where all noted places have been gone through, no schedule fails that keeps to the regions.
use Rattle.std.proofs.Common.{◌≡◌, ℕ, zero, suc, inl, inr, true, List, [], ◌∷◌, length, sym, ap, subst, ◌∙◌}
use Rattle.std.specs.Prelude.{if◌then◌else◌}
use Rattle.std.proofs.lemmas.Bool.{cases_Bool, and_from, false≢true}
use Rattle.std.proofs.lemmas.Option.{slice_get_within}
use Rattle.brd_board.specs.declared.event.Event.{Event}
use Rattle.brd_explore.specs.declared.wanted.Wanted.{Wanted}
use Rattle.brd_explore.specs.Schedules.{Place, IsRicher, does, is_left, next, place_after, event_at, IsAmong, IsWithin}
use Rattle.brd_explore.specs.Searching.{FailsAt, Fails}
use Rattle.brd_explore.proofs.RichLemmas.{rich-fails, rich-left, rich-next}
use Rattle.brd_spots.specs.Spots.{IsKnown}
use Rattle.brd_spots.proofs.KnownLemmas.{rich-same, rich-then}
use Rattle.brd_only.specs.declared.region.Regions.{Regions}
use Rattle.brd_only.specs.Only.{keeps_to, KeepsInside, NoneFailsInside}
use Rattle.brd_only.specs.Finding.{may_go, HeldBy, IsHeld, IsDone, AreDone}

-- what may come from the place with less may come from the one with more
rich-goes : (regions : Regions) (rich poor : Place) (e : Event) → IsRicher rich poor → is_left poor e ≡ true →
    keeps_to regions poor.board poor.last e ≡ true → may_go regions rich e ≡ true
rich-goes regions rich poor e r left inside =
    and_from (is_left rich e) (keeps_to regions rich.board rich.last e) (rich-left rich poor e r left)
    ((λ i. keeps_to regions (r.board i) (r.last i) e) ∙ inside)

-- A place is held: one that has been gone through has the same board, and no less is left there.
record Stands (among : List Event) (regions : Regions) (wanted : Wanted) (spots : List Place) (p : Place) : Type 0 where
  place : Place
  richer : IsRicher place p
  done : IsDone among regions wanted spots place

stands : (among : List Event) (regions : Regions) (wanted : Wanted) (spots : List Place) (n : ℕ) (p : Place) →
    AreDone among regions wanted spots (length spots) → HeldBy among regions wanted spots n p → Stands among regions wanted spots p
stands among regions wanted spots zero p done known = record {
  place = known.place;
  richer = known.richer;
  done = done known.there.0 (slice_get_within spots known.there.0 known.place known.there.1) known.place known.there.1;
}
stands among regions wanted spots (suc n) p done held = record {
  place = p;
  richer = rich-same p;
  done = record { holds = held.0; gone = λ k less may did. (n, held.1 k less may did) };
}

goes : (among : List Event) (regions : Regions) (wanted : Wanted) (spots : List Place) (p : Place) (event : Event) →
    IsDone among regions wanted spots p → IsAmong among event → may_go regions p event ≡ true → does p.board event ≡ true →
    IsHeld among regions wanted spots (next p event)
goes among regions wanted spots p event done one may did =
    let is : event_at among one.at ≡ event = one.is in
    subst (λ e. IsHeld among regions wanted spots (next p e)) is
    (done.gone one.at one.within (subst (λ e. may_go regions p e ≡ true) (sym is) may)
    (subst (λ e. does p.board e ≡ true) (sym is) did))

none-from : (among : List Event) (regions : Regions) (wanted : Wanted) (spots : List Place) (es : List Event) (n : ℕ) (rich p : Place) →
    wanted.rounds ≡ 0 → AreDone among regions wanted spots (length spots) → HeldBy among regions wanted spots n rich → IsRicher rich p →
    IsWithin among p es → KeepsInside regions p es → Fails wanted p es → ⊥
none-from among regions wanted spots [] n rich p none done held richer within keeps fails =
    let it = stands among regions wanted spots n rich done held in
    false≢true (sym it.done.holds ∙ rich-fails wanted it.place p none (rich-then it.place rich p it.richer richer) fails)
none-from among regions wanted spots (e ∷ es) n rich p none done held richer within keeps fails = elim (cases_Bool (does p.board e)) [
  | inl did ↦
      let it = stands among regions wanted spots n rich done held in
      let top : IsRicher it.place p = rich-then it.place rich p it.richer richer in
      let may : may_go regions it.place e ≡ true = rich-goes regions it.place p e top (within.0 did).1 (keeps.0 did).0 in
      let on : IsHeld among regions wanted spots (next it.place e) =
      goes among regions wanted spots it.place e it.done (within.0 did).0 may (ap (λ b. does b e) top.board ∙ did) in
      none-from among regions wanted spots es on.0 (next it.place e) (next p e) none done on.1 (rich-next it.place p e top)
      (within.0 did).2 (keeps.0 did).1
      (subst (λ test. FailsAt wanted (if test then place_after (next p e) es else place_after p es)) did fails)
  | inr not ↦
      none-from among regions wanted spots es n rich p none done held richer (within.1 not) (keeps.1 not)
      (subst (λ test. FailsAt wanted (if test then place_after (next p e) es else place_after p es)) not fails)
]

pub holds-so : (among : List Event) (regions : Regions) (wanted : Wanted) (spots : List Place) (p : Place) → wanted.rounds ≡ 0 →
    IsKnown spots p → AreDone among regions wanted spots (length spots) → NoneFailsInside wanted among regions p
holds-so among regions wanted spots p none known done es within keeps fails =
    none-from among regions wanted spots es zero p p none done known (rich-same p) within keeps fails
