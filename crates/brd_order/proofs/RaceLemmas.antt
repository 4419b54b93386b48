-- What a deed more changes of the races that are told.
use Rattle.std.proofs.Common.{◌≡◌, ℕ, ◌<◌, ◌≤◌, List, [], ◌∷◌, ◌++◌, length, refl, sym, ap, subst, ◌∙◌, arith, inl, inr}
use Rattle.std.specs.Prelude.{Some, None, ◌⊎◌, true, false, nat_eq, Decides, Option}
use Rattle.std.specs.List.{slice_get, list_any}
use Rattle.std.proofs.lemmas.Option.{slice_get_within}
use Rattle.std.proofs.lemmas.Bool.{cases_eq, cases_lt}
use Rattle.std.proofs.lemmas.Bool.Decides.{nat_tests}
use Rattle.brd_order.specs.declared.deed.{Act.Act, Deed.Deed, Touch.Touch, Mark.Mark, Race.Race}
use Rattle.brd_order.specs.declared.deed.Act.TheVariants.{Touches, Acquires, Releases, Hears, Heeds}
use Rattle.brd_order.specs.Order.{Leads}
use Rattle.brd_order.specs.Clocks.{Knows, Did}
use Rattle.brd_order.specs.Races.{meets, deed_of, IsOf, IsRace, IsFirst, IsIn, AreRaces}
use Rattle.brd_order.specs.Marks.{AreLike, AreMarks, ComesIn, IsUnknown, IsLast}
use Rattle.brd_order.specs.After.{HasRace, AreTold}
use Rattle.brd_order.proofs.OrderLemmas.{of-some, get-more, get-back, get-last, get-cases, leads-more, leads-back}
use Rattle.brd_order.proofs.OrderLemmas.{led-to-last}

-- marks

abbrev no_touch : Touch
no_touch = record { word = 0; «from» = 0; to = 0; stores = false; synchronizes = false }

abbrev mark_by : ℕ → Deed → Act → Mark
mark_by at d (Touches touch) = record { at = at; strand = d.strand; touch = touch; event = d.event; place = d.place }
mark_by at d (Acquires x) = record { at = at; strand = d.strand; touch = no_touch; event = d.event; place = d.place }
mark_by at d (Releases x) = record { at = at; strand = d.strand; touch = no_touch; event = d.event; place = d.place }
mark_by at d (Hears x) = record { at = at; strand = d.strand; touch = no_touch; event = d.event; place = d.place }
mark_by at d Heeds = record { at = at; strand = d.strand; touch = no_touch; event = d.event; place = d.place }

-- marks of the same deed are the same
pub same-mark : (deeds : List Deed) (one other : Mark) → IsOf deeds one → IsOf deeds other → one.at ≡ other.at →
    one ≡ other
same-mark deeds one other first second at =
    let d : deed_of one ≡ deed_of other = of-some (deed_of one) (deed_of other)
    (sym first ∙ (ap (slice_get deeds) at ∙ second)) in
    ap (λ (n : ℕ). mark_by n (deed_of one) (deed_of one).act) at ∙ ap (λ (e : Deed). mark_by other.at e e.act) d

mark-back : (deeds : List Deed) (d : Deed) (m : Mark) → m.at < length deeds → IsOf (deeds ++ d ∷ []) m → IsOf deeds m
mark-back deeds d m below of = get-back deeds d m.at (deed_of m) below of

mark-more : (deeds : List Deed) (d : Deed) (m : Mark) → IsOf deeds m → IsOf (deeds ++ d ∷ []) m
mark-more deeds d m of = get-more deeds d m.at (deed_of m) of

mark-within : (deeds : List Deed) (m : Mark) → IsOf deeds m → m.at < length deeds
mark-within deeds m of = slice_get_within deeds m.at (deed_of m) of

-- a deed that touches nothing has no mark
mark-old : (deeds : List Deed) (d : Deed) (m : Mark) → ((touch : Touch) → d.act ≡ Touches touch → ⊥) →
    IsOf (deeds ++ d ∷ []) m → m.at < length deeds
mark-old deeds d m none of = elim (get-cases deeds d m.at (deed_of m) of) [
  | inl old ↦ old.0
  | inr last ↦ absurd (none m.touch (sym (ap (λ (e : Deed). e.act) last.1)))
]

pub marks-untouched : (deeds : List Deed) (d : Deed) (marks : ℕ → List Mark) →
    ((touch : Touch) → d.act ≡ Touches touch → ⊥) → AreMarks deeds marks →
    AreMarks (deeds ++ d ∷ []) marks
marks-untouched deeds d marks none are = record {
  those = λ word m is. mark-more deeds d m (are.those word m is);
  each = λ m of. are.each m (mark-back deeds d m (mark-old deeds d m none of) of);
}

new-mark : (deeds : List Deed) (new : Mark) → new.at ≡ length deeds → IsOf (deeds ++ deed_of new ∷ []) new
new-mark deeds new at = ap (slice_get (deeds ++ deed_of new ∷ [])) at ∙ get-last deeds (deed_of new)

-- it is the new one, or an old one
mark-cases : (deeds : List Deed) (new m : Mark) → new.at ≡ length deeds → IsOf (deeds ++ deed_of new ∷ []) m →
    ((m.at < length deeds) × IsOf deeds m) ⊎ (m ≡ new)
mark-cases deeds new m at of = elim (get-cases deeds (deed_of new) m.at (deed_of m) of) [
  | inl old ↦ inl (old.0, old.1)
  | inr last ↦ inr (same-mark (deeds ++ deed_of new ∷ []) m new of (new-mark deeds new at) (last.0 ∙ sym at))
]

like-covers : (deeds : List Deed) (new m last : Mark) (old marks : ℕ → List Mark) → new.at ≡ length deeds →
    AreMarks deeds old → ComesIn new old marks →
    IsIn last (old m.touch.word) → AreLike last m → m.at ≤ last.at → m.at < length deeds →
    IsIn last (marks m.touch.word) ⊎ AreLike last new → (it : Mark) × IsIn it (marks m.touch.word) × AreLike it m ×
    (m.at ≤ it.at)
like-covers deeds new m last old marks at are comes is like late below (inl kept) = (last, kept, like, late)
like-covers deeds new m last old marks at are comes is like late below (inr gone) =
    let touch : new.touch ≡ m.touch = sym gone.touch ∙ like.touch in (
      new,
      subst (λ (t : Touch). IsIn new (marks t.word)) touch comes.there,
      record { strand = sym gone.strand ∙ like.strand; touch = touch },
      omega (arith, at, below),
    )

pub marks-touched : (deeds : List Deed) (new : Mark) (old marks : ℕ → List Mark) → new.at ≡ length deeds →
    AreMarks deeds old → ComesIn new old marks →
    AreMarks (deeds ++ deed_of new ∷ []) marks
marks-touched deeds new old marks at are comes = record {
  those = λ word m is. elim (comes.those word m is) [
    | inl kept ↦ mark-more deeds (deed_of new) m (are.those word m kept)
    | inr same ↦ subst (IsOf (deeds ++ deed_of new ∷ [])) (sym same) (new-mark deeds new at)
  ];
  each = λ m of. elim (mark-cases deeds new m at of) [
    | inl before ↦
        let it = are.each m before.1 in
        like-covers deeds new m it.0 old marks at are comes it.1 it.2 it.3 before.0 (comes.kept m.touch.word it.0 it.1)
    | inr same ↦ (
      new,
      subst (λ (n : Mark). IsIn new (marks n.touch.word)) (sym same) comes.there,
      record { strand = ap (λ (n : Mark). n.strand) (sym same); touch = ap (λ (n : Mark). n.touch) (sym same) },
      omega (arith, ap (λ (n : Mark). n.at) same),
    )
  ];
}

-- races

pub race-more : (deeds : List Deed) (d : Deed) (one other : Mark) → IsRace deeds one other →
    IsRace (deeds ++ d ∷ []) one other
race-more deeds d one other race = record {
  first = mark-more deeds d one race.first;
  second = mark-more deeds d other race.second;
  earlier = race.earlier;
  meet = race.meet;
  unordered = λ leads. race.unordered (leads-back deeds d one.at other.at (mark-within deeds other race.second) leads);
}

race-back : (deeds : List Deed) (d : Deed) (one other : Mark) → other.at < length deeds →
    IsRace (deeds ++ d ∷ []) one other → IsRace deeds one other
race-back deeds d one other below race =
    let less : one.at < length deeds = omega (arith, race.earlier, below) in
    record {
      first = mark-back deeds d one less race.first;
      second = mark-back deeds d other below race.second;
      earlier = race.earlier;
      meet = race.meet;
      unordered = λ leads. race.unordered (leads-more deeds d one.at other.at leads);
    }

first-more : (deeds : List Deed) (d : Deed) (race : Race) → IsFirst deeds race → IsFirst (deeds ++ d ∷ []) race
first-more deeds d race first =
    let below : race.later.at < length deeds = mark-within deeds race.later first.race.second in
    record {
      race = race-more deeds d race.earlier race.later first.race;
      soonest = λ one other is word. elim (cases_lt other.at (length deeds)) [
        | inl old ↦ first.soonest one other (race-back deeds d one other old is) word
        | inr new ↦ omega (arith, below, new)
      ];
      latest = λ one is. first.latest one (race-back deeds d one race.later below is);
    }

first-back : (deeds : List Deed) (d : Deed) (race : Race) → race.later.at < length deeds →
    IsFirst (deeds ++ d ∷ []) race → IsFirst deeds race
first-back deeds d race below first = record {
  race = race-back deeds d race.earlier race.later below first.race;
  soonest = λ one other is word. first.soonest one other (race-more deeds d one other is) word;
  latest = λ one is. first.latest one (race-more deeds d one race.later is);
}

-- where the new deed is in no race, or its word's race is told already, nothing more is told

pub races-old : (deeds : List Deed) (d : Deed) (races : List Race) →
    ((one other : Mark) → IsRace (deeds ++ d ∷ []) one other → (other.at < length deeds)
    ⊎ ((race : Race) × IsIn race races × (race.later.touch.word ≡ other.touch.word))) →
    AreRaces deeds races → AreRaces (deeds ++ d ∷ []) races
races-old deeds d races none are = record {
  first = λ race is. first-more deeds d race (are.first race is);
  all = λ race first. elim (none race.earlier race.later first.race) [
    | inl below ↦ are.all race (first-back deeds d race below first)
    | inr told ↦
        let old : IsFirst deeds told.0 = are.first told.0 told.1 in
        let within : told.0.later.at < length deeds = mark-within deeds told.0.later old.race.second in
        let soon : race.later.at ≤ told.0.later.at = first.soonest told.0.earlier told.0.later
        (race-more deeds d told.0.earlier told.0.later old.race) told.2 in
        are.all race (first-back deeds d race (omega (arith, soon, within)) first)
  ];
  each = λ one other is. elim (none one other is) [
    | inl below ↦ are.each one other (race-back deeds d one other below is)
    | inr told ↦ told
  ];
}

pub races-untouched : (deeds : List Deed) (d : Deed) (races : List Race) →
    ((touch : Touch) → d.act ≡ Touches touch → ⊥) → AreRaces deeds races → AreRaces (deeds ++ d ∷ []) races
races-untouched deeds d races none are = races-old deeds d races
    (λ one other race. inl (mark-old deeds d other none race.second)) are

-- where it is in a race and none of its word is told, its race with the latest one is told

in-more : {A : Type 0} (x y : A) (xs : List A) → IsIn x xs → IsIn x (xs ++ y ∷ [])
in-more x y xs is = (is.0, get-more xs y is.0 x is.1)

in-last : {A : Type 0} (x : A) (xs : List A) → IsIn x (xs ++ x ∷ [])
in-last x xs = (length xs, get-last xs x)

same-race : (one other : Race) → one.earlier ≡ other.earlier → one.later ≡ other.later → one ≡ other
same-race one other earlier later = ap (λ (m : Mark). let r : Race = record { earlier = m; later = one.later } in r)
    earlier
    ∙ ap (λ (m : Mark). let r : Race = record { earlier = other.earlier; later = m } in r) later

pub races-new : (deeds : List Deed) (new best : Mark) (races : List Race) → new.at ≡ length deeds →
    IsRace (deeds ++ deed_of new ∷ []) best new →
    ((one : Mark) → IsRace (deeds ++ deed_of new ∷ []) one new → one.at ≤ best.at) →
    ((race : Race) → IsIn race races → race.later.touch.word ≡ new.touch.word → ⊥) →
    AreRaces deeds races → AreRaces (deeds ++ deed_of new ∷ []) (races ++ (record { earlier = best; later = new }) ∷ [])
races-new deeds new best races at race latest none are =
    let more : List Deed = deeds ++ deed_of new ∷ [] in
    let told : Race = record { earlier = best; later = new } in
    record {
      first = λ r is. elim (get-cases races told is.0 r is.1) [
        | inl old ↦ first-more deeds (deed_of new) r (are.first r (is.0, old.1))
        | inr last ↦ subst (IsFirst more) (sym last.1) (record {
          race = race;
          soonest = λ one other is word. elim (cases_lt other.at (length deeds)) [
            | inl old ↦ let it = are.each one other (race-back deeds (deed_of new) one other old is) in absurd
                (none it.0 it.1 (it.2 ∙ word))
            | inr late ↦ omega (arith, at, late)
          ];
          latest = latest;
        })
      ];
      all = λ r first. elim (mark-cases deeds new r.later at first.race.second) [
        | inl old ↦ in-more r told races (are.all r (first-back deeds (deed_of new) r old.0 first))
        | inr same ↦
            let mine : IsRace more r.earlier new = subst (IsRace more r.earlier) same first.race in
            let low : r.earlier.at ≤ best.at = latest r.earlier mine in
            let high : best.at ≤ r.earlier.at = first.latest best (subst (IsRace more best) (sym same) race) in
            let one : r.earlier ≡ best = same-mark more r.earlier best mine.first race.first (omega (arith, low, high))
            in
            subst (λ (q : Race). IsIn q (races ++ told ∷ [])) (sym (same-race r told one same)) (in-last told races)
      ];
      each = λ one other is. elim (mark-cases deeds new other at is.second) [
        | inl old ↦ let it = are.each one other (race-back deeds (deed_of new) one other old.0 is) in
            (it.0, in-more it.0 told races it.1, it.2)
        | inr same ↦ (told, in-last told races, ap (λ (m : Mark). m.touch.word) (sym same))
      ];
    }

-- by the clock and the marks

-- a mark is in a race with a new one exactly where they meet and the clock doesn't know it
pub unknown-race : (deeds : List Deed) (new m : Mark) (counts : ℕ → ℕ) → new.at ≡ length deeds →
    Knows (deeds ++ deed_of new ∷ []) (Did new.strand) counts →
    IsOf deeds m → IsUnknown counts new m → IsRace (deeds ++ deed_of new ∷ []) m new
unknown-race deeds new m counts at knows of unknown = record {
  first = mark-more deeds (deed_of new) m of;
  second = new-mark deeds new at;
  earlier = omega (arith, at, mark-within deeds m of);
  meet = unknown.meet;
  unordered = λ leads. absurd (let low : m.at < counts m.strand = knows.all m.at (deed_of m)
      (mark-more deeds (deed_of new) m of) (record {
        k = new.at;
        deed = deed_of new;
        is = new-mark deeds new at;
        that = refl;
        leads = leads;
      }) in omega (arith, low, unknown.unknown));
}

pub race-unknown : (deeds : List Deed) (new m : Mark) (counts : ℕ → ℕ) → new.at ≡ length deeds →
    Knows (deeds ++ deed_of new ∷ []) (Did new.strand) counts →
    IsRace (deeds ++ deed_of new ∷ []) m new → IsUnknown counts new m
race-unknown deeds new m counts at knows race = record {
  meet = race.meet;
  unknown = elim (cases_lt m.at (counts m.strand)) [
    | inr high ↦ high
    | inl low ↦ absurd (race.unordered (subst (Leads (deeds ++ deed_of new ∷ []) m.at) (sym at)
        (led-to-last deeds (deed_of new) m.at (deed_of m) race.first (knows.below m.at (deed_of m) race.first low))))
  ];
}

-- what is unknown has a like one that is unknown too, no earlier
like-unknown : (counts : ℕ → ℕ) (new m last : Mark) → AreLike last m → m.at ≤ last.at → IsUnknown counts new m →
    IsUnknown counts new last
like-unknown counts new m last like late unknown = record {
  meet = subst (λ (t : Touch). meets t new.touch ≡ true) (sym like.touch) unknown.meet;
  unknown = omega (arith, late, unknown.unknown, ap counts like.strand);
}

meets-word : (a b : Touch) → meets a b ≡ true → a.word ≡ b.word
meets-word a b meet = grind (arith, nat_tests)

-- the last race of the new deed, by the marks of its word
race-marked : (deeds : List Deed) (new one : Mark) (counts : ℕ → ℕ) (marks : ℕ → List Mark) (found : Option Mark) →
    new.at ≡ length deeds →
    Knows (deeds ++ deed_of new ∷ []) (Did new.strand) counts → AreMarks deeds marks →
    IsLast counts new (marks new.touch.word) found →
    IsRace (deeds ++ deed_of new ∷ []) one new → (best : Mark) × (found ≡ Some best) × (one.at ≤ best.at)
race-marked deeds new one counts marks found at knows are last race =
    let old : IsOf deeds one = mark-back deeds (deed_of new) one (omega (arith, at, race.earlier)) race.first in
    let it = are.each one old in
    let word : one.touch.word ≡ new.touch.word = meets-word one.touch new.touch race.meet in
    let best = last.last it.0 (subst (λ w. IsIn it.0 (marks w)) word it.1)
    (like-unknown counts new one it.0 it.2 it.3 (race-unknown deeds new one counts at knows race)) in
    (best.0, best.1, omega (arith, it.3, best.2))

-- no race is found
pub races-none : (deeds : List Deed) (new : Mark) (counts : ℕ → ℕ) (marks : ℕ → List Mark) (races : List Race) →
    new.at ≡ length deeds →
    Knows (deeds ++ deed_of new ∷ []) (Did new.strand) counts → AreMarks deeds marks →
    IsLast counts new (marks new.touch.word) None →
    AreRaces deeds races → AreRaces (deeds ++ deed_of new ∷ []) races
races-none deeds new counts marks races at knows are last told = races-old deeds (deed_of new) races
    (λ one other race. elim (mark-cases deeds new other at race.second) [
      | inl old ↦ inl old.0
      | inr same ↦ absurd (let it = race-marked deeds new one counts marks None at knows are last
          (subst (IsRace (deeds ++ deed_of new ∷ []) one) same race) in cc (it.1))
    ]) told

-- one is found, and its word's race is told already
pub races-again : (deeds : List Deed) (new : Mark) (races : List Race) (race : Race) → new.at ≡ length deeds →
    IsIn race races →
    race.later.touch.word ≡ new.touch.word → AreRaces deeds races → AreRaces (deeds ++ deed_of new ∷ []) races
races-again deeds new races race at is word told = races-old deeds (deed_of new) races
    (λ one other it. elim (mark-cases deeds new other at it.second) [
      | inl old ↦ inl old.0
      | inr same ↦ inr (race, is, word ∙ ap (λ (m : Mark). m.touch.word) (sym same))
    ]) told

-- one is found, and its word's race isn't told
pub races-found : (deeds : List Deed) (new best : Mark) (counts : ℕ → ℕ) (marks : ℕ → List Mark) (races : List Race) →
    new.at ≡ length deeds →
    Knows (deeds ++ deed_of new ∷ []) (Did new.strand) counts → AreMarks deeds marks →
    IsLast counts new (marks new.touch.word) (Some best) →
    ((race : Race) → IsIn race races → race.later.touch.word ≡ new.touch.word → ⊥) →
    AreRaces deeds races → AreRaces (deeds ++ deed_of new ∷ []) (races ++ (record { earlier = best; later = new }) ∷ [])
races-found deeds new best counts marks races at knows are last none told =
    races-new deeds new best races at
    (unknown-race deeds new best counts at knows (are.those new.touch.word best last.unknown.0) last.unknown.1)
    (λ one race. let it = race-marked deeds new one counts marks (Some best) at knows are last race in
    let same : best ≡ it.0 = of-some best it.0 it.1 in omega (arith, it.2, ap (λ (m : Mark). m.at) same))
    none told

-- the words of which a race is told, one race more

has-more : (races : List Race) (race : Race) (word : ℕ) → HasRace races word → HasRace (races ++ race ∷ []) word
has-more races race word has = (has.0, in-more has.0 race races has.1, has.2)

has-back : (races : List Race) (race : Race) (word : ℕ) → (race.later.touch.word ≡ word → ⊥) →
    HasRace (races ++ race ∷ []) word → HasRace races word
has-back races race word other has = elim (get-cases races race has.1.0 has.0 has.1.1) [
  | inl old ↦ (has.0, (has.1.0, old.1), has.2)
  | inr last ↦ absurd (other (ap (λ (r : Race). r.later.touch.word) (sym last.1) ∙ has.2))
]

has-last : (races : List Race) (race : Race) (word : ℕ) → race.later.touch.word ≡ word →
    HasRace (races ++ race ∷ []) word
has-last races race word is = (race, in-last race races, is)

differs : (word other : ℕ) → (word ≡ other → ⊥) → nat_eq word other ≡ false
differs word other n = grind (arith, nat_tests)

told-by : (races : List Race) (race : Race) (words new : List ℕ) (word : ℕ) → AreTold races words →
    list_any (nat_eq race.later.touch.word) new ≡ true →
    ((other : ℕ) → nat_eq race.later.touch.word other ≡ false →
    list_any (nat_eq other) new ≡ list_any (nat_eq other) words) →
    (race.later.touch.word ≡ word) ⊎ (race.later.touch.word ≡ word → ⊥) →
    Decides (list_any (nat_eq word) new) (HasRace (races ++ race ∷ []) word)
told-by races race words new word told there elsewhere (inl same) =
    let has : list_any (nat_eq word) new ≡ true = ap (λ w. list_any (nat_eq w) new) (sym same) ∙ there in
    (λ yes. has-last races race word same, λ it. has)
told-by races race words new word told there elsewhere (inr other) =
    let there_was : list_any (nat_eq word) new ≡ list_any (nat_eq word) words = elsewhere word
    (differs race.later.touch.word word other) in (
      λ yes. has-more races race word ((told word).0 (sym there_was ∙ yes)),
      λ it. there_was ∙ (told word).1 (has-back races race word other it),
    )

pub told-more : (races more : List Race) (words new : List ℕ) (race : Race) → AreTold races words →
    more ≡ races ++ race ∷ [] →
    list_any (nat_eq race.later.touch.word) new ≡ true →
    ((other : ℕ) → nat_eq race.later.touch.word other ≡ false →
    list_any (nat_eq other) new ≡ list_any (nat_eq other) words) → AreTold more new
told-more races more words new race told is there elsewhere = subst (λ (rs : List Race). AreTold rs new) (sym is)
    (λ word. told-by races race words new word told there elsewhere (cases_eq race.later.touch.word word))
