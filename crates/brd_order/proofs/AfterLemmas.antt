-- What is known after one deed more.
use Rattle.std.proofs.Common.{◌≡◌, ℕ, ◌+◌, ◌<◌, ◌≤◌, List, [], ◌∷◌, ◌++◌, length, length-append, refl, sym, ap, subst}
use Rattle.std.proofs.Common.{◌∙◌, arith, inl, inr}
use Rattle.std.specs.Prelude.{Some, None, ◌⊎◌, Option}
use Rattle.std.proofs.lemmas.Bool.{cases_eq}
use Rattle.std.proofs.lemmas.Option.{slice_get_within}
use Rattle.brd_order.specs.declared.deed.{Act.Act, Deed.Deed, Touch.Touch, Mark.Mark, Race.Race}
use Rattle.brd_order.specs.declared.deed.Act.TheVariants.{Touches, Acquires, Releases, Hears, Heeds}
use Rattle.brd_order.specs.declared.order.Order.{Order}
use Rattle.brd_order.specs.declared.clock.Clock.{Clock}
use Rattle.brd_order.specs.declared.marks.Share.{Share}
use Rattle.brd_order.specs.Order.{Hands, Heard}
use Rattle.brd_order.specs.Clocks.{Knows, Did, Released, Joins, Puts}
use Rattle.brd_order.specs.Races.{deed_of, AreRaces}
use Rattle.brd_order.specs.Marks.{AreMarks, ComesIn, IsLast}
use Rattle.brd_order.specs.Tables.{counts_at, counts_given, marks_at, Gives}
use Rattle.brd_order.specs.After.{AreTold, IsAfter, TellsRace}
use Rattle.brd_order.proofs.OrderLemmas.{get-more, get-last, get-cases, Before, knows-bystander, knows-same}
use Rattle.brd_order.proofs.OrderLemmas.{knows-both, knows-doer, knows-released}
use Rattle.brd_order.proofs.RaceLemmas.{marks-untouched, marks-touched, races-untouched, races-none, races-again}
use Rattle.brd_order.proofs.RaceLemmas.{races-found}

-- who releases into what is acquired from

abbrev HandsThing : Act → Act → Type 0
HandsThing one other = (x : ℕ) × (one ≡ Releases x) × (other ≡ Acquires x)

hands-thing : (one other : Act) → Hands one other → HandsThing one other
hands-thing (Releases x) (Acquires y) h = (x, refl, ap Acquires (sym h))
hands-thing (Releases x) (Touches t) h = absurd h
hands-thing (Releases x) (Releases y) h = absurd h
hands-thing (Releases x) (Hears y) h = absurd h
hands-thing (Releases x) Heeds h = absurd h
hands-thing (Touches t) other h = absurd h
hands-thing (Acquires x) other h = absurd h
hands-thing (Hears x) other h = absurd h
hands-thing Heeds other h = absurd h

same-thing : (x y : ℕ) (act : Act) → act ≡ Acquires x → act ≡ Acquires y → x ≡ y
same-thing x y act e f = cc

same-released : (x y : ℕ) (act : Act) → act ≡ Releases x → act ≡ Releases y → x ≡ y
same-released x y act e f = cc

heeds-acquired : (x : ℕ) (act : Act) → act ≡ Acquires x → act ≡ Heeds → ⊥
heeds-acquired x act e f = cc

-- neither acquires nor heeds
pub record IsPlain (act : Act) : Type 0 where
  pub acquires : (x : ℕ) → act ≡ Acquires x → ⊥
  pub heeds : act ≡ Heeds → ⊥

plain-touch : (t : Touch) (act : Act) → act ≡ Touches t → IsPlain act
plain-touch t act e = record { acquires = λ x f. absurd (cc (e, f)); heeds = λ f. absurd (cc (e, f)) }

plain-hears : (x : ℕ) (act : Act) → act ≡ Hears x → IsPlain act
plain-hears x act e = record { acquires = λ y f. absurd (cc (e, f)); heeds = λ f. absurd (cc (e, f)) }

plain-release : (x : ℕ) (act : Act) → act ≡ Releases x → IsPlain act
plain-release x act e = record { acquires = λ y f. absurd (cc (e, f)); heeds = λ f. absurd (cc (e, f)) }

knows-counts : (deeds : List Deed) (those : ℕ → Deed → Type 0) (old new : ℕ → ℕ) → ((t : ℕ) → new t ≡ old t) →
    Knows deeds those old → Knows deeds those new
knows-counts deeds those old new same knows = record {
  below = λ i e is low. knows.below i e is (subst (λ n. i < n) (same e.strand) low);
  all = λ i e is one. subst (λ n. i < n) (sym (same e.strand)) (knows.all i e is one);
  within = λ t. omega (arith, same t, knows.within t);
}

-- what is ordered before a deed that neither acquires nor heeds

plain-before : (deeds : List Deed) (d : Deed) (k : ℕ) (e : Deed) → IsPlain d.act → Before deeds d k e → Did d.strand k e
plain-before deeds d k e plain (inl same) = same
plain-before deeds d k e plain (inr (inl hands)) = let it = hands-thing e.act d.act hands in absurd
    (plain.acquires it.0 it.2)
plain-before deeds d k e plain (inr (inr heeds)) = absurd (plain.heeds heeds.0)

orders-plain : (deeds : List Deed) (d : Deed) (counts : ℕ → ℕ) → IsPlain d.act → Knows deeds (Did d.strand) counts →
    Knows deeds (Before deeds d) counts
orders-plain deeds d counts plain knows = knows-same deeds (Did d.strand) (Before deeds d) counts
    (λ k e is same. inl same) (λ k e is before. plain-before deeds d k e plain before) knows

-- and before one that acquires

acquired-before : (deeds : List Deed) (d : Deed) (x k : ℕ) (e : Deed) → d.act ≡ Acquires x → Before deeds d k e →
    Did d.strand k e ⊎ Released x k e
acquired-before deeds d x k e is (inl same) = inl same
acquired-before deeds d x k e is (inr (inl hands)) = let it = hands-thing e.act d.act hands in inr
    (it.1 ∙ ap Releases (same-thing it.0 x d.act it.2 is))
acquired-before deeds d x k e is (inr (inr heeds)) = absurd (heeds-acquired x d.act is heeds.0)

before-acquired : (deeds : List Deed) (d : Deed) (x k : ℕ) (e : Deed) → d.act ≡ Acquires x →
    Did d.strand k e ⊎ Released x k e → Before deeds d k e
before-acquired deeds d x k e is (inl same) = inl same
before-acquired deeds d x k e is (inr gave) =
    inr (inl (subst (λ (a : Act). Hands a d.act) (sym gave) (subst (λ (b : Act). Hands (Releases x) b) (sym is) refl)))

orders-acquired : (deeds : List Deed) (d : Deed) (x : ℕ) (own given both : ℕ → ℕ) → d.act ≡ Acquires x →
    Knows deeds (Did d.strand) own → Knows deeds (Released x) given →
    Joins own given both → Knows deeds (Before deeds d) both
orders-acquired deeds d x own given both is mine knows joins = knows-same deeds
    (λ k e. Did d.strand k e ⊎ Released x k e) (Before deeds d) both
    (λ k e in_list either. before-acquired deeds d x k e is either)
    (λ k e in_list before. acquired-before deeds d x k e is before)
    (knows-both deeds (Did d.strand) (Released x) own given both mine knows joins)

-- the clocks of the strands
strands-after : (deeds : List Deed) (d : Deed) (old new : ℕ → ℕ → ℕ) (before : ℕ → ℕ) →
    ((s : ℕ) → Knows deeds (Did s) (old s)) → Knows deeds (Before deeds d) before →
    Puts d.strand (length deeds + 1) before (new d.strand) → ((s : ℕ) → (s ≡ d.strand → ⊥) → (t : ℕ) →
    new s t ≡ old s t) → (s : ℕ) → Knows (deeds ++ d ∷ []) (Did s) (new s)
strands-after deeds d old new before knows orders puts others s = elim (cases_eq s d.strand) [
  | inl own ↦ subst (λ (n : ℕ). Knows (deeds ++ d ∷ []) (Did n) (new n)) (sym own)
      (knows-doer deeds d before (new d.strand) orders puts)
  | inr other ↦ knows-counts (deeds ++ d ∷ []) (Did s) (old s) (new s) (others s other)
      (knows-bystander deeds d (Did s) (old s) (λ is. other (sym is)) (knows s))
]

-- what was released
things-kept : (deeds : List Deed) (d : Deed) (given : ℕ → ℕ → ℕ) → ((x : ℕ) → d.act ≡ Releases x → ⊥) →
    ((x : ℕ) → Knows deeds (Released x) (given x)) → (x : ℕ) →
    Knows (deeds ++ d ∷ []) (Released x) (given x)
things-kept deeds d given none knows x = knows-bystander deeds d (Released x) (given x) (none x) (knows x)

things-given : (deeds : List Deed) (d : Deed) (thing : ℕ) (old new : ℕ → ℕ → ℕ) (own : ℕ → ℕ) → d.act ≡ Releases thing →
    ((x : ℕ) → Knows deeds (Released x) (old x)) →
    Knows (deeds ++ d ∷ []) (Did d.strand) own → Joins (old thing) own (new thing) →
    ((x : ℕ) → (x ≡ thing → ⊥) → (t : ℕ) → new x t ≡ old x t) → (x : ℕ) →
    Knows (deeds ++ d ∷ []) (Released x) (new x)
things-given deeds d thing old new own is knows mine joins others x = elim (cases_eq x thing) [
  | inl same ↦ subst (λ (n : ℕ). Knows (deeds ++ d ∷ []) (Released n) (new n)) (sym same)
      (knows-released deeds d thing (old thing) own (new thing) is (knows thing) mine joins)
  | inr other ↦ knows-counts (deeds ++ d ∷ []) (Released x) (old x) (new x) (others x other)
      (knows-bystander deeds d (Released x) (old x) (λ e. other (same-released x thing d.act e is)) (knows x))
]

-- what a strand has heard

-- a deed that isn't one of its own that hears

heard-next : (deeds : List Deed) (d : Deed) (s k : ℕ) (e : Deed) → (d.strand ≡ s → (x : ℕ) → d.act ≡ Hears x → ⊥) →
    Heard deeds s (length deeds) k e → Heard (deeds ++ d ∷ []) s (length deeds + 1) k e
heard-next deeds d s k e none it = record {
  thing = it.thing;
  at = it.at;
  releases = it.releases;
  heard = record {
    deed = it.heard.deed;
    is = get-more deeds d it.at it.heard.deed it.heard.is;
    own = it.heard.own;
    hears = it.heard.hears;
    earlier = omega (arith, it.heard.earlier);
    last = λ j x other is own hears before. elim (get-cases deeds d j other is) [
      | inl old ↦ it.heard.last j x other old.1 own hears old.0
      | inr last ↦ absurd (none (ap (λ (o : Deed). o.strand) (sym last.1) ∙ own) x
          (ap (λ (o : Deed). o.act) (sym last.1) ∙ hears))
    ];
  };
  in_time = it.in_time;
}

heard-here : (deeds : List Deed) (d : Deed) (s k : ℕ) (e : Deed) → (d.strand ≡ s → (x : ℕ) → d.act ≡ Hears x → ⊥) →
    Heard (deeds ++ d ∷ []) s (length deeds + 1) k e → Heard deeds s (length deeds) k e
heard-here deeds d s k e none it = elim (get-cases deeds d it.at it.heard.deed it.heard.is) [
  | inr last ↦ absurd (none (ap (λ (o : Deed). o.strand) (sym last.1) ∙ it.heard.own) it.thing
      (ap (λ (o : Deed). o.act) (sym last.1) ∙ it.heard.hears))
  | inl old ↦ record {
    thing = it.thing;
    at = it.at;
    releases = it.releases;
    heard = record {
      deed = it.heard.deed;
      is = old.1;
      own = it.heard.own;
      hears = it.heard.hears;
      earlier = old.0;
      last = λ j x other is own hears before.
          it.heard.last j x other (get-more deeds d j other is) own hears (omega (arith, before));
    };
    in_time = it.in_time;
  }
]

-- of the deeds up to the next one
abbrev HeardUpTo : List Deed → ℕ → ℕ → Deed → Type 0
HeardUpTo deeds s = Heard deeds s (length deeds)

up-to : (deeds : List Deed) (d : Deed) (s k : ℕ) (e : Deed) → Heard (deeds ++ d ∷ []) s (length deeds + 1) k e →
    HeardUpTo (deeds ++ d ∷ []) s k e
up-to deeds d s k e it = subst (λ (n : ℕ). Heard (deeds ++ d ∷ []) s n k e) (sym (length-append deeds (d ∷ []))) it

from-up-to : (deeds : List Deed) (d : Deed) (s k : ℕ) (e : Deed) → HeardUpTo (deeds ++ d ∷ []) s k e →
    Heard (deeds ++ d ∷ []) s (length deeds + 1) k e
from-up-to deeds d s k e it = subst (λ (n : ℕ). Heard (deeds ++ d ∷ []) s n k e) (length-append deeds (d ∷ [])) it

last-unheard : (deeds : List Deed) (d : Deed) (s : ℕ) → HeardUpTo (deeds ++ d ∷ []) s (length deeds) d → ⊥
last-unheard deeds d s it = absurd (omega (arith, it.in_time, it.heard.earlier, length-append deeds (d ∷ [])))

heard-kept : (deeds : List Deed) (d : Deed) (s : ℕ) (old new : ℕ → ℕ) → (d.strand ≡ s → (x : ℕ) → d.act ≡ Hears x → ⊥) →
    ((t : ℕ) → new t ≡ old t) →
    Knows deeds (HeardUpTo deeds s) old → Knows (deeds ++ d ∷ []) (HeardUpTo (deeds ++ d ∷ []) s) new
heard-kept deeds d s old new none same knows = knows-bystander deeds d (HeardUpTo (deeds ++ d ∷ []) s) new
    (last-unheard deeds d s)
    (knows-counts deeds (HeardUpTo (deeds ++ d ∷ []) s) old new same
    (knows-same deeds (HeardUpTo deeds s) (HeardUpTo (deeds ++ d ∷ []) s) old
    (λ k e is it. up-to deeds d s k e (heard-next deeds d s k e none it))
    (λ k e is it. heard-here deeds d s k e none (from-up-to deeds d s k e it))
    knows))

-- one of its own that hears

heard-now : (deeds : List Deed) (d : Deed) (thing k : ℕ) (e : Deed) → d.act ≡ Hears thing → k < length deeds →
    e.act ≡ Releases thing →
    Heard (deeds ++ d ∷ []) d.strand (length deeds + 1) k e
heard-now deeds d thing k e is within released = record {
  thing = thing;
  at = length deeds;
  releases = released;
  heard = record {
    deed = d;
    is = get-last deeds d;
    own = refl;
    hears = is;
    earlier = omega arith;
    last = λ j x other in_list own hears before. omega (arith, before);
  };
  in_time = within;
}

same-heard : (x y : ℕ) (act : Act) → act ≡ Hears x → act ≡ Hears y → x ≡ y
same-heard x y act e f = cc

now-heard : (deeds : List Deed) (d : Deed) (thing k : ℕ) (e : Deed) → d.act ≡ Hears thing →
    Heard (deeds ++ d ∷ []) d.strand (length deeds + 1) k e → e.act ≡ Releases thing
now-heard deeds d thing k e is it =
    let late : length deeds ≤ it.at = it.heard.last (length deeds) thing d (get-last deeds d) refl is (omega arith) in
    elim (get-cases deeds d it.at it.heard.deed it.heard.is) [
      | inl old ↦ absurd (omega (arith, old.0, late))
      | inr last ↦ it.releases ∙ ap Releases (same-heard it.thing thing d.act
          (ap (λ (o : Deed). o.act) (sym last.1) ∙ it.heard.hears) is)
    ]

heard-given : (deeds : List Deed) (d : Deed) (thing : ℕ) (given new : ℕ → ℕ) → d.act ≡ Hears thing →
    ((t : ℕ) → new t ≡ given t) →
    Knows deeds (Released thing) given → Knows (deeds ++ d ∷ []) (HeardUpTo (deeds ++ d ∷ []) d.strand) new
heard-given deeds d thing given new is same knows = knows-bystander deeds d (HeardUpTo (deeds ++ d ∷ []) d.strand) new
    (last-unheard deeds d d.strand)
    (knows-counts deeds (HeardUpTo (deeds ++ d ∷ []) d.strand) given new same
    (knows-same deeds (Released thing) (HeardUpTo (deeds ++ d ∷ []) d.strand) given
    (λ k e in_list released. up-to deeds d d.strand k e (heard-now deeds d thing k e is
    (slice_get_within deeds k e in_list) released))
    (λ k e in_list it. now-heard deeds d thing k e is (from-up-to deeds d d.strand k e it))
    knows))

-- what is ordered before a deed that heeds

heeding-before : (deeds : List Deed) (d : Deed) (k : ℕ) (e : Deed) → d.act ≡ Heeds → Before deeds d k e →
    Did d.strand k e ⊎ HeardUpTo deeds d.strand k e
heeding-before deeds d k e is (inl same) = inl same
heeding-before deeds d k e is (inr (inl hands)) = let it = hands-thing e.act d.act hands in absurd
    (heeds-acquired it.0 d.act it.2 is)
heeding-before deeds d k e is (inr (inr heeds)) = inr heeds.1

before-heeding : (deeds : List Deed) (d : Deed) (k : ℕ) (e : Deed) → d.act ≡ Heeds →
    Did d.strand k e ⊎ HeardUpTo deeds d.strand k e → Before deeds d k e
before-heeding deeds d k e is (inl same) = inl same
before-heeding deeds d k e is (inr heard) = inr (inr (is, heard))

orders-heeding : (deeds : List Deed) (d : Deed) (own heard both : ℕ → ℕ) → d.act ≡ Heeds →
    Knows deeds (Did d.strand) own →
    Knows deeds (HeardUpTo deeds d.strand) heard → Joins own heard both → Knows deeds (Before deeds d) both
orders-heeding deeds d own heard both is mine knows joins =
    knows-same deeds (λ k e. Did d.strand k e ⊎ HeardUpTo deeds d.strand k e) (Before deeds d) both
    (λ k e in_list either. before-heeding deeds d k e is either)
    (λ k e in_list before. heeding-before deeds d k e is before)
    (knows-both deeds (Did d.strand) (HeardUpTo deeds d.strand) own heard both mine knows joins)

heard-others : (deeds : List Deed) (d : Deed) (thing : ℕ) (old new : ℕ → ℕ → ℕ) → d.act ≡ Hears thing →
    Knows (deeds ++ d ∷ []) (HeardUpTo (deeds ++ d ∷ []) d.strand) (new d.strand) →
    ((s : ℕ) → (s ≡ d.strand → ⊥) → (t : ℕ) → new s t ≡ old s t) → ((s : ℕ) → Knows deeds (HeardUpTo deeds s) (old s)) →
    (s : ℕ) →
    Knows (deeds ++ d ∷ []) (HeardUpTo (deeds ++ d ∷ []) s) (new s)
heard-others deeds d thing old new is mine others knows s = elim (cases_eq s d.strand) [
  | inl own ↦ subst (λ (n : ℕ). Knows (deeds ++ d ∷ []) (HeardUpTo (deeds ++ d ∷ []) n) (new n)) (sym own) mine
  | inr other ↦ heard-kept deeds d s (old s) (new s) (λ same. absurd (other (sym same))) (others s other) (knows s)
]

-- a deed that touches nothing

touch-acquired : (x : ℕ) (act : Act) → act ≡ Acquires x → (t : Touch) → act ≡ Touches t → ⊥
touch-acquired x act e t f = cc

touch-released : (x : ℕ) (act : Act) → act ≡ Releases x → (t : Touch) → act ≡ Touches t → ⊥
touch-released x act e t f = cc

touch-hears : (x : ℕ) (act : Act) → act ≡ Hears x → (t : Touch) → act ≡ Touches t → ⊥
touch-hears x act e t f = cc

touch-heeds : (act : Act) → act ≡ Heeds → (t : Touch) → act ≡ Touches t → ⊥
touch-heeds act e t f = cc

pub record LeavesTouches (old new : Order) : Type 0 where
  pub marks : new.marks.shares.items ≡ old.marks.shares.items
  pub races : new.races.told.items ≡ old.races.told.items
  pub words : new.races.words.keys ≡ old.races.words.keys

marks-left : (deeds : List Deed) (d : Deed) (old new : Order) → ((t : Touch) → d.act ≡ Touches t → ⊥) →
    IsAfter deeds old → LeavesTouches old new →
    AreMarks (deeds ++ d ∷ []) (marks_at new.marks.shares.items)
marks-left deeds d old new none after left = subst (λ (ms : List Share). AreMarks (deeds ++ d ∷ []) (marks_at ms))
    (sym left.marks)
    (marks-untouched deeds d (marks_at old.marks.shares.items) none after.marks)

races-left : (deeds : List Deed) (d : Deed) (old new : Order) → ((t : Touch) → d.act ≡ Touches t → ⊥) →
    IsAfter deeds old → LeavesTouches old new →
    AreRaces (deeds ++ d ∷ []) new.races.told.items
races-left deeds d old new none after left =
    subst (AreRaces (deeds ++ d ∷ [])) (sym left.races) (races-untouched deeds d old.races.told.items none after.races)

words-left : (deeds : List Deed) (old new : Order) → IsAfter deeds old → LeavesTouches old new →
    AreTold new.races.told.items new.races.words.keys
words-left deeds old new after left = subst (λ (races : List Race). AreTold races new.races.words.keys) (sym left.races)
    (subst (AreTold old.races.told.items) (sym left.words) after.words)

-- a deed that releases nothing

released-acquired : (x : ℕ) (act : Act) → act ≡ Acquires x → (y : ℕ) → act ≡ Releases y → ⊥
released-acquired x act e y f = cc

released-hears : (x : ℕ) (act : Act) → act ≡ Hears x → (y : ℕ) → act ≡ Releases y → ⊥
released-hears x act e y f = cc

released-heeds : (act : Act) → act ≡ Heeds → (y : ℕ) → act ≡ Releases y → ⊥
released-heeds act e y f = cc

released-touch : (t : Touch) (act : Act) → act ≡ Touches t → (y : ℕ) → act ≡ Releases y → ⊥
released-touch t act e y f = cc

things-left : (deeds : List Deed) (d : Deed) (old new : Order) → ((x : ℕ) → d.act ≡ Releases x → ⊥) →
    IsAfter deeds old →
    new.things.given.entries ≡ old.things.given.entries → (x : ℕ) →
    Knows (deeds ++ d ∷ []) (Released x) (counts_given new.things.given.entries x)
things-left deeds d old new none after things x =
    subst (λ (given : List (ℕ × Clock)). Knows (deeds ++ d ∷ []) (Released x) (counts_given given x)) (sym things)
    (things-kept deeds d (counts_given old.things.given.entries) none after.things x)

-- a deed that hears nothing

hears-acquired : (x : ℕ) (act : Act) → act ≡ Acquires x → (y : ℕ) → act ≡ Hears y → ⊥
hears-acquired x act e y f = cc

hears-released : (x : ℕ) (act : Act) → act ≡ Releases x → (y : ℕ) → act ≡ Hears y → ⊥
hears-released x act e y f = cc

hears-heeds : (act : Act) → act ≡ Heeds → (y : ℕ) → act ≡ Hears y → ⊥
hears-heeds act e y f = cc

hears-touch : (t : Touch) (act : Act) → act ≡ Touches t → (y : ℕ) → act ≡ Hears y → ⊥
hears-touch t act e y f = cc

heard-left : (deeds : List Deed) (d : Deed) (old new : Order) → ((x : ℕ) → d.act ≡ Hears x → ⊥) → IsAfter deeds old →
    ((s t : ℕ) → counts_at new.heard.clocks.items s t ≡ counts_at old.heard.clocks.items s t) → (s : ℕ) →
    Knows (deeds ++ d ∷ []) (HeardUpTo (deeds ++ d ∷ []) s) (counts_at new.heard.clocks.items s)
heard-left deeds d old new none after same s =
    heard-kept deeds d s (counts_at old.heard.clocks.items s) (counts_at new.heard.clocks.items s) (λ own. none)
    (same s) (after.heard s)

-- A strand's clock before a deed, after it was made room for, after it acquired, and after the deed.

pub record HasDone (strand count : ℕ) (old new : ℕ → ℕ → ℕ) : Type 0 where
  pub puts : Puts strand count (old strand) (new strand)
  pub others : (s : ℕ) → (s ≡ strand → ⊥) → (t : ℕ) → new s t ≡ old s t

strands-done : (deeds : List Deed) (d : Deed) (old new : Order) (first second : ℕ → ℕ → ℕ) → IsAfter deeds old →
    ((s t : ℕ) → first s t ≡ counts_at old.strands.clocks.items s t) → Knows deeds (Before deeds d) (second d.strand) →
    ((s : ℕ) → (s ≡ d.strand → ⊥) → (t : ℕ) → second s t ≡ first s t) →
    HasDone d.strand (old.count + 1) second (counts_at new.strands.clocks.items) → (s : ℕ) →
    Knows (deeds ++ d ∷ []) (Did s) (counts_at new.strands.clocks.items s)
strands-done deeds d old new first second after room knows others done =
    strands-after deeds d (counts_at old.strands.clocks.items) (counts_at new.strands.clocks.items) (second d.strand)
    after.strands knows
    (subst (λ n. Puts d.strand (n + 1) (second d.strand) (counts_at new.strands.clocks.items d.strand)) after.count
    done.puts)
    (λ s n t. done.others s n t ∙ (others s n t ∙ room s t))

-- the strand's own clock after it was made room for
own-first : (deeds : List Deed) (d : Deed) (old : Order) (first : ℕ → ℕ → ℕ) → IsAfter deeds old →
    ((s t : ℕ) → first s t ≡ counts_at old.strands.clocks.items s t) → Knows deeds (Did d.strand) (first d.strand)
own-first deeds d old first after room =
    knows-counts deeds (Did d.strand) (counts_at old.strands.clocks.items d.strand) (first d.strand) (room d.strand)
    (after.strands d.strand)

strands-plain : (deeds : List Deed) (d : Deed) (old new : Order) (first : ℕ → ℕ → ℕ) → IsPlain d.act →
    IsAfter deeds old →
    ((s t : ℕ) → first s t ≡ counts_at old.strands.clocks.items s t) →
    HasDone d.strand (old.count + 1) first (counts_at new.strands.clocks.items) → (s : ℕ) →
    Knows (deeds ++ d ∷ []) (Did s) (counts_at new.strands.clocks.items s)
strands-plain deeds d old new first plain after room done = strands-done deeds d old new first first after room
    (orders-plain deeds d (first d.strand) plain (own-first deeds d old first after room)) (λ s n t. refl) done

counted : (deeds : List Deed) (d : Deed) (old new : Order) → IsAfter deeds old → new.count ≡ old.count + 1 →
    new.count ≡ length (deeds ++ d ∷ [])
counted deeds d old new after count = omega (arith, count, after.count, length-append deeds (d ∷ []))

heard-same : (old new : Order) → new.heard.clocks.items ≡ old.heard.clocks.items → (s t : ℕ) →
    counts_at new.heard.clocks.items s t ≡ counts_at old.heard.clocks.items s t
heard-same old new same s t = ap (λ (clocks : List Clock). counts_at clocks s t) same

pub after-acquire : (deeds : List Deed) (d : Deed) (thing : ℕ) (old new : Order) (first second : ℕ → ℕ → ℕ) →
    IsAfter deeds old → d.act ≡ Acquires thing →
    ((s t : ℕ) → first s t ≡ counts_at old.strands.clocks.items s t) →
    Joins (first d.strand) (counts_given old.things.given.entries thing) (second d.strand) →
    ((s : ℕ) → (s ≡ d.strand → ⊥) → (t : ℕ) → second s t ≡ first s t) →
    HasDone d.strand (old.count + 1) second (counts_at new.strands.clocks.items) →
    new.count ≡ old.count + 1 → new.heard.clocks.items ≡ old.heard.clocks.items →
    new.things.given.entries ≡ old.things.given.entries →
    LeavesTouches old new → IsAfter (deeds ++ d ∷ []) new
after-acquire deeds d thing old new first second after is room joins others done count heard things left = record {
  count = counted deeds d old new after count;
  strands = strands-done deeds d old new first second after room (orders-acquired deeds d thing (first d.strand)
      (counts_given old.things.given.entries thing) (second d.strand) is (own-first deeds d old first after room)
      (after.things thing) joins) others done;
  heard = heard-left deeds d old new (hears-acquired thing d.act is) after (heard-same old new heard);
  things = things-left deeds d old new (released-acquired thing d.act is) after things;
  marks = marks-left deeds d old new (touch-acquired thing d.act is) after left;
  races = races-left deeds d old new (touch-acquired thing d.act is) after left;
  words = words-left deeds old new after left;
}

pub after-release : (deeds : List Deed) (d : Deed) (thing : ℕ) (old new : Order) (first : ℕ → ℕ → ℕ) (own : ℕ → ℕ) →
    IsAfter deeds old → d.act ≡ Releases thing →
    ((s t : ℕ) → first s t ≡ counts_at old.strands.clocks.items s t) →
    HasDone d.strand (old.count + 1) first (counts_at new.strands.clocks.items) →
    ((t : ℕ) → own t ≡ counts_at new.strands.clocks.items d.strand t) →
    Gives thing own old.things.given.entries new.things.given.entries →
    new.count ≡ old.count + 1 → new.heard.clocks.items ≡ old.heard.clocks.items → LeavesTouches old new →
    IsAfter (deeds ++ d ∷ []) new
after-release deeds d thing old new first own after is room done clock gives count heard left =
    let strands : (s : ℕ) → Knows (deeds ++ d ∷ []) (Did s) (counts_at new.strands.clocks.items s) =
    strands-plain deeds d old new first (plain-release thing d.act is) after room done in
    record {
      count = counted deeds d old new after count;
      strands = strands;
      heard = heard-left deeds d old new (hears-released thing d.act is) after (heard-same old new heard);
      things = things-given deeds d thing (counts_given old.things.given.entries)
          (counts_given new.things.given.entries) own is after.things
          (knows-counts (deeds ++ d ∷ []) (Did d.strand) (counts_at new.strands.clocks.items d.strand) own clock
          (strands d.strand)) gives.joins gives.others;
      marks = marks-left deeds d old new (touch-released thing d.act is) after left;
      races = races-left deeds d old new (touch-released thing d.act is) after left;
      words = words-left deeds old new after left;
    }

pub after-hear : (deeds : List Deed) (d : Deed) (thing : ℕ) (old new : Order) (first heard : ℕ → ℕ → ℕ) →
    IsAfter deeds old → d.act ≡ Hears thing →
    ((s t : ℕ) → first s t ≡ counts_at old.strands.clocks.items s t) →
    HasDone d.strand (old.count + 1) first (counts_at new.strands.clocks.items) →
    ((s t : ℕ) → heard s t ≡ counts_at old.heard.clocks.items s t) →
    ((t : ℕ) → counts_at new.heard.clocks.items d.strand t ≡ counts_given old.things.given.entries thing t) →
    ((s : ℕ) → (s ≡ d.strand → ⊥) → (t : ℕ) → counts_at new.heard.clocks.items s t ≡ heard s t) →
    new.count ≡ old.count + 1 → new.things.given.entries ≡ old.things.given.entries → LeavesTouches old new →
    IsAfter (deeds ++ d ∷ []) new
after-hear deeds d thing old new first heard after is room done roomy hears others count things left = record {
  count = counted deeds d old new after count;
  strands = strands-plain deeds d old new first (plain-hears thing d.act is) after room done;
  heard = heard-others deeds d thing (counts_at old.heard.clocks.items) (counts_at new.heard.clocks.items) is
      (heard-given deeds d thing (counts_given old.things.given.entries thing)
      (counts_at new.heard.clocks.items d.strand) is hears (after.things thing))
      (λ s n t. others s n t ∙ roomy s t) after.heard;
  things = things-left deeds d old new (released-hears thing d.act is) after things;
  marks = marks-left deeds d old new (touch-hears thing d.act is) after left;
  races = races-left deeds d old new (touch-hears thing d.act is) after left;
  words = words-left deeds old new after left;
}

pub after-heed : (deeds : List Deed) (d : Deed) (old new : Order) (first second : ℕ → ℕ → ℕ) (heard : ℕ → ℕ) →
    IsAfter deeds old → d.act ≡ Heeds →
    ((s t : ℕ) → first s t ≡ counts_at old.strands.clocks.items s t) → Joins (first d.strand) heard (second d.strand) →
    ((s : ℕ) → (s ≡ d.strand → ⊥) → (t : ℕ) → second s t ≡ first s t) →
    HasDone d.strand (old.count + 1) second (counts_at new.strands.clocks.items) →
    ((s t : ℕ) → counts_at new.heard.clocks.items s t ≡ counts_at old.heard.clocks.items s t) →
    ((t : ℕ) → heard t ≡ counts_at new.heard.clocks.items d.strand t) →
    new.count ≡ old.count + 1 → new.things.given.entries ≡ old.things.given.entries → LeavesTouches old new →
    IsAfter (deeds ++ d ∷ []) new
after-heed deeds d old new first second heard after is room joins others done roomy clock count things left = record {
  count = counted deeds d old new after count;
  strands = strands-done deeds d old new first second after room
      (orders-heeding deeds d (first d.strand) heard (second d.strand) is
      (own-first deeds d old first after room)
      (knows-counts deeds (HeardUpTo deeds d.strand) (counts_at old.heard.clocks.items d.strand) heard
      (λ t. clock t ∙ roomy d.strand t)
      (after.heard d.strand)) joins) others done;
  heard = heard-left deeds d old new (hears-heeds d.act is) after roomy;
  things = things-left deeds d old new (released-heeds d.act is) after things;
  marks = marks-left deeds d old new (touch-heeds d.act is) after left;
  races = races-left deeds d old new (touch-heeds d.act is) after left;
  words = words-left deeds old new after left;
}

races-told : (deeds : List Deed) (new : Mark) (counts : ℕ → ℕ) (marks : ℕ → List Mark) (found : Option Mark)
    (old races : List Race) → new.at ≡ length deeds →
    Knows (deeds ++ deed_of new ∷ []) (Did new.strand) counts → AreMarks deeds marks →
    IsLast counts new (marks new.touch.word) found → TellsRace found new old races →
    AreRaces deeds old → AreRaces (deeds ++ deed_of new ∷ []) races
races-told deeds new counts marks None old races at knows are last tells told =
    subst (AreRaces (deeds ++ deed_of new ∷ [])) (sym tells) (races-none deeds new counts marks old at knows are last
    told)
races-told deeds new counts marks (Some best) old races at knows are last (inl again) told =
    subst (AreRaces (deeds ++ deed_of new ∷ [])) (sym again.1)
    (races-again deeds new old again.0.0 at again.0.1 again.0.2 told)
races-told deeds new counts marks (Some best) old races at knows are last (inr fresh) told =
    subst (AreRaces (deeds ++ deed_of new ∷ [])) (sym fresh.1)
    (races-found deeds new best counts marks old at knows are last (λ race is word. fresh.0 (race, is, word)) told)

pub after-touch : (deeds : List Deed) (mark : Mark) (old new : Order) (first : ℕ → ℕ → ℕ) (own : ℕ → ℕ)
    (found : Option Mark) → IsAfter deeds old → mark.at ≡ old.count →
    ((s t : ℕ) → first s t ≡ counts_at old.strands.clocks.items s t) →
    HasDone mark.strand (old.count + 1) first (counts_at new.strands.clocks.items) →
    ((t : ℕ) → own t ≡ counts_at new.strands.clocks.items mark.strand t) →
    IsLast own mark (marks_at old.marks.shares.items mark.touch.word) found →
    TellsRace found mark old.races.told.items new.races.told.items → AreTold new.races.told.items new.races.words.keys →
    ComesIn mark (marks_at old.marks.shares.items) (marks_at new.marks.shares.items) →
    new.count ≡ old.count + 1 → new.heard.clocks.items ≡ old.heard.clocks.items →
    new.things.given.entries ≡ old.things.given.entries →
    IsAfter (deeds ++ deed_of mark ∷ []) new
after-touch deeds mark old new first own found after at room done clock last tells words comes count heard things =
    let d : Deed = deed_of mark in
    let here : mark.at ≡ length deeds = at ∙ after.count in
    let strands : (s : ℕ) → Knows (deeds ++ d ∷ []) (Did s) (counts_at new.strands.clocks.items s) =
    strands-plain deeds d old new first (plain-touch mark.touch d.act refl) after room done in
    record {
      count = counted deeds d old new after count;
      strands = strands;
      heard = heard-left deeds d old new (hears-touch mark.touch d.act refl) after (heard-same old new heard);
      things = things-left deeds d old new (released-touch mark.touch d.act refl) after things;
      marks = marks-touched deeds mark (marks_at old.marks.shares.items) (marks_at new.marks.shares.items) here
          after.marks comes;
      races = races-told deeds mark own (marks_at old.marks.shares.items) found old.races.told.items
          new.races.told.items here
          (knows-counts (deeds ++ d ∷ []) (Did d.strand) (counts_at new.strands.clocks.items d.strand) own clock
          (strands d.strand)) after.marks last tells after.races;
      words = words;
    }
