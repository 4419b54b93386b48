-- What is remembered of a place answers for one with less left.
use Rattle.std.proofs.Common.{◌≡◌, ℕ, ◌≤◌, List, [], ◌∷◌, refl, sym, subst, arith, ◌⊎◌, inl, inr}
use Rattle.std.specs.Prelude.{Bool, true, false, ◌&&◌, ◌||◌, nat_le, ◌==◌, None}
use Rattle.std.proofs.lemmas.Bool.{false≢true, and_parts}
use Rattle.std.proofs.lemmas.Bool.Decides.{nat_tests}
use Rattle.brd_board.specs.declared.event.Event.{Event}
use Rattle.brd_explore.specs.declared.wanted.Wanted.{Wanted}
use Rattle.brd_explore.specs.Schedules.{Place}
use Rattle.brd_explore.specs.Sleeping.{Spot, awake, next_spot}
use Rattle.brd_explore.specs.Searching.{FailsAt, Leads, LeadsAwake, NoneGoes}
use Rattle.brd_explore.specs.Knowing.{may_have_more, is_as_much, is_enough, is_more}
use Rattle.brd_explore.proofs.AwakeLemmas.{none-awake}
use Rattle.brd_explore.proofs.PathLemmas.{leads-within, leads-after}
use Rattle.brd_explore.proofs.RichLemmas.{rich-none}

-- Where nobody sleeps every schedule is searched, whoever might sleep.

pub all-lead : (wanted : Wanted) (among : List Event) (spot : Spot) (es : List Event) (to : Place) → LeadsAwake wanted among spot es to → Leads among spot.place es to
all-lead wanted among spot [] to leads = leads
all-lead wanted among spot (e ∷ es) to leads = (leads.0, leads.1, leads.2, all-lead wanted among (next_spot spot e) es to leads.4)

none-anyone : (wanted : Wanted) (among : List Event) (p : Place) (spot : Spot) → spot.place ≡ p → NoneGoes wanted among (awake p) → NoneGoes wanted among spot
none-anyone wanted among p spot same none es to leads fails =
    let on : Leads among p es to = subst (λ x. Leads among x es to) same (all-lead wanted among spot es to leads) in
    none-awake wanted among p none es (leads-within among p es to on) (subst (FailsAt wanted) (sym (leads-after among p es to on)) fails)

equal : (m n : ℕ) → (m == n) ≡ true → m ≡ n
equal m n is = grind (arith, nat_tests, is)

below : (m n : ℕ) → nat_le m n ≡ true → m ≤ n
below m n is = grind (arith, nat_tests, is)

either : (a b : Bool) → (a || b) ≡ true → (a ≡ true) ⊎ (b ≡ true)
either true b is = inl refl
either false b is = inr is

all-four : (a b c d : Bool) → (a && b && c && d) ≡ true → (a ≡ true) × (b ≡ true) × (c ≡ true) × (d ≡ true)
all-four true true true d is = (refl, refl, refl, is)
all-four true true false d is = absurd (false≢true is)
all-four true false c d is = absurd (false≢true is)
all-four false b c d is = absurd (false≢true is)

-- where as much is left
as-much : (wanted : Wanted) (among : List Event) (rich poor : Spot) → rich.place.board ≡ poor.place.board → rich.place.last ≡ poor.place.last →
    rich.asleep ≡ poor.asleep → rich.place.left.owed ≡ poor.place.left.owed → is_as_much rich.place.left poor.place.left ≡ true →
    NoneGoes wanted among rich → NoneGoes wanted among poor
as-much wanted among rich poor board last asleep owed is none =
    let one = rich.place.left in
    let other = poor.place.left in
    let all = all-four (one.events == other.events) (one.preemptions == other.preemptions) (one.ticks == other.ticks) (one.raises == other.raises) is in
    let events = equal one.events other.events all.0 in
    let preemptions = equal one.preemptions other.preemptions all.1 in
    let ticks = equal one.ticks other.ticks all.2 in
    let raises = equal one.raises other.raises all.3 in
    let spot : rich ≡ poor = λ i. record {
      place = record {
        board = board i;
        left = record { events = events i; preemptions = preemptions i; ticks = ticks i; raises = raises i; owed = owed i };
        last = last i;
      };
      asleep = asleep i;
    } in
    subst (NoneGoes wanted among) spot none

-- where more is left
no-less : (wanted : Wanted) (among : List Event) (rich poor : Spot) → may_have_more wanted ≡ true → rich.place.board ≡ poor.place.board →
    rich.place.last ≡ poor.place.last → rich.asleep ≡ poor.asleep → rich.place.left.owed ≡ poor.place.left.owed →
    is_more rich.place.left poor.place.left ≡ true → NoneGoes wanted among rich → NoneGoes wanted among poor
no-less wanted among rich poor may board last asleep owed is none =
    let one = rich.place.left in
    let other = poor.place.left in
    let all = all-four (nat_le other.events one.events) (nat_le other.preemptions one.preemptions) (nat_le other.ticks one.ticks) (nat_le other.raises one.raises) is in
    rich-none wanted among rich poor (equal wanted.rounds 0 may)
    (record {
      board = board;
      last = last;
      events = below other.events one.events all.0;
      preemptions = below other.preemptions one.preemptions all.1;
      ticks = below other.ticks one.ticks all.2;
      raises = below other.raises one.raises all.3;
      owed = owed;
    }) asleep none

-- where as much is left, or more, and the same one sleeps
same-enough : (wanted : Wanted) (among : List Event) (more : Bool) (rich poor : Spot) → (more ≡ true → may_have_more wanted ≡ true) →
    rich.place.board ≡ poor.place.board → rich.place.last ≡ poor.place.last → rich.asleep ≡ poor.asleep → is_enough more rich.place.left poor.place.left ≡ true →
    NoneGoes wanted among rich → NoneGoes wanted among poor
unfolding is_enough
same-enough wanted among more rich poor may board last asleep is none =
    let one = rich.place.left in
    let other = poor.place.left in
    let both = and_parts (one.owed == other.owed) (is_as_much one other || more && is_more one other) is in
    let owed = equal one.owed other.owed both.0 in
    elim (either (is_as_much one other) (more && is_more one other) both.1) [
      | inl same ↦ as-much wanted among rich poor board last asleep owed same none
      | inr enough ↦
          let rest = and_parts more (is_more one other) enough in
          no-less wanted among rich poor (may rest.0) board last asleep owed rest.1 none
    ]

-- the same one sleeps, or nobody
pub none-enough : (wanted : Wanted) (among : List Event) (more : Bool) (rich poor : Spot) → (more ≡ true → may_have_more wanted ≡ true) →
    rich.place.board ≡ poor.place.board → rich.place.last ≡ poor.place.last → (rich.asleep ≡ None) ⊎ (rich.asleep ≡ poor.asleep) →
    is_enough more rich.place.left poor.place.left ≡ true → NoneGoes wanted among rich → NoneGoes wanted among poor
none-enough wanted among more rich poor may board last (inl nobody) is none =
    let spot : Spot = record { place = rich.place; asleep = poor.asleep } in
    let same : rich ≡ awake rich.place = λ i. record { place = rich.place; asleep = nobody i } in
    same-enough wanted among more spot poor may board last refl is
    (none-anyone wanted among rich.place spot refl (subst (NoneGoes wanted among) same none))
none-enough wanted among more rich poor may board last (inr asleep) is none = same-enough wanted among more rich poor may board last asleep is none
