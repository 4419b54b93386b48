-- Lists of events that are played event by event.
use Rattle.std.proofs.Common.{◌≡◌, ℕ, suc, ◌+◌, ◌<◌, ◌≤◌, inl, inr, Bool, true, List, [], ◌∷◌, ◌++◌, length, refl, sym}
use Rattle.std.proofs.Common.{ap, subst, ◌∙◌, arith}
use Rattle.std.specs.Prelude.{not, nat_lt, if◌then◌else◌, take, get_or, Option}
use Rattle.std.proofs.lemmas.Bool.{cases_Bool, and_parts, ltb-true}
use Rattle.std.proofs.lemmas.List.{take_more}
use Rattle.brd_board.specs.declared.event.Event.{Event}
use Rattle.brd_board.specs.declared.event.Event.TheVariants.{Step, Tick, Raise}
use Rattle.brd_board.specs.Board.{BoardState, Happened, happens}
use Rattle.brd_journal.specs.Still.{did_nothing}
use Rattle.brd_explore.specs.declared.bounds.Bounds.{Bounds}
use Rattle.brd_explore.specs.Schedules.{Place, does, stepper, affords, affords_one, spent, is_left, next, place_after}
use Rattle.brd_explore.specs.Schedules.{IsAmong, IsWithin}
use Rattle.brd_spots.specs.Playing.{IsPlayed}

-- One list after the other.

pub place-then : (p : Place) (es more : List Event) → place_after p (es ++ more) ≡ place_after (place_after p es) more
place-then p [] more = refl
place-then p (e ∷ es) more = elim (cases_Bool (does p.board e)) [
  | inl did ↦
      subst (λ test. (if test then place_after (next p e) (es ++ more) else place_after p (es ++ more))
      ≡ place_after (if test then place_after (next p e) es else place_after p es) more) (sym did)
      (place-then (next p e) es more)
  | inr none ↦
      subst (λ test. (if test then place_after (next p e) (es ++ more) else place_after p (es ++ more))
      ≡ place_after (if test then place_after (next p e) es else place_after p es) more) (sym none)
      (place-then p es more)
]

pub within-then : (among : List Event) (p : Place) (es more : List Event) → IsWithin among p es →
    IsWithin among (place_after p es) more → IsWithin among p (es ++ more)
within-then among p [] more first second = second
within-then among p (e ∷ es) more first second = (
  (λ did. (
    (first.0 did).0,
    (first.0 did).1,
    within-then among (next p e) es more (first.0 did).2
        (subst (λ test. IsWithin among (if test then place_after (next p e) es else place_after p es) more) did second),
  )),
  (λ none. within-then among p es more (first.1 none)
      (subst (λ test. IsWithin among (if test then place_after (next p e) es else place_after p es) more) none second)),
)

-- Whether an event does something, by its report.
pub done-nothing : (b c : BoardState) (event : Event) (done : Happened) (nothing : Bool) → done ≡ happens c event →
    c ≡ b → nothing ≡ did_nothing done.report → does b event ≡ not nothing
unfolding does
done-nothing b c event done nothing is same what =
    ap (λ (x : BoardState). not (did_nothing (happens x event).report)) (sym same)
    ∙ ap (λ (h : Happened). not (did_nothing h.report)) (sym is)
    ∙ ap not (sym what)

-- The next place, by its parts.
pub next-is : (p : Place) (event : Event) (b : BoardState) (left : Bounds) (last : Option ℕ) →
    b ≡ (happens p.board event).board → left ≡ spent p.left p.last event → last ≡ stepper b p.last event →
    next p event ≡ record { board = b; left = left; last = last }
next-is p event b left last board rest who = λ i. record {
  board = sym board i;
  left = sym rest i;
  last = sym (who ∙ ap (λ z. stepper z p.last event) board) i;
}

-- An event is played, by what is known of the next place.
pub played-so : (among : List Event) (p : Place) (event : Event) (b : BoardState) (left : Bounds) (last : Option ℕ) →
    IsAmong among event → is_left p event ≡ true → does p.board event ≡ true → b ≡ (happens p.board event).board →
    left ≡ spent p.left p.last event → last ≡ stepper b p.last event →
    IsPlayed among p event (record { board = b; left = left; last = last })
played-so among p event b left last one affords did board rest who =
    record { one = one; left = affords; did = did; is = next-is p event b left last board rest who }

-- A schedule that is played: it is within the bounds so far, and has led to a place.
pub record HasPlayed (among : List Event) (from : Place) (events : List Event) (upto : ℕ) (p : Place) : Type 0 where
  pub within : IsWithin among from (take upto events)
  pub is : place_after from (take upto events) ≡ p
  pub few : upto + p.left.events ≤ from.left.events

some-events : (p : Place) (event : Event) → is_left p event ≡ true → 0 < p.left.events
unfolding affords
some-events p event is =
    ltb-true 0 p.left.events (and_parts (nat_lt 0 p.left.events) (affords_one p.left p.last event) is).0

fewer : (p : Place) (event : Event) → is_left p event ≡ true → suc (next p event).left.events ≤ p.left.events
unfolding spent
fewer p (Step cpu) left = omega (arith, some-events p (Step cpu) left)
fewer p Tick left = omega (arith, some-events p Tick left)
fewer p (Raise line) left = omega (arith, some-events p (Raise line) left)

-- the events up to one more
pub take-next : (events : List Event) (upto : ℕ) (event : Event) → upto < length events →
    get_or events upto event ≡ event → take (upto + 1) events ≡ take upto events ++ event ∷ []
take-next events upto event less here =
    take_more events upto event less ∙ ap (λ e. take upto events ++ e ∷ []) here

played-next : (among : List Event) (from p : Place) (events : List Event) (upto : ℕ) (event : Event) →
    upto < length events → get_or events upto event ≡ event → HasPlayed among from events upto p →
    IsPlayed among p event (next p event) → HasPlayed among from events (upto + 1) (next p event)
played-next among from p events upto event less here it one =
    let more : take (upto + 1) events ≡ take upto events ++ event ∷ [] = take-next events upto event less here in
    record {
      within = subst (IsWithin among from) (sym more)
          (within-then among from (take upto events) (event ∷ []) it.within
          (subst (λ q. IsWithin among q (event ∷ [])) (sym it.is) ((λ did. (one.one, one.left, tt)), (λ none. tt))));
      is = ap (place_after from) more ∙ place-then from (take upto events) (event ∷ [])
          ∙ ap (λ q. place_after q (event ∷ [])) it.is ∙ ap (λ test. if test then next p event else p) one.did;
      few = omega (arith, it.few, fewer p event one.left);
    }

-- One event more was played.
pub played-on : (among : List Event) (from p to : Place) (events : List Event) (upto : ℕ) (event : Event) →
    upto < length events → get_or events upto event ≡ event → HasPlayed among from events upto p →
    IsPlayed among p event to → HasPlayed among from events (upto + 1) to
played-on among from p to events upto event less here it one =
    subst (HasPlayed among from events (upto + 1)) one.is
    (played-next among from p events upto event less here it
    (record { one = one.one; left = one.left; did = one.did; is = refl }))
