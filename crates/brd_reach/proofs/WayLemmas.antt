-- Schedules without their events that do nothing.
use Rattle.std.proofs.Common.{◌≡◌, List, [], ◌∷◌, refl, sym, subst, inl, inr}
use Rattle.std.specs.Prelude.{true, if◌then◌else◌, nat_lt}
use Rattle.std.proofs.lemmas.Bool.{cases_Bool, and_parts, ltb-true}
use Rattle.brd_board.specs.declared.event.Event.{Event}
use Rattle.brd_board.specs.declared.event.Event.TheVariants.{Step, Tick, Raise}
use Rattle.brd_board.specs.Board.{after}
use Rattle.brd_explore.specs.declared.bounds.Bounds.{Bounds}
use Rattle.brd_explore.specs.Schedules.{Place, does, affords, spent, is_left, next, place_after, IsAmong, IsWithin}
use Rattle.brd_frames.specs.Reducing.{PayAll}
use Rattle.brd_places.specs.declared.left.Left.{Left}
use Rattle.brd_reach.specs.Reaching.{pays}

abbrev pub left_of : Bounds → Left
left_of bounds = record { ticks = bounds.ticks; raises = bounds.raises; owed = bounds.owed }

-- Events lead from a place to another one, and take what lies between them.
pub record Way (among : List Event) (p to : Place) : Type 0 where
  pub done : List Event
  pub pays : PayAll Left (pays among) (left_of p.left) done (left_of to.left)
  pub is : after p.board done ≡ to.board

pays-one : (among : List Event) (p : Place) (e : Event) → IsAmong among e → is_left p e ≡ true →
    pays among (left_of p.left) e (left_of (next p e).left)
unfolding affords spent
pays-one among p (Step cpu) it left = (refl, it)
pays-one among p Tick it left =
    (it, ltb-true 0 p.left.ticks (and_parts (nat_lt 0 p.left.events) (nat_lt 0 p.left.ticks) left).1, refl)
pays-one among p (Raise line) it left =
    (it, ltb-true 0 p.left.raises (and_parts (nat_lt 0 p.left.events) (nat_lt 0 p.left.raises) left).1, refl)

-- one that does something comes first
way-on : (among : List Event) (p to : Place) (e : Event) → IsAmong among e → is_left p e ≡ true → Way among (next p e) to → Way among p to
way-on among p to e it left rest = record {
  done = e ∷ rest.done;
  pays = (left_of (next p e).left, pays-one among p e it left, rest.pays);
  is = rest.is;
}

-- the events of a schedule within bounds that do something
pub way : (among : List Event) (p : Place) (es : List Event) → IsWithin among p es → Way among p (place_after p es)
way among p [] within = record { done = []; pays = refl; is = refl }
way among p (e ∷ es) within = elim (cases_Bool (does p.board e)) [
  | inl did ↦
      subst (λ test. Way among p (if test then place_after (next p e) es else place_after p es)) (sym did)
      (way-on among p (place_after (next p e) es) e (within.0 did).0 (within.0 did).1 (way among (next p e) es (within.0 did).2))
  | inr none ↦
      subst (λ test. Way among p (if test then place_after (next p e) es else place_after p es)) (sym none)
      (way among p es (within.1 none))
]
