-- Each event is tried at some position.
use Rattle.std.proofs.Common.{◌≡◌, ℕ, suc, ◌+◌, ◌-◌, ◌<◌, ◌≤◌, List, [], ◌∷◌, length, refl, ap, ◌∙◌, arith, inl, inr}
use Rattle.std.specs.Prelude.{Bool, true, false, nat_lt, Option, if◌then◌else◌}
use Rattle.std.proofs.lemmas.Bool.{cases_lt}
use Rattle.std.proofs.lemmas.Bool.Decides.{nat_tests}
use Rattle.brd_board.specs.declared.event.Event.{Event}
use Rattle.brd_explore.specs.Schedules.{IsAmong, event_at}
use Rattle.brd_explore.specs.Ordering.{event_tried, is_own, turned, up_to_own}

first-of : (own : Bool) (n m : ℕ) → n ≤ m → (if own then 1 else 1 + n) ≤ suc m
first-of true n m most = omega arith
first-of false n m most = omega (arith, most)

pub up-most : (last : Option ℕ) (among : List Event) → up_to_own last among ≤ length among
up-most last [] = omega arith
up-most last (e ∷ es) = first-of (is_own last e) (up_to_own last es) (length es) (up-most last es)

-- positions and indices

ahead : (len first at : ℕ) → first + at < len → turned len first at ≡ first + at
ahead len first at less =
    let test : nat_lt (first + at) len ≡ true = grind (arith, nat_tests, less) in
    ap (λ x. if x then first + at else first + at - len) test

around : (len first at : ℕ) → len ≤ first + at → turned len first at ≡ first + at - len
around len first at more =
    let test : nat_lt (first + at) len ≡ false = grind (arith, nat_tests, more) in
    ap (λ x. if x then first + at else first + at - len) test

turned-below : (len first at : ℕ) → first ≤ len → at < len → turned len first at < len
turned-below len first at most below = elim (cases_lt (first + at) len) [
  | inl less ↦ omega (arith, ahead len first at less, less)
  | inr more ↦ omega (arith, around len first at more, more, most, below)
]

-- a position at which an index comes
record IsPosition (len first index : ℕ) : Type 0 where
  at : ℕ
  below : at < len
  is : turned len first at ≡ index

position : (len first index : ℕ) → first ≤ len → index < len → IsPosition len first index
position len first index most below = elim (cases_lt index first) [
  | inl less ↦ record {
    at = index + (len - first);
    below = omega (arith, most, less);
    is = omega (arith, around len first (index + (len - first)) (omega (arith, most)), most);
  }
  | inr more ↦ record {
    at = index - first;
    below = omega (arith, most, more, below);
    is = omega (arith, ahead len first (index - first) (omega (arith, more, below)), more);
  }
]

-- the events that are tried are those that may come

pub tried-among : (among : List Event) (last : Option ℕ) (at : ℕ) → at < length among → IsAmong among (event_tried among last at)
tried-among among last at below = record {
  at = turned (length among) (up_to_own last among) at;
  within = turned-below (length among) (up_to_own last among) at (up-most last among) below;
  is = refl;
}

pub record IsTried (among : List Event) (last : Option ℕ) (event : Event) : Type 0 where
  pub at : ℕ
  pub below : at < length among
  pub is : event_tried among last at ≡ event

pub among-tried : (among : List Event) (last : Option ℕ) (event : Event) → IsAmong among event → IsTried among last event
among-tried among last event one =
    let found = position (length among) (up_to_own last among) one.at (up-most last among) one.within in
    record {
      at = found.at;
      below = found.below;
      is = ap (event_at among) found.is ∙ one.is;
    }
