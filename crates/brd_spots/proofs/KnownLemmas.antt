-- Places that others cover, and more places.
use Rattle.std.proofs.Common.{◌≡◌, ℕ, zero, suc, ◌+◌, ◌<◌, ◌⊎◌, List, [], ◌∷◌, ◌++◌, length, refl, sym, ap, ◌∙◌, arith}
use Rattle.std.specs.Prelude.{slice_get, Some}
use Rattle.std.proofs.lemmas.List.{append_assoc, append-nil}
use Rattle.std.proofs.lemmas.Option.{slice_get_within}
use Rattle.brd_board.specs.Board.{BoardState}
use Rattle.brd_explore.specs.Schedules.{Place, IsRicher}
use Rattle.brd_spots.specs.declared.spots.Margin.{Margin}
use Rattle.brd_spots.specs.Spots.{spot_of, IsIn, IsMore, IsKnown}

-- Places where no less is left.

pub rich-same : (p : Place) → IsRicher p p
rich-same p = record {
  board = refl;
  last = refl;
  events = omega arith;
  preemptions = omega arith;
  ticks = omega arith;
  raises = omega arith;
  owed = refl;
}

pub rich-then : (one two three : Place) → IsRicher one two → IsRicher two three → IsRicher one three
rich-then one two three first second = record {
  board = first.board ∙ second.board;
  last = first.last ∙ second.last;
  events = omega (arith, first.events, second.events);
  preemptions = omega (arith, first.preemptions, second.preemptions);
  ticks = omega (arith, first.ticks, second.ticks);
  raises = omega (arith, first.raises, second.raises);
  owed = first.owed ∙ second.owed;
}

-- What stands at an index.

pub there-is : {A : Type 0} (xs : List A) (i : ℕ) → i < length xs → (x : A) × (slice_get xs i ≡ Some x)
there-is [] i less = absurd (omega (arith, less))
there-is (x ∷ xs) zero less = (x, refl)
there-is (x ∷ xs) (suc i) less = there-is xs i (omega (arith, less))

pub same-some : (p q : Place) → Some p ≡ Some q → p ≡ q
same-some p q is = cc

pub less-or-same : (n m : ℕ) → n < m + 1 → (n < m) ⊎ (n ≡ m)
less-or-same n m less = grind (arith, less)

-- The place of an index is the one of this board and this margin.
pub here-is : (spots : List Place) (at : ℕ) (b : BoardState) (margin : Margin) → at < length spots →
    ((p : Place) → slice_get spots at ≡ Some p → b ≡ p.board) →
    ((p : Place) → slice_get spots at ≡ Some p → spot_of p.board margin ≡ p) →
    slice_get spots at ≡ Some (spot_of b margin)
here-is spots at b margin within boards margins =
    let found = there-is spots at within in
    found.1 ∙ ap Some (sym (ap (λ c. spot_of c margin) (boards found.0 found.1) ∙ margins found.0 found.1))

-- It is within them.
pub at-within : (spots : List Place) (at : ℕ) (p : Place) → slice_get spots at ≡ Some p → at < length spots
at-within spots at p is = slice_get_within spots at p is

-- More places.

get-more : (xs ys : List Place) (at : ℕ) (spot : Place) → slice_get xs at ≡ Some spot →
    slice_get (xs ++ ys) at ≡ Some spot
get-more [] ys at spot is = let wrong : ⊥ = cc in absurd wrong
get-more (x ∷ xs) ys zero spot is = is
get-more (x ∷ xs) ys (suc at) spot is = get-more xs ys at spot is

get-last : (xs : List Place) (spot : Place) → slice_get (xs ++ spot ∷ []) (length xs) ≡ Some spot
get-last [] spot = refl
get-last (x ∷ xs) spot = get-last xs spot

pub more-same : (spots : List Place) → IsMore spots spots
more-same spots = ([], sym (append-nil spots))

pub more-then : (a b c : List Place) → IsMore a b → IsMore b c → IsMore a c
more-then a b c one two = (one.0 ++ two.0, two.1 ∙ ap (λ xs. xs ++ two.0) one.1 ∙ append_assoc a one.0 two.0)

pub more-by : (a b : List Place) (spot : Place) → b ≡ a ++ spot ∷ [] → IsMore a b
more-by a b spot is = (spot ∷ [], is)

pub spot-more : (old new : List Place) (at : ℕ) (spot : Place) → IsMore old new → slice_get old at ≡ Some spot →
    slice_get new at ≡ Some spot
spot-more old new at spot more is = ap (λ xs. slice_get xs at) more.1 ∙ get-more old more.0 at spot is

in-more : (old new : List Place) (p : Place) → IsMore old new → IsIn old p → IsIn new p
in-more old new p more it = (it.0, spot-more old new it.0 p more it.1)

pub known-more : (old new : List Place) (p : Place) → IsMore old new → IsKnown old p → IsKnown new p
known-more old new p more it =
    record { place = it.place; there = in-more old new it.place more it.there; richer = it.richer }

pub known-last : (old new : List Place) (spot : Place) → new ≡ old ++ spot ∷ [] → IsKnown new spot
known-last old new spot is = record {
  place = spot;
  there = (length old, ap (λ xs. slice_get xs (length old)) is ∙ get-last old spot);
  richer = rich-same spot;
}

-- The first place.
pub begins-known : (old new : List Place) (p : Place) → old ≡ p ∷ [] → IsMore old new → IsKnown new p
begins-known old new p begins more = known-more old new p more (known-last [] old p begins)
