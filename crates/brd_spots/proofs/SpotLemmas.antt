-- Places as a search keeps them.
use Rattle.std.proofs.Common.{◌≡◌, ℕ, zero, suc, ◌<◌, List, [], ◌∷◌, ◌++◌, length, refl, sym, ap, subst, ◌∙◌, arith}
use Rattle.std.proofs.Common.{length-append}
use Rattle.std.specs.Prelude.{slice_get, Some, Bool, true, false, Result, Ok, Err, is_err, IfOk, OnOk, OnErr}
use Rattle.std.proofs.lemmas.Bool.{false≢true}
use Rattle.brd_base.specs.declared.no_memory.NoMemory.{NoMemory}
use Rattle.brd_board.specs.Board.{BoardState}
use Rattle.brd_explore.specs.Schedules.{Place, IsRicher}
use Rattle.brd_places.specs.Places as kept
use Rattle.brd_spots.specs.declared.spots.Margin.{Margin}
use Rattle.brd_spots.specs.Spots.{spot_of, spots_of, IsKnown, IsMore}
use Rattle.brd_spots.proofs.KnownLemmas.{known-last, more-by, more-same, same-some, there-is}

pub spots-length : (boards : List kept.Place) (margins : List Margin) → length boards ≡ length margins →
    length (spots_of boards margins) ≡ length margins
spots-length [] [] same = refl
spots-length [] (margin ∷ margins) same = same
spots-length (place ∷ boards) [] same = absurd (omega (arith, same))
spots-length (place ∷ boards) (margin ∷ margins) same = ap suc (spots-length boards margins (omega (arith, same)))

-- one place more
pub spots-more : (boards : List kept.Place) (margins : List Margin) (place : kept.Place) (margin : Margin) →
    length boards ≡ length margins →
    spots_of (boards ++ place ∷ []) (margins ++ margin ∷ [])
    ≡ spots_of boards margins ++ spot_of place.board margin ∷ []
spots-more [] [] place margin same = refl
spots-more [] (first ∷ margins) place margin same = absurd (omega (arith, same))
spots-more (first ∷ boards) [] place margin same = absurd (omega (arith, same))
spots-more (first ∷ boards) (other ∷ margins) place margin same =
    ap (λ (spots : List Place). spot_of first.board other ∷ spots)
    (spots-more boards margins place margin (omega (arith, same)))

-- what the place of an index is made of
pub record Parts (boards : List kept.Place) (margins : List Margin) (at : ℕ) (p : Place) : Type 0 where
  pub place : kept.Place
  pub margin : Margin
  pub board_there : slice_get boards at ≡ Some place
  pub margin_there : slice_get margins at ≡ Some margin
  pub is : spot_of place.board margin ≡ p

pub parts : (boards : List kept.Place) (margins : List Margin) (at : ℕ) (p : Place) →
    slice_get (spots_of boards margins) at ≡ Some p → Parts boards margins at p
parts [] margins at p is = let wrong : ⊥ = cc in absurd wrong
parts (place ∷ boards) [] at p is = let wrong : ⊥ = cc in absurd wrong
parts (place ∷ boards) (margin ∷ margins) zero p is = record {
  place = place;
  margin = margin;
  board_there = refl;
  margin_there = refl;
  is = same-some (spot_of place.board margin) p is;
}
parts (place ∷ boards) (margin ∷ margins) (suc at) p is =
    let rest : Parts boards margins at p = parts boards margins at p is in
    record {
      place = rest.place;
      margin = rest.margin;
      board_there = rest.board_there;
      margin_there = rest.margin_there;
      is = rest.is;
    }

-- one of the margins has a board
pub spot-there : (boards : List kept.Place) (margins : List Margin) (at : ℕ) (margin : Margin) →
    length boards ≡ length margins → slice_get margins at ≡ Some margin →
    (place : kept.Place) × (slice_get boards at ≡ Some place)
    × (slice_get (spots_of boards margins) at ≡ Some (spot_of place.board margin))
spot-there [] [] at margin same there = let wrong : ⊥ = cc in absurd wrong
spot-there [] (first ∷ margins) at margin same there = absurd (omega (arith, same))
spot-there (place ∷ boards) [] at margin same there = absurd (omega (arith, same))
spot-there (place ∷ boards) (first ∷ margins) zero margin same there =
    let is : first ≡ margin = cc in
    (place, refl, ap (λ m. Some (spot_of place.board m)) is)
spot-there (place ∷ boards) (first ∷ margins) (suc at) margin same there =
    spot-there boards margins at margin (omega (arith, same)) there

pub margin-there : (margins : List Margin) (i : ℕ) (one : Margin) → i < length margins →
    ((m : Margin) → slice_get margins i ≡ Some m → one ≡ m) → slice_get margins i ≡ Some one
margin-there margins i one less is =
    let found = there-is margins i less in
    found.1 ∙ ap Some (sym (is found.0 found.1))

-- a place, by its board and what it has beside it
pub margin-is : (p : Place) (place : kept.Place) (margin one : Margin) → spot_of place.board margin ≡ p → one ≡ margin →
    spot_of p.board one ≡ p
margin-is p place margin one is same =
    ap (spot_of p.board) same ∙ ap (λ (q : Place). spot_of q.board margin) (sym is) ∙ is

-- a place whose board is found to be another one's covers that, if enough is left
pub covers-known : {E : Type 0} (boards : List kept.Place) (margins : List Margin) (spots : List Place) (at : ℕ)
    (b : BoardState) (one other : Margin) (found : Result Bool E) → spots_of boards margins ≡ spots →
    length boards ≡ length margins →
    slice_get margins at ≡ Some one →
    ((place : kept.Place) → slice_get boards at ≡ Some place → IfOk found (λ is. is ≡ true → place.board ≡ b)) →
    ((c : BoardState) → IsRicher (spot_of c one) (spot_of c other)) →
    IfOk found (λ is. is ≡ true → IsKnown spots (spot_of b other))
covers-known boards margins spots at b one other (Err fault) view same there has richer = tt
covers-known boards margins spots at b one other (Ok is) view same there has richer = λ yes.
    let it = spot-there boards margins at one same there in
    record {
      place = spot_of it.0.board one;
      there = (at, subst (λ (ps : List Place). slice_get ps at ≡ Some (spot_of it.0.board one)) view it.2);
      richer = subst (λ c. IsRicher (spot_of it.0.board one) (spot_of c other)) (has it.0 it.1 yes) (richer it.0.board);
    }

-- One place more.

has-more : (boards new : List kept.Place) (place : kept.Place) (result : Result Unit NoMemory) (failed : Bool) →
    OnOk result (new ≡ boards ++ place ∷ []) → failed ≡ is_err result → failed ≡ false → new ≡ boards ++ place ∷ []
has-more boards new place (Ok done) failed is what none = is
has-more boards new place (Err fault) failed is what none = absurd (false≢true (sym none ∙ what))

pub longer : (boards new : List kept.Place) (margins more : List Margin) (margin : Margin) (from : ℕ)
    (make : kept.Place → kept.Place) (result : Result Unit NoMemory) (failed : Bool) → length boards ≡ length margins →
    from < length boards → more ≡ margins ++ margin ∷ [] →
    ((place : kept.Place) → slice_get boards from ≡ Some place → OnOk result (new ≡ boards ++ make place ∷ [])) →
    failed ≡ is_err result → failed ≡ false → length new ≡ length more
longer boards new margins more margin from make result failed same within pushed added what none =
    let found = there-is boards from within in
    let is : new ≡ boards ++ make found.0 ∷ [] =
    has-more boards new (make found.0) result failed (added found.0 found.1) what none in
    let new_is : length new ≡ length (boards ++ make found.0 ∷ []) = ap length is in
    let more_is : length more ≡ length (margins ++ margin ∷ []) = ap length pushed in
    omega (arith, same, new_is, more_is, length-append boards (make found.0 ∷ []), length-append margins (margin ∷ []))

pub one-more : (boards new : List kept.Place) (margins more : List Margin) (spots : List Place) (margin : Margin)
    (from : ℕ) (make : BoardState → kept.Place) (result : Result Unit NoMemory) (failed : Bool) (p : Place) →
    spots_of boards margins ≡ spots → length boards ≡ length margins → more ≡ margins ++ margin ∷ [] →
    ((place : kept.Place) → slice_get boards from ≡ Some place → OnOk result (new ≡ boards ++ make place.board ∷ [])) →
    failed ≡ is_err result → failed ≡ false → slice_get spots from ≡ Some p →
    spots_of new more ≡ spots ++ spot_of (make p.board).board margin ∷ []
one-more boards new margins more spots margin from make result failed p view same pushed added what none there =
    let it = parts boards margins from p (subst (λ (ps : List Place). slice_get ps from ≡ Some p) (sym view) there) in
    let is : new ≡ boards ++ make it.place.board ∷ [] =
    has-more boards new (make it.place.board) result failed (added it.place it.board_there) what none in
    ap (λ (bs : List kept.Place). spots_of bs more) is ∙ ap (spots_of (boards ++ make it.place.board ∷ [])) pushed
    ∙ spots-more boards margins (make it.place.board) margin same
    ∙ ap (λ (q : Place). spots_of boards margins ++ spot_of (make q.board).board margin ∷ []) it.is
    ∙ ap (λ (ps : List Place). ps ++ spot_of (make p.board).board margin ∷ []) view

-- what was added is known
pub noted-more : (old new : List Place) (from : ℕ) (make : BoardState → BoardState) (margin : Margin)
    (result : Result Unit NoMemory) → from < length old →
    ((p : Place) → slice_get old from ≡ Some p → OnOk result (new ≡ old ++ spot_of (make p.board) margin ∷ [])) →
    OnErr result (new ≡ old) → IsMore old new
noted-more old new from make margin (Ok done) within is same =
    let found = there-is old from within in
    more-by old new (spot_of (make found.0.board) margin) (is found.0 found.1)
noted-more old new from make margin (Err fault) within is same = subst (IsMore old) (sym same) (more-same old)

pub noted-known : (old new : List Place) (b there : BoardState) (margin : Margin) (result : Result Unit NoMemory) →
    OnOk result (new ≡ old ++ spot_of there margin ∷ []) → b ≡ there → OnOk result (IsKnown new (spot_of b margin))
noted-known old new b there margin (Ok done) is same =
    subst (λ c. IsKnown new (spot_of c margin)) (sym same) (known-last old new (spot_of there margin) is)
noted-known old new b there margin (Err fault) is same = tt
