-- The symbol that a fold over all symbols finds has the greatest value of those below the address.
use Rattle.std.proofs.Common.{◌≡◌, ℕ, ◌<◌, ◌≤◌, Bool, true, false, List, [], ◌∷◌, Option, Some, None, refl, subst, le_refl, arith}
use Rattle.std.specs.Prelude.{nat_lt, if◌then◌else◌}
use Rattle.std.specs.List.{AllByRecursion, fold}
use Rattle.std.proofs.lemmas.Bool.Decides.{nat_tests}
use Rattle.brd_base.specs.Space.{top}
use Rattle.brd_mem.specs.declared.image.Symbol.{Symbol}
use Rattle.brd_listing.specs.Places.{is_below, is_nearer, nearer, nearest_of}

-- what was found is at least as near as t
abbrev pub Tops : ℕ → Symbol → Option Symbol → Type 0
Tops address t None = is_below address t ≡ false
Tops address t (Some s) = is_below address t ≡ true → t.value ≤ s.value

-- what was found is below the address
abbrev pub Found : ℕ → Option Symbol → Type 0
Found address None = Unit {0}
Found address (Some s) = is_below address s ≡ true

-- ---- one symbol more, by what its test says

kept_by : (b : Bool) (address : ℕ) (t s : Symbol) (found : Option Symbol) → is_nearer address found s ≡ b → Tops address t found
    → Tops address t (if b then Some s else found)
kept_by false address t s found e h = h
kept_by true address t s None e h = λ below. grind (arith, nat_tests, below, h)
kept_by true address t s (Some f) e h = λ below. grind (arith, nat_tests, h below, e)

new_by : (b : Bool) (address : ℕ) (s : Symbol) (found : Option Symbol) → is_nearer address found s ≡ b
    → Tops address s (if b then Some s else found)
new_by true address s found e = λ below. le_refl s.value
new_by false address s None e = e
new_by false address s (Some f) e = λ below. grind (arith, nat_tests, below, e)

pub found_by : (b : Bool) (address : ℕ) (s : Symbol) (found : Option Symbol) → is_nearer address found s ≡ b → Found address found
    → Found address (if b then Some s else found)
found_by false address s found e h = h
found_by true address s None e h = e
found_by true address s (Some f) e h = grind (arith, nat_tests, e)

-- ---- all symbols

pub keeps : (address : ℕ) (t : Symbol) (found : Option Symbol) (symbols : List Symbol) → Tops address t found
    → Tops address t (fold (nearer address) found symbols)
keeps address t found [] h = h
keeps address t found (s ∷ ss) h =
    keeps address t (nearer address found s) ss (kept_by (is_nearer address found s) address t s found refl h)

pub all_tops : (address : ℕ) (found : Option Symbol) (symbols : List Symbol)
    → AllByRecursion (λ t. Tops address t (fold (nearer address) found symbols)) symbols
all_tops address found [] = tt
all_tops address found (s ∷ ss) = (
  keeps address s (nearer address found s) ss (new_by (is_nearer address found s) address s found refl),
  all_tops address (nearer address found s) ss,
)

pub stays_found : (address : ℕ) (found : Option Symbol) (symbols : List Symbol) → Found address found
    → Found address (fold (nearer address) found symbols)
stays_found address found [] h = h
stays_found address found (s ∷ ss) h =
    stays_found address (nearer address found s) ss (found_by (is_nearer address found s) address s found refl h)

-- ---- the nearest

some_by : (b : Bool) (found : Option Symbol) (s : Symbol) → (if b then found else None) ≡ Some s → found ≡ Some s
some_by true found s e = e
some_by false found s e = grind (arith, e)

none_by : (b : Bool) (found : Option Symbol) → b ≡ true → (if b then found else None) ≡ None → found ≡ None
none_by true found is e = e
none_by false found is e = grind (arith, is)

pub below : (symbols : List Symbol) (address : ℕ) (s : Symbol) → nearest_of symbols address ≡ Some s → is_below address s ≡ true
below symbols address s e =
    subst (Found address) (some_by (nat_lt address top) (fold (nearer address) None symbols) s e) (stays_found address None symbols tt)

pub greatest : (symbols : List Symbol) (address : ℕ) (s : Symbol) → nearest_of symbols address ≡ Some s
    → AllByRecursion (λ t. is_below address t ≡ true → t.value ≤ s.value) symbols
greatest symbols address s e =
    subst (λ (r : Option Symbol). AllByRecursion (λ t. Tops address t r) symbols)
    (some_by (nat_lt address top) (fold (nearer address) None symbols) s e) (all_tops address None symbols)

pub none : (symbols : List Symbol) (address : ℕ) → address < top → nearest_of symbols address ≡ None
    → AllByRecursion (λ t. is_below address t ≡ false) symbols
none symbols address lt e =
    let holds : nat_lt address top ≡ true = grind (arith, nat_tests, lt) in
    subst (λ (r : Option Symbol). AllByRecursion (λ t. Tops address t r) symbols)
    (none_by (nat_lt address top) (fold (nearer address) None symbols) holds e) (all_tops address None symbols)
