-- The name that a mnemonic is written with is the only one that is read as that mnemonic.
use Rattle.std.proofs.Common.{◌≡◌, ◌↔◌, ℕ, Bool, true, false, not, ◌&&◌, List, [], ◌∷◌, Option, Some, None}
use Rattle.std.proofs.Common.{refl, sym, ap, subst, ◌∙◌}
use Rattle.std.proofs.lemmas.Bool.{not-true}
use Rattle.std.proofs.lemmas.Option.{none-some, same_Some}
use Rattle.std.proofs.lemmas.Slice.Eq.{bytes_eq-Decides}
use Rattle.std.specs.Prelude.{if◌then◌else◌}
use Rattle.std.specs.Str.{bytes_eq}
use Rattle.brd_isa.specs.contracts.mnemonic.MnemonicPartialEq.TheImpl.{ghosts}
use Rattle.brd_isa.specs.declared.mnemonic.Mnemonic.{Mnemonic}
use Rattle.brd_isa.specs.Names.{named_in, name_in, mnemonic_named}
use Rattle.brd_isa.proofs.NameLemmas.{name_of}
use Rattle.brd_isa.proofs.NameRows.{all_names, named_in-all_names}

-- no row has this mnemonic
abbrev is_absent : Mnemonic → List (List ℕ × Mnemonic) → Bool
is_absent m [] = true
is_absent m (row ∷ rows) = not (ghosts.eq m row.1) && is_absent m rows

-- no two rows have one mnemonic
abbrev are_apart : List (List ℕ × Mnemonic) → Bool
are_apart [] = true
are_apart (row ∷ rows) = ghosts.eq row.1 row.1 && (is_absent row.1 rows && are_apart rows)

both : (x y : Bool) → (x && y) ≡ true → (x ≡ true) × (y ≡ true)
both true y e = (refl, e)
both false y e = absurd (cc)

-- a mnemonic that is read by rows without m isn't m
other_row : (m k own : Mnemonic) (same : Bool) (behind : Option Mnemonic) → not (ghosts.eq m own) ≡ true →
    (behind ≡ Some k → ghosts.eq m k ≡ false) → (if same then Some own else behind) ≡ Some k → ghosts.eq m k ≡ false
other_row m k own true behind free h e =
    subst (λ x. ghosts.eq m x ≡ false) (same_Some own k e) (not-true (ghosts.eq m own) free)
other_row m k own false behind free h e = h e

other : (m k : Mnemonic) (rows : List (List ℕ × Mnemonic)) (name : List ℕ) → is_absent m rows ≡ true →
    named_in rows name ≡ Some k → ghosts.eq m k ≡ false
other m k [] name free e = absurd (none-some k e)
other m k (row ∷ rows) name free e =
    let parts : (not (ghosts.eq m row.1) ≡ true) × (is_absent m rows ≡ true) = both _ _ free in
    other_row m k row.1 (bytes_eq name row.0) (named_in rows name) parts.0 (other m k rows name parts.1) e

-- a name that is read as a mnemonic is written for it
row_written : (own m : Mnemonic) (known name : List ℕ) (same : Bool) (behind : Option Mnemonic)
    (rest : Option (List ℕ)) → (same ≡ true → name ≡ known) → ghosts.eq own own ≡ true →
    (behind ≡ Some m → ghosts.eq own m ≡ false) → (behind ≡ Some m → rest ≡ Some name) →
    (if same then Some own else behind) ≡ Some m → (if ghosts.eq own m then Some known else rest) ≡ Some name
row_written own m known name true behind rest is itself others h e =
    subst (λ x. (if ghosts.eq own x then Some known else rest) ≡ Some name) (same_Some own m e)
    (ap (λ b. if b then Some known else rest) itself ∙ ap (λ n. Some n) (sym (is refl)))
row_written own m known name false behind rest is itself others h e =
    ap (λ b. if b then Some known else rest) (others e) ∙ h e

all_written : (rows : List (List ℕ × Mnemonic)) (name : List ℕ) (m : Mnemonic) → are_apart rows ≡ true →
    named_in rows name ≡ Some m → name_in rows m ≡ Some name
unfolding name_in
all_written [] name m apart e = absurd (none-some m e)
all_written (row ∷ rows) name m apart e =
    let own : (ghosts.eq row.1 row.1 ≡ true) × ((is_absent row.1 rows && are_apart rows) ≡ true) = both _ _ apart in
    let parts : (is_absent row.1 rows ≡ true) × (are_apart rows ≡ true) = both _ _ own.1 in
    row_written row.1 m row.0 name (bytes_eq name row.0) (named_in rows name) (name_in rows m)
    (bytes_eq-Decides name row.0).0 own.0 (other row.1 m rows name parts.0) (all_written rows name m parts.1) e

written : (m : Mnemonic) (name : List ℕ) → mnemonic_named name ≡ Some m → name_in all_names m ≡ Some name
written m name e = all_written all_names name m refl (named_in-all_names name ∙ e)

-- each mnemonic has a name, and what is written for it is that one
pub is_found : (m : Mnemonic) → None ≡ name_in all_names m → ⊥
is_found m e = none-some (name_of m).0 (e ∙ written m (name_of m).0 (name_of m).1)

pub exactly : (m : Mnemonic) (found : List ℕ) → Some found ≡ name_in all_names m →
    (name : List ℕ) → (mnemonic_named name ≡ Some m) ↔ (name ≡ found)
exactly m found e name =
    let own : name_in all_names m ≡ Some (name_of m).0 = written m (name_of m).0 (name_of m).1 in (
      (λ is. same_Some name found (sym (e ∙ written m name is))),
      (λ is. subst (λ n. mnemonic_named n ≡ Some m) (sym (is ∙ same_Some found (name_of m).0 (e ∙ own))) (name_of m).1),
    )
