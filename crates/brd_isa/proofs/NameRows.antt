-- The names as one list, as the code keeps them, have for a name what the lists of the forms have.
use Rattle.std.proofs.Common.{◌≡◌, ℕ, Bool, true, false, List, [], ◌∷◌, Option, Some, None, refl, sym, ◌∙◌}
use Rattle.std.specs.Prelude.{option_map, if◌then◌else◌, bytes_eq}
use Rattle.brd_isa.specs.declared.mnemonic.Mnemonic.{Mnemonic}
use Rattle.brd_isa.specs.Names.{named_in, ◌or_else◌, shift_names, shift_variable_names, register_names}
use Rattle.brd_isa.specs.Names.{move_from_names, move_to_names, product_names, trap_names, branch_regimm_names}
use Rattle.brd_isa.specs.Names.{trap_immediate_names, accumulate_names, count_names, jump_names, branch_names}
use Rattle.brd_isa.specs.Names.{branch_zero_names, immediate_names, load_names, store_names, linked_names}
use Rattle.brd_isa.specs.Names.{single_names, computing_named, other_named, mnemonic_named}

-- a form's names with its operations as mnemonics, and then the rest
abbrev pub rows : {A : Type 0} → (A → Mnemonic) → List (List ℕ × A) → List (List ℕ × Mnemonic) → List (List ℕ × Mnemonic)
rows f [] rest = rest
rows f (row ∷ own) rest = (row.0, f row.1) ∷ rows f own rest

abbrev pub computing : List (List ℕ × Mnemonic) → List (List ℕ × Mnemonic)
computing behind =
    rows (λ op. Mnemonic.Shift op) shift_names (
    rows (λ op. Mnemonic.ShiftVariable op) shift_variable_names (
    rows (λ op. Mnemonic.ThreeRegisters op) register_names (
    rows (λ op. Mnemonic.MoveFrom op) move_from_names (
    rows (λ op. Mnemonic.MoveTo op) move_to_names (
    rows (λ op. Mnemonic.Product op) product_names (
    rows (λ op. Mnemonic.Accumulate op) accumulate_names (
    rows (λ op. Mnemonic.Count op) count_names (
    rows (λ op. Mnemonic.WithImmediate op) immediate_names behind))))))))

abbrev pub others : List (List ℕ × Mnemonic) → List (List ℕ × Mnemonic)
others behind =
    rows (λ op. Mnemonic.Trap op) trap_names (
    rows (λ op. Mnemonic.TrapImmediate op) trap_immediate_names (
    rows (λ op. Mnemonic.Jump op) jump_names (
    rows (λ op. Mnemonic.Branch op) branch_names (
    rows (λ op. Mnemonic.BranchZero op) branch_zero_names (
    rows (λ op. Mnemonic.BranchRegimm op) branch_regimm_names (
    rows (λ op. Mnemonic.Load op) load_names (
    rows (λ op. Mnemonic.Store op) store_names (
    rows (λ op. Mnemonic.Linked op) linked_names behind))))))))

-- all names, form by form
abbrev pub all_names : List (List ℕ × Mnemonic)
all_names = computing (others single_names)

-- what a list has for a name
record Has (name : List ℕ) (list : List (List ℕ × Mnemonic)) (found : Option Mnemonic) : Type 0 where
  is : named_in list name ≡ found

row_or_rest : {A : Type 0} (f : A → Mnemonic) (same : Bool) (op : A) (own : Option A) (all rest : Option Mnemonic) →
    all ≡ option_map f own or_else rest → (if same then Some (f op) else all) ≡ option_map f (if same then Some op else own) or_else rest
row_or_rest f true op own all rest e = refl
row_or_rest f false op own all rest e = e

named_in_group : {A : Type 0} (f : A → Mnemonic) (own : List (List ℕ × A)) (behind : List (List ℕ × Mnemonic)) (n : List ℕ) (rest : Option Mnemonic) →
    named_in behind n ≡ rest → named_in (rows f own behind) n ≡ option_map f (named_in own n) or_else rest
named_in_group f [] behind n rest e = e
named_in_group f (row ∷ own) behind n rest e =
    row_or_rest f (bytes_eq n row.0) row.1 (named_in own n) (named_in (rows f own behind) n) rest (named_in_group f own behind n rest e)

or_else_assoc : (x y z : Option Mnemonic) → (x or_else y) or_else z ≡ x or_else (y or_else z)
or_else_assoc None y z = refl
or_else_assoc (Some v) y z = refl

-- the last of some groups, and one before others
group : {A : Type 0} {n : List ℕ} {behind : List (List ℕ × Mnemonic)} {rest : Option Mnemonic} (f : A → Mnemonic) (own : List (List ℕ × A)) →
    Has n behind rest → Has n (rows f own behind) (option_map f (named_in own n) or_else rest)
group f own e = record { is = named_in_group f own _ _ _ e.is }

or_group : {A : Type 0} {n : List ℕ} {behind : List (List ℕ × Mnemonic)} (f : A → Mnemonic) (own : List (List ℕ × A)) (groups rest : Option Mnemonic) →
    Has n behind (groups or_else rest) → Has n (rows f own behind) ((option_map f (named_in own n) or_else groups) or_else rest)
or_group {A} {n} {behind} f own groups rest e =
    record { is = named_in_group f own behind n (groups or_else rest) e.is ∙ sym (or_else_assoc (option_map f (named_in own n)) groups rest) }

computing_first : (n : List ℕ) (behind : List (List ℕ × Mnemonic)) (rest : Option Mnemonic) → Has n behind rest → Has n (computing behind) (computing_named n or_else rest)
unfolding computing_named
computing_first n behind rest e =
    or_group (λ op. Mnemonic.Shift op) shift_names _ rest (
    or_group (λ op. Mnemonic.ShiftVariable op) shift_variable_names _ rest (
    or_group (λ op. Mnemonic.ThreeRegisters op) register_names _ rest (
    or_group (λ op. Mnemonic.MoveFrom op) move_from_names _ rest (
    or_group (λ op. Mnemonic.MoveTo op) move_to_names _ rest (
    or_group (λ op. Mnemonic.Product op) product_names _ rest (
    or_group (λ op. Mnemonic.Accumulate op) accumulate_names _ rest (
    or_group (λ op. Mnemonic.Count op) count_names _ rest (
    group (λ op. Mnemonic.WithImmediate op) immediate_names e))))))))

others_first : (n : List ℕ) (behind : List (List ℕ × Mnemonic)) (rest : Option Mnemonic) → Has n behind rest → Has n (others behind) (other_named n or_else rest)
unfolding other_named
others_first n behind rest e =
    or_group (λ op. Mnemonic.Trap op) trap_names _ rest (
    or_group (λ op. Mnemonic.TrapImmediate op) trap_immediate_names _ rest (
    or_group (λ op. Mnemonic.Jump op) jump_names _ rest (
    or_group (λ op. Mnemonic.Branch op) branch_names _ rest (
    or_group (λ op. Mnemonic.BranchZero op) branch_zero_names _ rest (
    or_group (λ op. Mnemonic.BranchRegimm op) branch_regimm_names _ rest (
    or_group (λ op. Mnemonic.Load op) load_names _ rest (
    or_group (λ op. Mnemonic.Store op) store_names _ rest (
    group (λ op. Mnemonic.Linked op) linked_names e))))))))

pub named_in-all_names : (n : List ℕ) → named_in all_names n ≡ mnemonic_named n
unfolding mnemonic_named
named_in-all_names n = (computing_first n _ _ (others_first n single_names _ (record { is = refl }))).is
