-- Section headers: the first symbol table of those that are left, and where a symbol table's symbols lie.
use Rattle.std.proofs.Common.{◌≡◌, ℕ, suc, ◌+◌, ◌-◌, ◌*◌, ◌/◌, ◌%◌, ◌<◌, ◌≤◌, true, false, eqb, leb, cond, not, ◌&&◌, List, length, drop, Option, Some, None, refl, sym, ◌∙◌, inl, inr, arith}
use Rattle.std.proofs.lemmas.Bool.{and_parts, or_cases, eqb-true, leb-true, eq-eqb, ne_eqb}
use Rattle.brd_word.specs.declared.order.Order.{Order}
use Rattle.brd_elf.specs.declared.header.Table.{Table}
use Rattle.brd_elf.specs.declared.sections.Section.{Section}
use Rattle.brd_elf.specs.Symbols.{section_at, symbol_table_from, is_symbol_table, is_whole}

one_more : (order : Order) (file : List ℕ) (at count i : ℕ) → i < count
    → symbol_table_from order file at (count - i) ≡ cond (eqb (section_at order (drop at file)).kind 2) (Some at) (symbol_table_from order file (at + 40) (count - (i + 1)))
unfolding symbol_table_from
one_more order file at count i lt =
    let k : count - i ≡ suc (count - (i + 1)) = omega arith in
    rw k refl

pub goes_on : (order : Order) (file : List ℕ) (at count i : ℕ) (total : Option ℕ) → i < count → eqb (section_at order (drop at file)).kind 2 ≡ false
    → symbol_table_from order file at (count - i) ≡ total → symbol_table_from order file (at + 40) (count - (i + 1)) ≡ total
goes_on order file at count i total lt other so_far =
    let e = one_more order file at count i lt in
    let g = rw other at e in
    sym g ∙ so_far

pub ends : (order : Order) (file : List ℕ) (at count i : ℕ) (total : Option ℕ) → i < count → eqb (section_at order (drop at file)).kind 2 ≡ true
    → symbol_table_from order file at (count - i) ≡ total → Some at ≡ total
ends order file at count i total lt here so_far =
    let e = one_more order file at count i lt in
    let g = rw here at e in
    sym g ∙ so_far

pub is_done : (order : Order) (file : List ℕ) (at count i : ℕ) (total : Option ℕ) → count ≤ i → symbol_table_from order file at (count - i) ≡ total → None ≡ total
unfolding symbol_table_from
is_done order file at count i total le so_far =
    let k : count - i ≡ 0 = omega arith in
    let g : symbol_table_from order file at (count - i) ≡ None = rw k refl in
    sym g ∙ so_far

-- the symbols of a symbol table lie in the file
pub symbols_fit : (file : List ℕ) (table : Table) (section : Section) → is_symbol_table file table section ≡ true → 0 < section.size / 16
    → section.offset + 16 * (section.size / 16) ≤ length file
symbols_fit file table section right some =
    let parts : ((eqb section.entry_size 16 && eqb (section.size % 16) 0 && is_whole file section) ≡ true) × (not (leb table.count section.link) ≡ true) = and_parts _ _ right in
    let whole : ((eqb section.entry_size 16 && eqb (section.size % 16) 0) ≡ true) × (is_whole file section ≡ true) = and_parts _ _ parts.0 in
    elim (or_cases (eqb section.size 0) (leb (section.offset + section.size) (length file)) whole.1) [
      | inl empty ↦ let zero_size : section.size ≡ 0 = eqb-true _ _ empty in absurd (omega arith)
      | inr fits ↦ let end : section.offset + section.size ≤ length file = leb-true _ _ fits in omega arith
    ]

-- the test of a kind, where it was made on a copy
pub is_kind : (section read : Section) → section ≡ read → section.kind ≡ 2 → eqb read.kind 2 ≡ true
is_kind section read e is = rw (← e) (eq-eqb section.kind 2 is)

pub is_other_kind : (section read : Section) → section ≡ read → (section.kind ≡ 2 → ⊥) → eqb read.kind 2 ≡ false
is_other_kind section read e other = rw (← e) (ne_eqb section.kind 2 other)
