-- Strings by their places, and the numbering with more strings or one place more.
use Rattle.std.proofs.Common.{◌≡◌, ℕ, zero, suc, ◌+◌, ◌^◌, ◌<◌, ◌≤◌, Bool, cond, List, [], ◌∷◌, length, set, drop, Option, Some, None, refl, sym, ap, ◌∙◌, inl, inr, arith}
use Rattle.std.specs.Prelude.{slice_index_or, count_by, is_some}
use Rattle.std.proofs.lemmas.Bool.{cases_eq, ne_eqb}
use Rattle.std.proofs.lemmas.List.{length-set, length-append, get_or-set_same, get_or-set_other, get_or_append_left}
use Rattle.std.proofs.lemmas.List.Sums.{sum_by-set, count_by-le-length}
use Rattle.brd_elf.specs.Symbols.{string_of}
use Rattle.brd_elf.specs.Trie.{path_of, AreDistinct, IsMore}
use Rattle.brd_elf.specs.Places.{Numbered, AreLetters, IsNumbering}

-- a string with its first byte
pub letter_before : (strings : List ℕ) (at : ℕ) (path : List ℕ) → at < length strings → (slice_index_or strings at 0 ≡ 0 → ⊥)
    → string_of (drop (suc at) strings) ≡ Some path → string_of (drop at strings) ≡ Some (slice_index_or strings at 0 ∷ path)
letter_before [] at path lt letter is = absurd (omega (arith, lt))
letter_before (byte ∷ strings) zero path lt letter is = rw (ne_eqb byte 0 letter, is) refl
letter_before (byte ∷ strings) (suc at) path lt letter is = letter_before strings at path (omega (arith, lt)) letter is

-- letters up to the end are no string
pub no_end : (strings : List ℕ) (start end : ℕ) → length strings ≤ end → AreLetters strings start end → string_of (drop start strings) ≡ None
no_end [] zero end le letters = refl
no_end [] (suc start) end le letters = refl
no_end (byte ∷ strings) zero end le letters =
    let later : string_of strings ≡ None = no_end strings zero (length strings) (omega arith) (λ place low lt is. letters (suc place) (omega arith) (omega (arith, lt, le)) is) in
    rw (ne_eqb byte 0 (letters 0 (omega arith) (omega (arith, le))), later) refl
no_end (byte ∷ strings) (suc start) end le letters =
    no_end strings start (length strings) (omega arith) (λ place low lt is. letters (suc place) (omega (arith, low)) (omega (arith, lt, le)) is)

pub same_path : (paths more : List (List ℕ)) (number : ℕ) → IsMore paths more → number < length paths → path_of more number ≡ path_of paths number
same_path paths more number longer lt = ap (λ all. path_of all number) longer.1 ∙ get_or_append_left paths longer.0 [] number lt

pub more_there : (paths more : List (List ℕ)) (number : ℕ) → IsMore paths more → number < length paths → number < length more
more_there paths more number longer lt =
    let len : length more ≡ length paths + length longer.0 = ap length longer.1 ∙ length-append paths longer.0 in
    omega (arith, len, lt)

abbrev one_if : Bool → ℕ
one_if b = cond b 1 0

-- one place more has a number
one_more : (numbers : List (Option ℕ)) (at number : ℕ) → at < length numbers → slice_index_or numbers at None ≡ None
    → count_by is_some (set numbers at (Some number)) ≡ suc (count_by is_some numbers)
one_more numbers at number within new =
    let e = sum_by-set (λ (n : Option ℕ). one_if (is_some n)) numbers at (Some number) None within in
    let none : one_if (is_some (slice_index_or numbers at None)) ≡ 0 = rw new refl in
    omega (arith, e, none)

-- strings that have numbers are fewer than places, where one has no number
pub room_for_one : (numbered : Numbered) (at : ℕ) → IsNumbering numbered → at < length numbered.strings → slice_index_or numbered.numbers at None ≡ None
    → length numbered.paths < 2 ^ 32
room_for_one numbered at numbering within new =
    let more = one_more numbered.numbers at 0 (omega (arith, within, numbering.places)) new in
    let all = count_by-le-length is_some (set numbered.numbers at (Some 0)) in
    omega (arith, more, all, length-set numbered.numbers at (Some 0), numbering.places, numbering.short, numbering.few)

-- a place that had no number has that of its string, which may be a new one
pub with_place : (numbers : List (Option ℕ)) (strings : List ℕ) (paths more : List (List ℕ)) (at number : ℕ) → IsNumbering (record { strings = strings; numbers = numbers; paths = paths })
    → IsMore paths more → AreDistinct more → length more ≤ length paths + 1
    → at < length strings → slice_index_or numbers at None ≡ None → number < length more → string_of (drop at strings) ≡ Some (path_of more number)
    → IsNumbering (record { strings = strings; numbers = set numbers at (Some number); paths = more })
with_place numbers strings paths more at number numbering longer distinct few within new there string = record {
  short = numbering.short;
  places = length-set numbers at (Some number) ∙ numbering.places;
  few = omega (arith, few, numbering.few, one_more numbers at number (omega (arith, within, numbering.places)) new);
  there = more_there paths more 0 longer numbering.there;
  empty = same_path paths more 0 longer numbering.there ∙ numbering.empty;
  distinct = distinct;
  within = λ place other is. elim (cases_eq place at) [
    | inl same ↦ rw (← (here place other same is)) there
    | inr not ↦ more_there paths more other longer (numbering.within place other (elsewhere place other not is))
  ];
  strings = λ place other is. elim (cases_eq place at) [
    | inl same ↦ rw (same, ← (here place other same is)) string
    | inr not ↦
        numbering.strings place other (elsewhere place other not is)
        ∙ ap Some (sym (same_path paths more other longer (numbering.within place other (elsewhere place other not is))))
  ];
}
  where
    some_of : (a b : ℕ) → Some a ≡ Some b → a ≡ b
    some_of a b e = cc

    here : (place other : ℕ) → place ≡ at → slice_index_or (set numbers at (Some number)) place None ≡ Some other → number ≡ other
    here place other same is =
        some_of number other (sym (get_or-set_same numbers at (Some number) None (omega (arith, within, numbering.places))) ∙ ap (λ n. slice_index_or (set numbers at (Some number)) n None) (sym same) ∙ is)

    elsewhere : (place other : ℕ) → (place ≡ at → ⊥) → slice_index_or (set numbers at (Some number)) place None ≡ Some other → slice_index_or numbers place None ≡ Some other
    elsewhere place other not is = sym (get_or-set_other numbers at place (Some number) None not) ∙ is
