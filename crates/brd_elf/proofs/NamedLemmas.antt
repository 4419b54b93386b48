-- The register of symbols, with more strings that have numbers, and with one symbol more.
use Rattle.std.proofs.Common.{◌≡◌, ℕ, ◌+◌, ◌<◌, ◌≤◌, Bool, true, false, List, [], ◌∷◌, ◌++◌, length, Some, refl, sym, ap, ◌∙◌, inl, inr, arith}
use Rattle.std.specs.Prelude.{◌||◌, slice_index_or}
use Rattle.std.specs.Str.{bytes_eq}
use Rattle.std.proofs.lemmas.Bool.{cases_Bool, cases_eq, cases_lt, or_left, or_right, true≢false}
use Rattle.std.proofs.lemmas.List.{length-append, get_or_past}
use Rattle.std.proofs.lemmas.List.Folds.{list_any-append}
use Rattle.std.proofs.lemmas.Slice.Eq.{bytes_eq-Decides}
use Rattle.brd_mem.specs.declared.image.Symbol.{Symbol}
use Rattle.brd_elf.specs.Symbols.{is_named}
use Rattle.brd_elf.specs.Trie.{path_of, AreDistinct, IsMore}
use Rattle.brd_elf.specs.Named.{is_known, IsRegister}
use Rattle.brd_elf.proofs.PlaceLemmas.{same_path, more_there}

pub bytes_eq-refl : (bytes : List ℕ) → bytes_eq bytes bytes ≡ true
bytes_eq-refl bytes = (bytes_eq-Decides bytes bytes).1 refl

bytes_eq-other : (xs ys : List ℕ) → (xs ≡ ys → ⊥) → bytes_eq xs ys ≡ false
bytes_eq-other xs ys other =
    elim (cases_Bool (bytes_eq xs ys)) [
      | inl same ↦ absurd (other ((bytes_eq-Decides xs ys).0 same))
      | inr not ↦ not
    ]

pub is_named-push : (symbols : List Symbol) (symbol : Symbol) (name : List ℕ) → is_named (symbols ++ symbol ∷ []) name ≡ (is_named symbols name || (bytes_eq symbol.name name || false))
is_named-push symbols symbol name = list_any-append (λ s. bytes_eq s.name name) symbols (symbol ∷ [])

-- a symbol's own name is known
is_known-own : (symbols : List Symbol) (symbol : Symbol) → is_known (symbols ++ symbol ∷ []) (Some symbol.name) ≡ true
is_known-own symbols symbol = own symbol.name refl
  where
    own : (name : List ℕ) → symbol.name ≡ name → is_known (symbols ++ symbol ∷ []) (Some name) ≡ true
    own [] is = refl
    own (byte ∷ name) is =
        is_named-push symbols symbol (byte ∷ name) ∙ or_right (is_named symbols (byte ∷ name)) _ (or_left (bytes_eq symbol.name (byte ∷ name)) false (rw is (bytes_eq-refl (byte ∷ name))))

either_false : (a b : Bool) → b ≡ false → (a || (b || false)) ≡ a
either_false true b e = refl
either_false false b e = rw e refl

-- of other strings it is known as much as before
is_known-other : (symbols : List Symbol) (symbol : Symbol) (string : List ℕ) → (symbol.name ≡ string → ⊥)
    → is_known (symbols ++ symbol ∷ []) (Some string) ≡ is_known symbols (Some string)
is_known-other symbols symbol [] other = refl
is_known-other symbols symbol (byte ∷ string) other =
    is_named-push symbols symbol (byte ∷ string) ∙ either_false (is_named symbols (byte ∷ string)) _ (bytes_eq-other symbol.name (byte ∷ string) other)

pub with_paths : (marks : List Bool) (strings new_strings : List ℕ) (symbols : List Symbol) (paths more : List (List ℕ))
    → IsRegister marks (record { strings = strings; symbols = symbols; paths = paths }) → IsMore paths more → AreDistinct more
    → IsRegister marks (record { strings = new_strings; symbols = symbols; paths = more })
with_paths marks strings new_strings symbols paths more register longer distinct = record {
  distinct = distinct;
  size = omega (arith, len, register.size);
  numbered = λ string is.
      let old = register.numbered string is in
      (old.0, more_there paths more old.0 longer old.1, same_path paths more old.0 longer old.1 ∙ old.2);
  marked = λ number lt. elim (cases_lt number (length paths)) [
    | inl low ↦ rw (same_path paths more number longer low) (register.marked number low)
    | inr high ↦ get_or_past marks number false (omega (arith, high, register.size)) ∙ sym (unknown number lt high)
  ];
}
  where
    len : length more ≡ length paths + length longer.0
    len = ap length longer.1 ∙ length-append paths longer.0

    unknown : (number : ℕ) → number < length more → length paths ≤ number → is_known symbols (Some (path_of more number)) ≡ false
    unknown number lt high =
        elim (cases_Bool (is_known symbols (Some (path_of more number)))) [
          | inl there ↦
              let old = register.numbered (path_of more number) there in
              let same = distinct old.0 number (more_there paths more old.0 longer old.1) lt (same_path paths more old.0 longer old.1 ∙ old.2) in
              absurd (omega (arith, same, old.1, high))
          | inr not ↦ not
        ]

pub with_symbol_more : (marks new_marks : List Bool) (strings : List ℕ) (symbols : List Symbol) (paths : List (List ℕ)) (symbol : Symbol) (number : ℕ)
    → IsRegister marks (record { strings = strings; symbols = symbols; paths = paths }) → number < length paths → path_of paths number ≡ symbol.name
    → slice_index_or new_marks number false ≡ true
    → ((place : ℕ) → (place ≡ number → ⊥) → slice_index_or new_marks place false ≡ slice_index_or marks place false)
    → ((limit : ℕ) → length marks ≤ limit → number < limit → length new_marks ≤ limit)
    → IsRegister new_marks (record { strings = strings; symbols = symbols ++ symbol ∷ []; paths = paths })
with_symbol_more marks new_marks strings symbols paths symbol number register there path here others size = record {
  distinct = register.distinct;
  size = size (length paths) register.size there;
  numbered = λ string is. elim (cases_Bool (is_known symbols (Some string))) [
    | inl known ↦ register.numbered string known
    | inr not ↦ (number, there, path ∙ own string is not)
  ];
  marked = λ place lt. elim (cases_eq place number) [
    | inl same ↦ rw (same, path, here) (sym (is_known-own symbols symbol))
    | inr other ↦
        others place other ∙ register.marked place lt
        ∙ sym (is_known-other symbols symbol (path_of paths place) (λ same. other (register.distinct place number lt there (sym same ∙ sym path))))
  ];
}
  where
    own : (string : List ℕ) → is_known (symbols ++ symbol ∷ []) (Some string) ≡ true → is_known symbols (Some string) ≡ false → symbol.name ≡ string
    own string is not =
        elim (cases_Bool (bytes_eq symbol.name string)) [
          | inl same ↦ (bytes_eq-Decides symbol.name string).0 same
          | inr different ↦
              absurd (true≢false (sym is ∙ is_known-other symbols symbol string (λ same. true≢false (sym (rw same (bytes_eq-refl string)) ∙ different)) ∙ not))
        ]
