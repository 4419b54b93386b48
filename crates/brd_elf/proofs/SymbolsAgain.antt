-- The symbols that were written are read again.
use Rattle.std.proofs.Common.{◌≡◌, ◌≢◌, ℕ, ◌+◌, ◌*◌, ◌^◌, ◌<◌, false, eqb, List, [], ◌∷◌, ◌++◌, length, drop, Option, Some, Result, Ok, refl, sym, ap, ◌∙◌, append_assoc, length-append, arith}
use Rattle.std.specs.Prelude.{flat_map}
use Rattle.std.specs.List.{AllByRecursion}
use Rattle.std.specs.Str.{bytes_eq}
use Rattle.std.proofs.lemmas.Bool.{ne_eqb, or_from, false_from_ne_true}
use Rattle.std.proofs.lemmas.List.{append-nil}
use Rattle.std.proofs.lemmas.Slice.Eq.{bytes_eq-Decides}
use Rattle.brd_word.specs.declared.order.Order.{Order}
use Rattle.brd_word.specs.declared.order.Order.TheVariants.{Big, Little}
use Rattle.brd_mem.specs.Image.{AreNamed, IsName}
use Rattle.brd_mem.specs.declared.image.Symbol.{Symbol}
use Rattle.brd_elf.specs.declared.fault.ElfFault.{ElfFault}
use Rattle.brd_elf.specs.declared.symbols.Entry.{Entry}
use Rattle.brd_elf.specs.Fields.{half, word}
use Rattle.brd_text.specs.Faults.{◌>>=◌}
use Rattle.brd_elf.specs.Symbols.{entry_at, string_of, is_named, named, kept, kept_from}
use Rattle.brd_elf.specs.File.{symbol_entry, symbol_entries_from}
use Rattle.brd_elf.proofs.NamedLemmas.{is_named-push}
use Rattle.brd_elf.proofs.FieldLemmas.{entry_again}
use Rattle.brd_elf.proofs.SegmentsAgain.{behind}

abbrev pub with_zero : Symbol → List ℕ
with_zero symbol = symbol.name ++ 0 ∷ []

pub length-symbol_entry : (order : Order) (name value : ℕ) → length (symbol_entry order name value) ≡ 16
unfolding word half
length-symbol_entry Big name value = refl
length-symbol_entry Little name value = refl

pub length-symbol_entries_from : (order : Order) (name : ℕ) (symbols : List Symbol) → length (symbol_entries_from order name symbols) ≡ 16 * length symbols
unfolding symbol_entries_from
length-symbol_entries_from order name [] = refl
length-symbol_entries_from order name (symbol ∷ symbols) =
    let one = length-symbol_entry order name symbol.value in
    let others = length-symbol_entries_from order (name + length symbol.name + 1) symbols in
    let both = length-append (symbol_entry order name symbol.value) (symbol_entries_from order (name + length symbol.name + 1) symbols) in
    omega (arith, one, others, both)

-- a string without a byte 0 ends at the byte 0 after it
string_again : (name rest : List ℕ) → AllByRecursion (λ byte. byte ≢ 0) name → string_of (name ++ 0 ∷ rest) ≡ Some name
string_again [] rest filled = refl
string_again (byte ∷ name) rest filled =
    let other : eqb byte 0 ≡ false = ne_eqb byte 0 filled.0 in
    let others = string_again name rest filled.1 in
    rw (other, others) refl

-- a new name is kept
named_again : (name : List ℕ) (value at : ℕ) (symbols : List Symbol) → name ≢ [] → is_named symbols name ≡ false
    → named (Some name) value at symbols ≡ Ok (symbols ++ record { name = name; value = value } ∷ [])
named_again [] value at symbols some new = absurd (some refl)
named_again (byte ∷ name) value at symbols some new = rw new refl

kept_again : (strings : List ℕ) (at name : ℕ) (symbol : Symbol) (symbols : List Symbol) (rest : List ℕ) → drop name strings ≡ symbol.name ++ 0 ∷ rest → IsName symbol.name → is_named symbols symbol.name ≡ false
    → kept strings at (record { name = name; value = symbol.value; section = 0xFFF1 }) symbols ≡ Ok (symbols ++ symbol ∷ [])
unfolding kept
kept_again strings at name symbol symbols rest here is_name new =
    ap (λ (string : Option (List ℕ)). named string symbol.value at symbols) (ap (λ (list : List ℕ). string_of list) here ∙ string_again symbol.name rest is_name.1)
    ∙ named_again symbol.name symbol.value at symbols is_name.0 new

-- names that are new stay new after another name
still_new : (symbols : List Symbol) (symbol : Symbol) (others : List Symbol) → AllByRecursion (λ other. is_named symbols other.name ≡ false) others → AllByRecursion (λ other. other.name ≢ symbol.name) others
    → AllByRecursion (λ other. is_named (symbols ++ symbol ∷ []) other.name ≡ false) others
still_new symbols symbol [] new apart = tt
still_new symbols symbol (other ∷ others) new apart =
    let differs : bytes_eq symbol.name other.name ≡ false = false_from_ne_true (bytes_eq symbol.name other.name) (λ same. apart.0 (sym ((bytes_eq-Decides symbol.name other.name).0 same))) in
    let first : is_named (symbols ++ symbol ∷ []) other.name ≡ false = is_named-push symbols symbol other.name ∙ or_from (is_named symbols other.name) _ new.0 (or_from (bytes_eq symbol.name other.name) false differs refl) in
    (first, still_new symbols symbol others new.1 apart.1)

pub none_named : (symbols : List Symbol) → AllByRecursion (λ symbol. is_named [] symbol.name ≡ false) symbols
none_named [] = tt
none_named (symbol ∷ symbols) = (refl, none_named symbols)

pub symbols_again : (order : Order) (file strings : List ℕ) (at name : ℕ) (symbols before : List Symbol) (front post strings_front back : List ℕ)
    → file ≡ front ++ (symbol_entries_from order name symbols ++ post) → length front ≡ at
    → strings ≡ strings_front ++ (flat_map with_zero symbols ++ back) → length strings_front ≡ name
    → length strings < 2 ^ 32 → AllByRecursion (λ symbol. symbol.value < 2 ^ 32) symbols → AreNamed symbols → AllByRecursion (λ symbol. is_named before symbol.name ≡ false) symbols
    → kept_from order file strings at (length symbols) before ≡ Ok (before ++ symbols)
unfolding kept_from symbol_entries_from
symbols_again order file strings at name [] before front post strings_front back entries_lie at_is strings_lie name_is short values are_named new =
    ap (λ (list : List Symbol). done list) (sym (append-nil before))
  where
    done : List Symbol → Result (List Symbol) ElfFault
    done list = Ok list
symbols_again order file strings at name (symbol ∷ symbols) before front post strings_front back entries_lie at_is strings_lie name_is short values are_named new =
    ap (λ (entry : Entry). kept strings at entry before >>= λ more. kept_from order file strings (at + 16) (length symbols) more) entry_is
    ∙ ap (λ (step : Result (List Symbol) ElfFault). step >>= λ more. kept_from order file strings (at + 16) (length symbols) more) step_is
    ∙ symbols_again order file strings (at + 16) (name + length symbol.name + 1) symbols (before ++ symbol ∷ []) (front ++ symbol_entry order name symbol.value) post (strings_front ++ with_zero symbol) back
    next_entries (length-append front (symbol_entry order name symbol.value) ∙ sum_is at_is (length-symbol_entry order name symbol.value)) next_strings next_name short values.1 are_named.2 (still_new before symbol symbols new.1 are_named.1)
    ∙ ap (λ (list : List Symbol). done list) (append_assoc before (symbol ∷ []) symbols)
  where
    done : List Symbol → Result (List Symbol) ElfFault
    done list = Ok list

    others : List ℕ
    others = symbol_entries_from order (name + length symbol.name + 1) symbols

    sum_is : length front ≡ at → length (symbol_entry order name symbol.value) ≡ 16 → length front + length (symbol_entry order name symbol.value) ≡ at + 16
    sum_is p q = omega arith

    next_entries : file ≡ (front ++ symbol_entry order name symbol.value) ++ (others ++ post)
    next_entries = entries_lie ∙ ap (λ (list : List ℕ). front ++ list) (append_assoc (symbol_entry order name symbol.value) others post) ∙ sym (append_assoc front (symbol_entry order name symbol.value) (others ++ post))

    next_strings : strings ≡ (strings_front ++ with_zero symbol) ++ (flat_map with_zero symbols ++ back)
    next_strings = strings_lie ∙ ap (λ (list : List ℕ). strings_front ++ list) (append_assoc (with_zero symbol) (flat_map with_zero symbols) back) ∙ sym (append_assoc strings_front (with_zero symbol) (flat_map with_zero symbols ++ back))

    next_name : length (strings_front ++ with_zero symbol) ≡ name + length symbol.name + 1
    next_name = omega (arith, name_is, length-append strings_front (with_zero symbol), length-append symbol.name (0 ∷ []))

    here : drop at file ≡ symbol_entry order name symbol.value ++ (others ++ post)
    here = behind file front (symbol_entry order name symbol.value) (others ++ post) at (next_entries ∙ append_assoc front (symbol_entry order name symbol.value) (others ++ post)) at_is

    name_here : drop name strings ≡ symbol.name ++ 0 ∷ (flat_map with_zero symbols ++ back)
    name_here = behind strings strings_front (with_zero symbol) (flat_map with_zero symbols ++ back) name (next_strings ∙ append_assoc strings_front (with_zero symbol) (flat_map with_zero symbols ++ back)) name_is ∙ append_assoc symbol.name (0 ∷ []) (flat_map with_zero symbols ++ back)

    name_fits : name < 2 ^ 32
    name_fits =
        let whole : length strings ≡ length (strings_front ++ (flat_map with_zero (symbol ∷ symbols) ++ back)) = ap (λ (list : List ℕ). length list) strings_lie in
        omega (arith, whole, name_is, length-append strings_front (flat_map with_zero (symbol ∷ symbols) ++ back))

    entry_is : entry_at order (drop at file) ≡ record { name = name; value = symbol.value; section = 0xFFF1 }
    entry_is = entry_again order (drop at file) name symbol.value (others ++ post) here name_fits values.0

    step_is : kept strings at (record { name = name; value = symbol.value; section = 0xFFF1 }) before ≡ Ok (before ++ symbol ∷ [])
    step_is = kept_again strings at name symbol before (flat_map with_zero symbols ++ back) name_here are_named.0 new.0
