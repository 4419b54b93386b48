-- Names in a map, against the list of names.
use Rattle.std.proofs.Common.{◌^◌, ◌≡◌, ℕ, List, [], ◌∷◌, ◌++◌, Option, None, Some, refl, sym, ap, ◌∙◌, append_assoc, append-nil}
use Rattle.std.specs.Prelude.{ℤ, map, bytes_eq, is_some, false}
use Rattle.std.specs.Map.{lookup}
use Rattle.brd_mem.specs.declared.image.Symbol.{Symbol}
use Rattle.brd_asm.specs.declared.key.NameKey.{NameKey}
use Rattle.brd_asm.specs.Values.{Name, named, modulo}
use Rattle.brd_asm.specs.Layout.{is_defined}
use Rattle.brd_asm.specs.Image.{symbol_of}
use Rattle.brd_asm.specs.View as seen

pub value_lookup : (name : List ℕ) (es : List (NameKey × ℤ)) → lookup (λ k. bytes_eq name k.name.now) es ≡ named (map seen.name es) name
value_lookup name [] = refl
value_lookup name (e ∷ es) = let ih = value_lookup name es in rw ih refl

pub names_push : (es : List (NameKey × ℤ)) (e : NameKey × ℤ) → map seen.name (es ++ e ∷ []) ≡ map seen.name es ++ seen.name e ∷ []
names_push [] e = refl
names_push (x ∷ es) e = ap (λ (ns : List Name). seen.name x ∷ ns) (names_push es e)

none_of : (value : Option ℤ) → is_some value ≡ false → value ≡ None
none_of None e = refl
none_of (Some v) e = absurd (cc)

-- a name that has a value in the map is defined
pub is_named : (name : List ℕ) (names : List Name) (es : List (NameKey × ℤ)) (value : Option ℤ) → map seen.name es ≡ names → value ≡ lookup (λ k. bytes_eq name k.name.now) es → is_some value ≡ is_defined names name
is_named name names es value seen_is found = ap is_some (found ∙ value_lookup name es ∙ ap (λ ns. named ns name) seen_is)

-- a name that isn't defined is none of the map's keys
pub absent : (name : List ℕ) (names : List Name) (es : List (NameKey × ℤ)) → map seen.name es ≡ names → is_defined names name ≡ false → lookup (λ k. bytes_eq name k.name.now) es ≡ None
absent name names es seen_is free = value_lookup name es ∙ ap (λ ns. named ns name) seen_is ∙ none_of (named names name) free

pub with_new : (value : ℤ) (name : NameKey) (names : List Name) (es fs : List (NameKey × ℤ)) → map seen.name es ≡ names
    → (stored : ℤ) → stored ≡ value → fs ≡ es ++ (name, stored) ∷ [] → map seen.name fs ≡ names ++ record { name = name.name.now; value = value } ∷ []
with_new value name names es fs seen_is stored is fs_is =
    ap (λ xs. map seen.name xs) fs_is
    ∙ names_push es (name, stored)
    ∙ ap (λ (v : ℤ). map seen.name es ++ record { name = name.name.now; value = v } ∷ []) is
    ∙ ap (λ ns. ns ++ record { name = name.name.now; value = value } ∷ []) seen_is

-- ---- the symbols of the names

-- with the symbol of the first of the names that are left, the symbols so far and those of what is left are still all
pub symbols_more : (left rest : List (NameKey × ℤ)) (all symbols new : List Symbol) (name : NameKey) (value : ℤ) (bytes : List ℕ) (word : ℕ) → left ≡ (name, value) ∷ rest
    → symbols ++ map symbol_of (map seen.name left) ≡ all → bytes ≡ name.name.now → word ≡ modulo value (2 ^ 32)
    → new ≡ symbols ++ record { name = bytes; value = word } ∷ [] → new ++ map symbol_of (map seen.name rest) ≡ all
symbols_more left rest all symbols new name value bytes word left_is so_far bytes_are word_is new_is =
    ap (λ (ss : List Symbol). ss ++ map symbol_of (map seen.name rest)) new_is
    ∙ append_assoc symbols (record { name = bytes; value = word } ∷ []) (map symbol_of (map seen.name rest))
    ∙ ap (λ (n : List ℕ). symbols ++ record { name = n; value = word } ∷ map symbol_of (map seen.name rest)) bytes_are
    ∙ ap (λ (v : ℕ). symbols ++ record { name = name.name.now; value = v } ∷ map symbol_of (map seen.name rest)) word_is
    ∙ ap (λ (es : List (NameKey × ℤ)). symbols ++ map symbol_of (map seen.name es)) (sym left_is)
    ∙ so_far

-- where no name is left, they are all
pub symbols_all : (left : List (NameKey × ℤ)) (all symbols : List Symbol) → left ≡ [] → symbols ++ map symbol_of (map seen.name left) ≡ all → symbols ≡ all
symbols_all left all symbols left_is so_far = sym (append-nil symbols) ∙ ap (λ (es : List (NameKey × ℤ)). symbols ++ map symbol_of (map seen.name es)) (sym left_is) ∙ so_far
