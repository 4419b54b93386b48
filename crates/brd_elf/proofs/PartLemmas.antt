-- Putting one segment or symbol after the other, as a loop does.
use Rattle.std.proofs.Common.{◌≡◌, ℕ, ◌+◌, ◌<◌, List, [], ◌∷◌, ◌++◌, length, drop, sym, ap, ◌∙◌, append_assoc, length-append, arith}
use Rattle.std.specs.Prelude.{flat_map}
use Rattle.std.proofs.Math.ListN.{get_or}
use Rattle.std.proofs.lemmas.List.{drop_more}
use Rattle.brd_word.specs.declared.order.Order.{Order}
use Rattle.brd_mem.specs.declared.image.Segment.{Segment}
use Rattle.brd_mem.specs.declared.image.Symbol.{Symbol}
use Rattle.brd_elf.specs.File.{padded, program_header, program_headers_from, symbol_entry, symbol_entries_from}

-- what is left at a place, by its first element
pub split : {X : Type 0} → (xs : List X) (i : ℕ) (x : X) → i < length xs → x ≡ get_or xs i x → drop i xs ≡ x ∷ drop (i + 1) xs
split xs i x lt is = drop_more xs i x lt ∙ ap (λ y. y ∷ drop (i + 1) xs) (sym is)

pub headers_go_on : (order : Order) (start i : ℕ) (programs loaded more_programs more_loaded all : List ℕ) (segments : List Segment) (x : Segment)
    → i < length segments → x ≡ get_or segments i x
    → more_programs ≡ programs ++ program_header order (start + length loaded) x → more_loaded ≡ loaded ++ padded x.bytes
    → programs ++ program_headers_from order (start + length loaded) (drop i segments) ≡ all
    → more_programs ++ program_headers_from order (start + length more_loaded) (drop (i + 1) segments) ≡ all
unfolding program_headers_from
headers_go_on order start i programs loaded more_programs more_loaded all segments x lt is programs_are loaded_are so_far =
    let len : length more_loaded ≡ length loaded + length (padded x.bytes) = ap (λ (l : List ℕ). length l) loaded_are ∙ length-append loaded (padded x.bytes) in
    let place : start + length more_loaded ≡ start + length loaded + length (padded x.bytes) = omega (arith, len) in
    ap (λ l. l ++ program_headers_from order (start + length more_loaded) (drop (i + 1) segments)) programs_are
    ∙ ap (λ n. (programs ++ program_header order (start + length loaded) x) ++ program_headers_from order n (drop (i + 1) segments)) place
    ∙ append_assoc programs (program_header order (start + length loaded) x) (program_headers_from order (start + length loaded + length (padded x.bytes)) (drop (i + 1) segments))
    ∙ ap (λ l. programs ++ program_headers_from order (start + length loaded) l) (sym (split segments i x lt is))
    ∙ so_far

-- The bytes of one element more; `rest` says which one it is.
pub flat_goes_on : {X : Type 0} (bytes_of : X → List ℕ) (i : ℕ) (out more_out all : List ℕ) (xs : List X) (x : X) → drop i xs ≡ x ∷ drop (i + 1) xs
    → more_out ≡ out ++ bytes_of x → out ++ flat_map bytes_of (drop i xs) ≡ all → more_out ++ flat_map bytes_of (drop (i + 1) xs) ≡ all
flat_goes_on bytes_of i out more_out all xs x rest out_is so_far =
    ap (λ l. l ++ flat_map bytes_of (drop (i + 1) xs)) out_is
    ∙ append_assoc out (bytes_of x) (flat_map bytes_of (drop (i + 1) xs))
    ∙ ap (λ l. out ++ flat_map bytes_of l) (sym rest)
    ∙ so_far

pub entries_go_on : (order : Order) (i : ℕ) (table strings more_table more_strings all : List ℕ) (symbols : List Symbol) (x : Symbol)
    → i < length symbols → x ≡ get_or symbols i x
    → more_table ≡ table ++ symbol_entry order (length strings) x.value → more_strings ≡ strings ++ x.name ++ 0 ∷ []
    → table ++ symbol_entries_from order (length strings) (drop i symbols) ≡ all
    → more_table ++ symbol_entries_from order (length more_strings) (drop (i + 1) symbols) ≡ all
unfolding symbol_entries_from
entries_go_on order i table strings more_table more_strings all symbols x lt is table_is strings_are so_far =
    let before = length-append strings x.name in
    let len : length more_strings ≡ length (strings ++ x.name) + 1 = ap (λ (l : List ℕ). length l) strings_are ∙ length-append (strings ++ x.name) (0 ∷ []) in
    let place : length more_strings ≡ length strings + length x.name + 1 = omega (arith, len, before) in
    ap (λ l. l ++ symbol_entries_from order (length more_strings) (drop (i + 1) symbols)) table_is
    ∙ ap (λ n. (table ++ symbol_entry order (length strings) x.value) ++ symbol_entries_from order n (drop (i + 1) symbols)) place
    ∙ append_assoc table (symbol_entry order (length strings) x.value) (symbol_entries_from order (length strings + length x.name + 1) (drop (i + 1) symbols))
    ∙ ap (λ l. table ++ symbol_entries_from order (length strings) l) (sym (split symbols i x lt is))
    ∙ so_far
