-- How the parts of a file lie after one another.
use Rattle.std.proofs.Common.{◌≡◌, ℕ, ◌+◌, ◌*◌, ◌≤◌, List, [], ◌∷◌, ◌++◌, length, replicate, refl, sym, ap, ◌∙◌, append_assoc, length-append, inl, inr, arith}
use Rattle.std.proofs.lemmas.Bool.{cases_lt}
use Rattle.std.proofs.lemmas.List.{nil_from_length}
use Rattle.brd_word.specs.declared.order.Order.{Order}
use Rattle.brd_word.specs.declared.order.Order.TheVariants.{Big, Little}
use Rattle.brd_base.specs.Space.{top}
use Rattle.brd_mem.specs.Image.{AreAscending}
use Rattle.brd_mem.specs.declared.image.Image.{Image}
use Rattle.brd_mem.specs.declared.image.Segment.{Segment}
use Rattle.brd_elf.specs.Fields.{word}
use Rattle.brd_elf.specs.File.{padding, padded, program_header, program_headers_from, data_of, symbol_table, strings, section_names, data_at, symbols_at, strings_at, names_at, sections_at, body_of}

pub length-program_header : (order : Order) (offset : ℕ) (segment : Segment) → length (program_header order offset segment) ≡ 32
unfolding word
length-program_header Big offset segment = refl
length-program_header Little offset segment = refl

pub length-program_headers_from : (order : Order) (offset : ℕ) (segments : List Segment) → length (program_headers_from order offset segments) ≡ 32 * length segments
unfolding program_headers_from
length-program_headers_from order offset [] = refl
length-program_headers_from order offset (segment ∷ segments) =
    let one = length-program_header order offset segment in
    let others = length-program_headers_from order (offset + length (padded segment.bytes)) segments in
    let both = length-append (program_header order offset segment) (program_headers_from order (offset + length (padded segment.bytes)) segments) in
    omega (arith, one, others, both)

-- segments that ascend have a byte each, so there are no more of them than addresses
pub are_few : (low : ℕ) (segments : List Segment) → AreAscending low segments → low ≤ top → length segments + low ≤ top
are_few low [] ascending below = omega arith
are_few low (segment ∷ segments) ascending below =
    let others = are_few (segment.address + length segment.bytes) segments ascending.3 ascending.2 in
    elim (cases_lt 0 (length segment.bytes)) [
      | inl some ↦ omega (arith, ascending.0)
      | inr none_left ↦ absurd (ascending.1 (nil_from_length segment.bytes (omega arith)))
    ]

add_assoc_three : (a b place : ℕ) → 52 + a ≡ place → 52 + (a + b) ≡ place + b
add_assoc_three a b place is = omega arith

pub record IsLaidOut (image : Image) (with_bytes with_table with_strings body : List ℕ) : Type 0 where
  pub bytes : body ≡ body_of image
  pub symbols : 52 + length with_bytes ≡ symbols_at image
  pub strings : 52 + length with_table ≡ strings_at image
  pub names : 52 + length with_strings ≡ names_at image
  pub sections : 52 + length body ≡ sections_at image

pub laid_out : (image : Image) (programs bytes table texts with_bytes with_table with_strings body : List ℕ)
    → programs ≡ program_headers_from image.order (data_at image) image.segments → bytes ≡ data_of image.segments → table ≡ symbol_table image.order image.symbols → texts ≡ strings image.symbols
    → with_bytes ≡ programs ++ bytes → with_table ≡ with_bytes ++ table → with_strings ≡ with_table ++ texts
    → body ≡ (with_strings ++ section_names) ++ replicate (padding (length texts + length section_names)) 0
    → IsLaidOut image with_bytes with_table with_strings body
laid_out image programs bytes table texts with_bytes with_table with_strings body programs_are bytes_are table_is texts_are with_bytes_is with_table_is with_strings_is body_is =
    record { bytes = whole; symbols = at_symbols; strings = at_strings; names = at_names; sections = ap (λ (list : List ℕ). 52 + length list) by_tail ∙ at_sections }
  where
    tail : List ℕ
    tail = padded (strings image.symbols ++ section_names)

    text_length : length (strings image.symbols ++ section_names) ≡ length texts + length section_names
    text_length = length-append (strings image.symbols) section_names ∙ ap (λ (list : List ℕ). length list + length section_names) (sym texts_are)

    by_tail : body ≡ with_table ++ tail
    by_tail =
        body_is ∙ ap (λ (list : List ℕ). (list ++ section_names) ++ replicate (padding (length texts + length section_names)) 0) (with_strings_is ∙ ap (λ (list : List ℕ). with_table ++ list) texts_are)
        ∙ ap (λ (list : List ℕ). list ++ replicate (padding (length texts + length section_names)) 0) (append_assoc with_table (strings image.symbols) section_names)
        ∙ append_assoc with_table (strings image.symbols ++ section_names) (replicate (padding (length texts + length section_names)) 0)
        ∙ ap (λ (n : ℕ). with_table ++ ((strings image.symbols ++ section_names) ++ replicate (padding n) 0)) (sym text_length)

    front : with_table ≡ program_headers_from image.order (data_at image) image.segments ++ data_of image.segments ++ symbol_table image.order image.symbols
    front = with_table_is ∙ rw (with_bytes_is, programs_are, bytes_are, table_is) refl

    whole : body ≡ body_of image
    whole = by_tail ∙ ap (λ (list : List ℕ). list ++ tail) front

    at_symbols : 52 + length with_bytes ≡ symbols_at image
    at_symbols =
        let e : length with_bytes ≡ length (program_headers_from image.order (data_at image) image.segments) + length (data_of image.segments) = ap (λ (list : List ℕ). length list) (with_bytes_is ∙ rw (programs_are, bytes_are) refl) ∙ length-append (program_headers_from image.order (data_at image) image.segments) (data_of image.segments) in
        let n = length-program_headers_from image.order (data_at image) image.segments in
        omega (arith, e, n)

    at_strings : 52 + length with_table ≡ strings_at image
    at_strings =
        let e : length with_table ≡ length with_bytes + length (symbol_table image.order image.symbols) = ap (λ (list : List ℕ). length list) (with_table_is ∙ ap (λ (list : List ℕ). with_bytes ++ list) table_is) ∙ length-append with_bytes (symbol_table image.order image.symbols) in
        let before = at_symbols in
        rw e (add_assoc_three (length with_bytes) (length (symbol_table image.order image.symbols)) (symbols_at image) before)

    at_names : 52 + length with_strings ≡ names_at image
    at_names =
        let e : length with_strings ≡ length with_table + length (strings image.symbols) = ap (λ (list : List ℕ). length list) (with_strings_is ∙ ap (λ (list : List ℕ). with_table ++ list) texts_are) ∙ length-append with_table (strings image.symbols) in
        rw e (add_assoc_three (length with_table) (length (strings image.symbols)) (strings_at image) at_strings)

    at_sections : 52 + length (with_table ++ tail) ≡ sections_at image
    at_sections = rw length-append (add_assoc_three (length with_table) (length tail) (strings_at image) at_strings)
