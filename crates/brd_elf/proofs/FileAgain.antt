-- A file that was written is read again.
use Rattle.std.proofs.Common.{◌≡◌, ℕ, suc, ◌+◌, ◌*◌, ◌/◌, ◌%◌, ◌^◌, ◌<◌, ◌≤◌, true, false, eqb, List, [], ◌∷◌, ◌++◌, length, take, drop, replicate, Some, Result, Ok, refl, sym, ap, ◌∙◌, append_assoc, length-append, arith}
use Rattle.std.specs.Prelude.{flat_map}
use Rattle.std.specs.List.{AllByRecursion}
use Rattle.std.proofs.lemmas.Bool.{le-leb, ne_eqb, eq-eqb, and_from, or_right}
use Rattle.std.proofs.lemmas.List.{append-nil, take_at, drop_at, drop-drop}
use Rattle.brd_word.specs.declared.order.Order.{Order}
use Rattle.brd_word.specs.declared.order.Order.TheVariants.{Big, Little}
use Rattle.brd_base.specs.Space.{base}
use Rattle.brd_mem.specs.Image.{IsPlain, AreAscending, AreNamed}
use Rattle.brd_mem.specs.declared.image.Image.{Image}
use Rattle.brd_mem.specs.declared.image.Segment.{Segment}
use Rattle.brd_mem.specs.declared.image.Symbol.{Symbol}
use Rattle.brd_elf.specs.declared.fault.ElfFault.{ElfFault}
use Rattle.brd_elf.specs.declared.header.Header.{Header}
use Rattle.brd_elf.specs.declared.header.Table.{Table}
use Rattle.brd_elf.specs.declared.sections.Section.{Section}
use Rattle.brd_elf.specs.declared.symbols.Entry.{Entry}
use Rattle.brd_elf.specs.Fields.{half_at, word_at, word, has_bytes}
use Rattle.brd_text.specs.Faults.{◌>>=◌}
use Rattle.brd_elf.specs.Header.{header_of}
use Rattle.brd_elf.specs.Segments.{loaded_from, segments_of}
use Rattle.brd_elf.specs.Symbols.{section_at, section_bytes, symbol_table_from, is_symbol_table, is_string_table, linked, strings_of, entry_at, kept, kept_from, symbols_by, symbols_of}
use Rattle.brd_elf.specs.Meaning.{meaning}
use Rattle.brd_elf.specs.File.{padding, padded, words, program_headers_from, data_of, symbol_entries_from, symbol_table, strings, section_names, data_at, symbols_at, strings_at, names_at, sections_at, section_headers, programs_at, header_bytes, file, Fits, HasWords}
use Rattle.brd_elf.proofs.BodyLemmas.{length-program_headers_from}
use Rattle.brd_elf.proofs.FieldLemmas.{section_again}
use Rattle.brd_elf.proofs.HeaderLemmas.{own_header, length-header_bytes, header_again}
use Rattle.brd_elf.proofs.SegmentsAgain.{segments_again, nothing_yet}
use Rattle.brd_elf.proofs.SymbolsAgain.{with_zero, length-symbol_entries_from, symbols_again, none_named}

-- ---- where the parts of a file lie

-- bytes that are made of six parts, seen from each of them
record Parts (bytes header programs segments table text sections : List ℕ) : Type 0 where
  at_programs : bytes ≡ header ++ (programs ++ (segments ++ (table ++ (text ++ sections))))
  at_segments : bytes ≡ (header ++ programs) ++ (segments ++ (table ++ (text ++ sections)))
  at_table : bytes ≡ ((header ++ programs) ++ segments) ++ (table ++ (text ++ sections))
  at_text : bytes ≡ (((header ++ programs) ++ segments) ++ table) ++ (text ++ sections)
  at_sections : bytes ≡ ((((header ++ programs) ++ segments) ++ table) ++ text) ++ sections

parts : (header programs segments table text sections : List ℕ)
    → Parts ((header ++ (((programs ++ segments) ++ table) ++ text)) ++ sections) header programs segments table text sections
parts header programs segments table text sections = record {
  at_programs = simp append_assoc;
  at_segments = simp append_assoc;
  at_table = simp append_assoc;
  at_text = simp append_assoc;
  at_sections = simp append_assoc;
}

abbrev header_part : Image → List ℕ
header_part image = header_bytes image.order image.entry (programs_at image.segments) (sections_at image) (length image.segments)

abbrev programs_part : Image → List ℕ
programs_part image = program_headers_from image.order (data_at image) image.segments

abbrev text_part : Image → List ℕ
text_part image = padded (strings image.symbols ++ section_names)

abbrev sections_part : Image → List ℕ
sections_part image = section_headers image.order (symbols_at image) (length (symbol_table image.order image.symbols)) (strings_at image) (length (strings image.symbols)) (names_at image)

record Lies (image : Image) (bytes : List ℕ) : Type 0 where
  parts : Parts bytes (header_part image) (programs_part image) (data_of image.segments) (symbol_table image.order image.symbols) (text_part image) (sections_part image)
  segments_len : length (header_part image ++ programs_part image) ≡ data_at image
  table_len : length ((header_part image ++ programs_part image) ++ data_of image.segments) ≡ symbols_at image
  text_len : length (((header_part image ++ programs_part image) ++ data_of image.segments) ++ symbol_table image.order image.symbols) ≡ strings_at image
  sections_len : length ((((header_part image ++ programs_part image) ++ data_of image.segments) ++ symbol_table image.order image.symbols) ++ text_part image) ≡ sections_at image
  whole : length bytes ≡ sections_at image + 160

length-section_headers : (order : Order) (symbols_at symbols_size strings_at strings_size names_at : ℕ) → length (section_headers order symbols_at symbols_size strings_at strings_size names_at) ≡ 160
unfolding word
length-section_headers Big symbols_at symbols_size strings_at strings_size names_at = refl
length-section_headers Little symbols_at symbols_size strings_at strings_size names_at = refl

longer : (front part : List ℕ) (at : ℕ) → length front ≡ at → length (front ++ part) ≡ at + length part
longer front part at e = length-append front part ∙ ap (λ (n : ℕ). n + length part) e

lies : (image : Image) → Lies image (file image)
unfolding file
lies image = record { parts = split; segments_len = first; table_len = second; text_len = third; sections_len = fourth; whole = fifth }
  where
    split : Parts (file image) (header_part image) (programs_part image) (data_of image.segments) (symbol_table image.order image.symbols) (text_part image) (sections_part image)
    split = parts (header_part image) (programs_part image) (data_of image.segments) (symbol_table image.order image.symbols) (text_part image) (sections_part image)

    first : length (header_part image ++ programs_part image) ≡ data_at image
    first = longer (header_part image) (programs_part image) 52 (length-header_bytes image.order image.entry (programs_at image.segments) (sections_at image) (length image.segments)) ∙ ap (λ (n : ℕ). 52 + n) (length-program_headers_from image.order (data_at image) image.segments)

    second : length ((header_part image ++ programs_part image) ++ data_of image.segments) ≡ symbols_at image
    second = longer (header_part image ++ programs_part image) (data_of image.segments) (data_at image) first

    third : length (((header_part image ++ programs_part image) ++ data_of image.segments) ++ symbol_table image.order image.symbols) ≡ strings_at image
    third = longer ((header_part image ++ programs_part image) ++ data_of image.segments) (symbol_table image.order image.symbols) (symbols_at image) second

    fourth : length ((((header_part image ++ programs_part image) ++ data_of image.segments) ++ symbol_table image.order image.symbols) ++ text_part image) ≡ sections_at image
    fourth = longer (((header_part image ++ programs_part image) ++ data_of image.segments) ++ symbol_table image.order image.symbols) (text_part image) (strings_at image) third

    fifth : length (file image) ≡ sections_at image + 160
    fifth =
        ap (λ (list : List ℕ). length list) split.at_sections
        ∙ longer ((((header_part image ++ programs_part image) ++ data_of image.segments) ++ symbol_table image.order image.symbols) ++ text_part image) (sections_part image) (sections_at image) fourth
        ∙ ap (λ (n : ℕ). sections_at image + n) (length-section_headers image.order (symbols_at image) (length (symbol_table image.order image.symbols)) (strings_at image) (length (strings image.symbols)) (names_at image))

pub length-file : (image : Image) → length (file image) ≡ sections_at image + 160
length-file image = (lies image).whole

-- ---- the segments

by_table : (order : Order) (bytes : List ℕ) (offset count : ℕ) → eqb count 0 ≡ false → has_bytes bytes offset (32 * count) ≡ true
    → segments_of order bytes (record { offset = offset; entry_size = 32; count = count }) ≡ loaded_from order bytes offset count []
unfolding segments_of
by_table order bytes offset count some long = rw (some, long) refl

no_segments : (order : Order) (bytes : List ℕ) → segments_of order bytes (record { offset = 0; entry_size = 32; count = 0 }) ≡ Ok []
unfolding segments_of
no_segments order bytes = refl

segments_are : (order : Order) (bytes : List ℕ) (offset : ℕ) (segments : List Segment) (front post data_front back : List ℕ)
    → bytes ≡ front ++ (program_headers_from order offset segments ++ post) → length front ≡ 52
    → bytes ≡ data_front ++ (data_of segments ++ back) → length data_front ≡ offset
    → length bytes < 2 ^ 32 → 52 + 32 * length segments ≤ length bytes → AreAscending base segments
    → segments_of order bytes (record { offset = programs_at segments; entry_size = 32; count = length segments }) ≡ Ok segments
segments_are order bytes offset [] front post data_front back headers_lie front_len data_lies data_len short long ascending = no_segments order bytes
segments_are order bytes offset (segment ∷ segments) front post data_front back headers_lie front_len data_lies data_len short long ascending =
    by_table order bytes 52 (length (segment ∷ segments)) (ne_eqb (length (segment ∷ segments)) 0 (λ none. omega arith)) (le-leb (52 + 32 * length (segment ∷ segments)) (length bytes) long)
    ∙ segments_again order bytes 52 offset base (segment ∷ segments) [] front post data_front back headers_lie front_len data_lies data_len short ascending (omega arith) (nothing_yet base)

-- ---- the symbols

by_sections : (order : Order) (bytes : List ℕ) (table : Table) (at : ℕ) (texts : List ℕ) → eqb table.offset 0 ≡ false → eqb table.count 0 ≡ false → eqb table.entry_size 40 ≡ true → has_bytes bytes table.offset (40 * table.count) ≡ true
    → symbol_table_from order bytes table.offset table.count ≡ Some at → strings_of order bytes table at ≡ Ok texts
    → symbols_of order bytes table ≡ kept_from order bytes texts (section_at order (drop at bytes)).offset ((section_at order (drop at bytes)).size / 16) []
unfolding symbols_of symbols_by
by_sections order bytes table at texts placed some size long first found = rw (placed, some, size, long, first, found) refl

by_strings : (order : Order) (bytes : List ℕ) (table : Table) (at : ℕ) → is_symbol_table bytes table (section_at order (drop at bytes)) ≡ true → is_string_table bytes (linked order bytes table (section_at order (drop at bytes))) ≡ true
    → strings_of order bytes table at ≡ Ok (section_bytes bytes (linked order bytes table (section_at order (drop at bytes))))
unfolding strings_of
by_strings order bytes table at symbols texts = rw (symbols, texts) refl

-- the second of four section headers is the first of a symbol table
second_is : (order : Order) (bytes : List ℕ) (at : ℕ) → word_at order (drop at bytes) 4 ≡ 0 → word_at order (drop (at + 40) bytes) 4 ≡ 2 → symbol_table_from order bytes at 4 ≡ Some (at + 40)
unfolding symbol_table_from
second_is order bytes at null second = rw (null, second) refl

skipped : (texts : List ℕ) (at : ℕ) (entry : Entry) (symbols : List Symbol) → eqb entry.section 0 ≡ true → kept texts at entry symbols ≡ Ok symbols
unfolding kept
skipped texts at entry symbols none = rw none refl

kept_more : (order : Order) (bytes texts : List ℕ) (at count : ℕ) (symbols : List Symbol) → eqb (entry_at order (drop at bytes)).section 0 ≡ true → kept_from order bytes texts at (suc count) symbols ≡ kept_from order bytes texts (at + 16) count symbols
unfolding kept_from
kept_more order bytes texts at count symbols none =
    ap (λ (step : Result (List Symbol) ElfFault). step >>= λ more. kept_from order bytes texts (at + 16) count more) (skipped texts at (entry_at order (drop at bytes)) symbols none)

pub null_section : (order : Order) (rest : List ℕ) → half_at order (replicate 16 0 ++ rest) 14 ≡ 0
unfolding half_at
null_section Big rest = refl
null_section Little rest = refl

second_header : (order : Order) (symbols_at symbols_size strings_at strings_size names_at : ℕ) → drop 40 (section_headers order symbols_at symbols_size strings_at strings_size names_at)
    ≡ words order (1 ∷ 2 ∷ 0 ∷ 0 ∷ symbols_at ∷ symbols_size ∷ 2 ∷ 1 ∷ 4 ∷ 16 ∷ []) ++ (words order (9 ∷ 3 ∷ 0 ∷ 0 ∷ strings_at ∷ strings_size ∷ 0 ∷ 0 ∷ 1 ∷ 0 ∷ []) ++ words order (17 ∷ 3 ∷ 0 ∷ 0 ∷ names_at ∷ length section_names ∷ 0 ∷ 0 ∷ 1 ∷ 0 ∷ []))
unfolding word
second_header Big symbols_at symbols_size strings_at strings_size names_at = refl
second_header Little symbols_at symbols_size strings_at strings_size names_at = refl

third_header : (order : Order) (symbols_at symbols_size strings_at strings_size names_at : ℕ) → drop 80 (section_headers order symbols_at symbols_size strings_at strings_size names_at)
    ≡ words order (9 ∷ 3 ∷ 0 ∷ 0 ∷ strings_at ∷ strings_size ∷ 0 ∷ 0 ∷ 1 ∷ 0 ∷ []) ++ words order (17 ∷ 3 ∷ 0 ∷ 0 ∷ names_at ∷ length section_names ∷ 0 ∷ 0 ∷ 1 ∷ 0 ∷ [])
unfolding word
third_header Big symbols_at symbols_size strings_at strings_size names_at = refl
third_header Little symbols_at symbols_size strings_at strings_size names_at = refl

null_header : (order : Order) (symbols_at symbols_size strings_at strings_size names_at : ℕ) → word_at order (section_headers order symbols_at symbols_size strings_at strings_size names_at) 4 ≡ 0
unfolding word word_at
null_header Big symbols_at symbols_size strings_at strings_size names_at = refl
null_header Little symbols_at symbols_size strings_at strings_size names_at = refl

symbols_are : (image : Image) (bytes : List ℕ) → Lies image bytes → length bytes < 2 ^ 32 → AllByRecursion (λ symbol. symbol.value < 2 ^ 32) image.symbols → AreNamed image.symbols
    → symbols_of image.order bytes (record { offset = sections_at image; entry_size = 40; count = 4 }) ≡ Ok image.symbols
symbols_are image bytes lie short values are_named =
    by_sections image.order bytes table (sections_at image + 40) (strings image.symbols) (ne_eqb (sections_at image) 0 (λ none. omega arith)) refl refl (le-leb (sections_at image + 160) (length bytes) (omega (arith, lie.whole)))
    (second_is image.order bytes (sections_at image) first_kind (ap (λ (s : Section). s.kind) second_section)) strings_found
    ∙ ap (λ (s : Section). kept_from image.order bytes (strings image.symbols) s.offset (s.size / 16) []) second_section
    ∙ ap (λ (n : ℕ). kept_from image.order bytes (strings image.symbols) (symbols_at image) n []) count
    ∙ kept_more image.order bytes (strings image.symbols) (symbols_at image) (length image.symbols) [] (eq-eqb (entry_at image.order (drop (symbols_at image) bytes)).section 0 zero_section)
    ∙ symbols_again image.order bytes (strings image.symbols) (symbols_at image + 16) 1 image.symbols [] (front ++ replicate 16 0) (text_part image ++ sections_part image) (0 ∷ []) [] entries_lie
    (longer front (replicate 16 0) (symbols_at image) lie.table_len) (ap (λ (list : List ℕ). 0 ∷ list) (sym (append-nil (flat_map with_zero image.symbols)))) refl (omega (arith, text_long, lie.whole)) values are_named (none_named image.symbols)
  where
    table : Table
    table = record { offset = sections_at image; entry_size = 40; count = 4 }

    front : List ℕ
    front = (header_part image ++ programs_part image) ++ data_of image.segments

    entries : List ℕ
    entries = symbol_entries_from image.order 1 image.symbols

    gap : List ℕ
    gap = replicate (padding (length (strings image.symbols ++ section_names))) 0

    text_long : length (text_part image) ≡ length (strings image.symbols) + length section_names + length gap
    text_long = length-append (strings image.symbols ++ section_names) gap ∙ ap (λ (n : ℕ). n + length gap) (length-append (strings image.symbols) section_names)

    headers : drop (sections_at image) bytes ≡ sections_part image
    headers = ap (λ (list : List ℕ). drop (sections_at image) list) lie.parts.at_sections ∙ drop_at ((front ++ symbol_table image.order image.symbols) ++ text_part image) (sections_part image) (sections_at image) lie.sections_len

    headers_from : (n : ℕ) → drop (sections_at image + n) bytes ≡ drop n (sections_part image)
    headers_from n = sym (drop-drop n (sections_at image) bytes) ∙ ap (λ (list : List ℕ). drop n list) headers

    first_kind : word_at image.order (drop (sections_at image) bytes) 4 ≡ 0
    first_kind = ap (λ (list : List ℕ). word_at image.order list 4) headers ∙ null_header image.order (symbols_at image) (length (symbol_table image.order image.symbols)) (strings_at image) (length (strings image.symbols)) (names_at image)

    second_section : section_at image.order (drop (sections_at image + 40) bytes) ≡ record { kind = 2; offset = symbols_at image; size = length (symbol_table image.order image.symbols); link = 2; entry_size = 16 }
    second_section =
        section_again image.order (drop (sections_at image + 40) bytes) 1 2 (symbols_at image) (length (symbol_table image.order image.symbols)) 2 1 4 16 _ (headers_from 40 ∙ second_header image.order (symbols_at image) (length (symbol_table image.order image.symbols)) (strings_at image) (length (strings image.symbols)) (names_at image))
        (omega arith) (omega (arith, lie.whole)) (omega (arith, lie.whole)) (omega arith) (omega arith)

    third_section : section_at image.order (drop (sections_at image + 80) bytes) ≡ record { kind = 3; offset = strings_at image; size = length (strings image.symbols); link = 0; entry_size = 0 }
    third_section =
        section_again image.order (drop (sections_at image + 80) bytes) 9 3 (strings_at image) (length (strings image.symbols)) 0 0 1 0 _ (headers_from 80 ∙ third_header image.order (symbols_at image) (length (symbol_table image.order image.symbols)) (strings_at image) (length (strings image.symbols)) (names_at image))
        (omega arith) (omega (arith, lie.whole)) (omega (arith, text_long, lie.whole)) (omega arith) (omega arith)

    table_long : length (symbol_table image.order image.symbols) ≡ 16 + 16 * length image.symbols
    table_long = omega (arith, length-symbol_entries_from image.order 1 image.symbols)

    count : length (symbol_table image.order image.symbols) / 16 ≡ suc (length image.symbols)
    count = omega (arith, table_long)

    rest : length (symbol_table image.order image.symbols) % 16 ≡ 0
    rest = omega (arith, table_long)

    is_table : is_symbol_table bytes table (record { kind = 2; offset = symbols_at image; size = length (symbol_table image.order image.symbols); link = 2; entry_size = 16 }) ≡ true
    is_table =
        and_from _ true (and_from (eqb (length (symbol_table image.order image.symbols) % 16) 0) _ (eq-eqb (length (symbol_table image.order image.symbols) % 16) 0 rest)
        (or_right (eqb (length (symbol_table image.order image.symbols)) 0) _ (le-leb (symbols_at image + length (symbol_table image.order image.symbols)) (length bytes) (omega (arith, lie.whole))))) refl

    is_strings : is_string_table bytes (record { kind = 3; offset = strings_at image; size = length (strings image.symbols); link = 0; entry_size = 0 }) ≡ true
    is_strings = or_right (eqb (length (strings image.symbols)) 0) _ (le-leb (strings_at image + length (strings image.symbols)) (length bytes) (omega (arith, text_long, lie.whole)))

    links : linked image.order bytes table (section_at image.order (drop (sections_at image + 40) bytes)) ≡ record { kind = 3; offset = strings_at image; size = length (strings image.symbols); link = 0; entry_size = 0 }
    links = ap (λ (s : Section). linked image.order bytes table s) second_section ∙ third_section

    text_here : drop (strings_at image) bytes ≡ strings image.symbols ++ (section_names ++ (gap ++ sections_part image))
    text_here =
        ap (λ (list : List ℕ). drop (strings_at image) list) lie.parts.at_text ∙ drop_at (front ++ symbol_table image.order image.symbols) (text_part image ++ sections_part image) (strings_at image) lie.text_len
        ∙ append_assoc (strings image.symbols ++ section_names) gap (sections_part image)
        ∙ append_assoc (strings image.symbols) section_names (gap ++ sections_part image)

    strings_are : section_bytes bytes (linked image.order bytes table (section_at image.order (drop (sections_at image + 40) bytes))) ≡ strings image.symbols
    strings_are =
        ap (λ (s : Section). section_bytes bytes s) links ∙ ap (λ (list : List ℕ). take (length (strings image.symbols)) list) text_here
        ∙ take_at (strings image.symbols) (section_names ++ (gap ++ sections_part image)) (length (strings image.symbols)) refl

    ok : List ℕ → Result (List ℕ) ElfFault
    ok list = Ok list

    strings_found : strings_of image.order bytes table (sections_at image + 40) ≡ Ok (strings image.symbols)
    strings_found =
        by_strings image.order bytes table (sections_at image + 40) (ap (λ (s : Section). is_symbol_table bytes table s) second_section ∙ is_table) (ap (λ (s : Section). is_string_table bytes s) links ∙ is_strings)
        ∙ ap (λ (list : List ℕ). ok list) strings_are

    entries_lie : bytes ≡ (front ++ replicate 16 0) ++ (entries ++ (text_part image ++ sections_part image))
    entries_lie = lie.parts.at_table ∙ ap (λ (list : List ℕ). front ++ list) (append_assoc (replicate 16 0) entries (text_part image ++ sections_part image)) ∙ sym (append_assoc front (replicate 16 0) (entries ++ (text_part image ++ sections_part image)))

    zero_section : (entry_at image.order (drop (symbols_at image) bytes)).section ≡ 0
    zero_section =
        ap (λ (list : List ℕ). half_at image.order list 14) (ap (λ (list : List ℕ). drop (symbols_at image) list) (entries_lie ∙ append_assoc front (replicate 16 0) (entries ++ (text_part image ++ sections_part image))) ∙ drop_at front (replicate 16 0 ++ (entries ++ (text_part image ++ sections_part image))) (symbols_at image) lie.table_len)
        ∙ null_section image.order (entries ++ (text_part image ++ sections_part image))

-- ---- the whole file

pub by_three : (bytes : List ℕ) (header : Header) (segments : List Segment) (symbols : List Symbol) → header_of bytes ≡ Ok header → segments_of header.order bytes header.programs ≡ Ok segments → symbols_of header.order bytes header.sections ≡ Ok symbols
    → meaning bytes ≡ Ok (record { order = header.order; entry = header.entry; segments = segments; symbols = symbols })
unfolding meaning
by_three bytes header segments symbols header_is segments_is symbols_is = rw (header_is, segments_is, symbols_is) refl

programs_fit : (segments : List Segment) → programs_at segments < 2 ^ 32
programs_fit [] = omega arith
programs_fit (segment ∷ segments) = omega arith

pub read_again : (image : Image) → IsPlain image → HasWords image → Fits image → meaning (file image) ≡ Ok image
read_again image plain words fits =
    by_three (file image) (own_header image.order image.entry (programs_at image.segments) (sections_at image) (length image.segments)) image.segments image.symbols
    (header_again image.order (file image) image.entry (programs_at image.segments) (sections_at image) (length image.segments) _ lie.parts.at_programs (omega (arith, lie.whole)) words.entry (programs_fit image.segments) (omega (arith, lie.whole, fits.short)) fits.segments)
    (segments_are image.order (file image) (data_at image) image.segments (header_part image) _ (header_part image ++ programs_part image) _ lie.parts.at_programs
    (length-header_bytes image.order image.entry (programs_at image.segments) (sections_at image) (length image.segments)) lie.parts.at_segments lie.segments_len fits.short (omega (arith, lie.whole)) plain.segments)
    (symbols_are image (file image) lie fits.short words.values plain.symbols)
  where
    lie : Lies image (file image)
    lie = lies image
