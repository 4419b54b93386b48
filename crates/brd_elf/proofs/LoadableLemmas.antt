-- What a file means can be loaded: its segments have bytes and lie apart, and no name stands twice.
use Rattle.std.proofs.Common.{◌≡◌, ◌≢◌, ℕ, zero, suc, ◌+◌, ◌-◌, ◌*◌, ◌/◌, ◌<◌, Bool, true, false, cond, not, eqb, ltb, List, [], ◌∷◌, ◌++◌, length, take, drop, replicate, Option, None, Some, Result, Ok, Err, refl, sym, ap, ◌∙◌, subst, inl, inr, ◌⊎◌, arith}
use Rattle.std.specs.Prelude.{◌&&◌, ◌||◌}
use Rattle.std.specs.List.{AllByRecursion}
use Rattle.std.specs.Str.{bytes_eq}
use Rattle.std.proofs.lemmas.Bool.{and_cases, or_parts, eqb-false, eqb-true, leb-true, ltb-false, not-false, true≢false}
use Rattle.std.proofs.lemmas.List.{length-append, length-take, length-drop, length-replicate}
use Rattle.std.proofs.lemmas.Slice.Eq.{bytes_eq-Decides}
use Rattle.brd_word.specs.declared.order.Order.{Order}
use Rattle.brd_text.specs.Faults.{◌>>=◌}
use Rattle.brd_text.proofs.FaultLemmas.{ok_is, bind_ok}
use Rattle.brd_mem.specs.declared.image.Image.{Image}
use Rattle.brd_mem.specs.declared.image.Segment.{Segment}
use Rattle.brd_mem.specs.declared.image.Symbol.{Symbol}
use Rattle.brd_mem.specs.Image.{IsApart, AreApart, AreDistinct, IsLoadable}
use Rattle.brd_elf.specs.declared.fault.ElfFault.{ElfFault}
use Rattle.brd_elf.specs.declared.fault.ElfFault.TheVariants as fault
use Rattle.brd_elf.specs.declared.header.Table.{Table}
use Rattle.brd_elf.specs.declared.segments.ProgramHeader.{ProgramHeader}
use Rattle.brd_elf.specs.declared.symbols.Entry.{Entry}
use Rattle.brd_elf.specs.Header.{header_of}
use Rattle.brd_elf.specs.Fields.{has_bytes}
use Rattle.brd_elf.specs.Segments.{program_header_at, lies_in, is_dynamic, is_skipped, has_bad_sizes, is_cut, loaded_bytes, load_fault, loaded_unless, loaded, loaded_from, segments_of}
use Rattle.brd_elf.specs.Symbols.{entry_at, section_at, string_of, strings_of, is_named, with_symbol, named, kept, kept_from, symbol_table_from, symbols_by, symbols_of}
use Rattle.brd_elf.specs.Meaning.{meaning}
use Rattle.brd_elf.proofs.HeaderFaults.{without_fault}

-- ---- steps that were passed

-- a test that is passed
not_refused : {A : Type 0} (test : Bool) (f : ElfFault) (next : Result A ElfFault) (x : A) → cond test (Err f) next ≡ Ok x → (test ≡ false) × (next ≡ Ok x)
not_refused true f next x is = absurd cc
not_refused false f next x is = (refl, is)

-- a value that is there at once, or comes by the next step
at_once : {A : Type 0} (test : Bool) (first : A) (next : Result A ElfFault) (x : A) → cond test (Ok first) next ≡ Ok x → (first ≡ x) ⊎ ((test ≡ false) × (next ≡ Ok x))
at_once true first next x is = inl (ok_is first x is)
at_once false first next x is = inr (refl, is)

-- ---- lists with one more

all_push : {A : Type 0} (P : A → Type 0) (xs : List A) (x : A) → AllByRecursion P xs → P x → AllByRecursion P (xs ++ x ∷ [])
all_push P [] x are is = (is, tt)
all_push P (first ∷ xs) x are is = (are.0, all_push P xs x are.1 is)

-- what lies nowhere where a segment does is apart from it
apart_from : (segment other : Segment) → (ltb segment.address (other.address + length other.bytes) && ltb other.address (segment.address + length segment.bytes)) ≡ false → IsApart segment other
apart_from segment other free =
    elim (and_cases _ _ free) [
      | inl behind ↦ inr (ltb-false segment.address (other.address + length other.bytes) behind)
      | inr before ↦ inl (ltb-false other.address (segment.address + length segment.bytes) before)
    ]

apart-push : (segments : List Segment) (segment : Segment) → AreApart segments → lies_in segments segment.address (segment.address + length segment.bytes) ≡ false → AreApart (segments ++ segment ∷ [])
apart-push [] segment apart free = (tt, tt)
apart-push (first ∷ segments) segment apart free =
    let parts = or_parts _ _ free in
    (all_push (λ other. IsApart first other) segments segment apart.0 (apart_from first segment parts.0), apart-push segments segment apart.1 parts.1)

differ : (xs ys : List ℕ) → bytes_eq xs ys ≡ false → ys ≢ xs
differ xs ys not = λ same. true≢false (sym ((bytes_eq-Decides xs ys).1 (sym same)) ∙ not)

distinct-push : (symbols : List Symbol) (symbol : Symbol) → AreDistinct symbols → is_named symbols symbol.name ≡ false → AreDistinct (symbols ++ symbol ∷ [])
distinct-push [] symbol distinct new = (tt, tt)
distinct-push (first ∷ symbols) symbol distinct new =
    let parts = or_parts _ _ new in
    (all_push (λ other. other.name ≢ first.name) symbols symbol distinct.0 (differ first.name symbol.name parts.0), distinct-push symbols symbol distinct.1 parts.1)

-- ---- segments

record AreLoadable (segments : List Segment) : Type 0 where
  filled : AllByRecursion (λ segment. segment.bytes ≢ []) segments
  apart : AreApart segments

-- the bytes that a header adds to those of the file
abbrev gap : ProgramHeader → List ℕ
gap header = replicate (header.memory_size - header.file_size) 0

length-loaded_bytes : (file : List ℕ) (header : ProgramHeader) → has_bad_sizes header ≡ false → is_cut file header ≡ false → length (loaded_bytes file header) ≡ header.memory_size
length-loaded_bytes file header sizes whole =
    let size = ltb-false header.memory_size header.file_size (or_parts _ _ sizes).0 in
    let front = length-take header.file_size (drop header.offset file) in
    let rest = length-drop header.offset file in
    let zeros : length (gap header) ≡ header.memory_size - header.file_size = length-replicate (header.memory_size - header.file_size) 0 in
    let all = length-append (take header.file_size (drop header.offset file)) (gap header) in
    elim (and_cases _ _ whole) [
      | inl none ↦ let empty = eqb-true header.file_size 0 (not-false (eqb header.file_size 0) none) in omega (arith, size, front, zeros, all, empty)
      | inr there ↦ let fits = leb-true (header.offset + header.file_size) (length file) (not-false _ there) in omega (arith, size, front, rest, zeros, all, fits)
    ]

some_bytes : (bytes : List ℕ) → 0 < length bytes → bytes ≢ []
some_bytes bytes some = λ none. let e : length bytes ≡ 0 = ap (λ (list : List ℕ). length list) none in omega (arith, e, some)

some_size : (header : ProgramHeader) → is_skipped header ≡ false → has_bad_sizes header ≡ false → 0 < header.memory_size
some_size header skipped sizes =
    let size = ltb-false header.memory_size header.file_size (or_parts _ _ sizes).0 in
    elim (and_cases _ _ (or_parts _ _ skipped).1) [
      | inl some ↦ let not_zero = eqb-false header.memory_size 0 some in omega (arith, not_zero)
      | inr some ↦ let not_zero = eqb-false header.file_size 0 some in omega (arith, not_zero, size)
    ]

unless : (fault : Option ElfFault) (file : List ℕ) (header : ProgramHeader) (segments more : List Segment) → loaded_unless fault file header segments ≡ Ok more
    → (fault ≡ None) × (segments ++ record { address = header.address; bytes = loaded_bytes file header } ∷ [] ≡ more)
unless None file header segments more is = (refl, ok_is _ more is)
unless (Some f) file header segments more is = absurd cc

loaded_is : (file : List ℕ) (at : ℕ) (header : ProgramHeader) (segments more : List Segment) → AreLoadable segments → loaded file at header segments ≡ Ok more → AreLoadable more
unfolding loaded
loaded_is file at header segments more are is =
    elim (at_once (is_skipped header) segments _ more (not_refused (is_dynamic header) _ _ more is).1) [
      | inl same ↦ subst AreLoadable same are
      | inr new ↦
          let u = unless (load_fault file at header segments) file header segments more new.1 in
          let right = without_fault file at header segments u.0 in
          let size = length-loaded_bytes file header right.sizes right.whole in
          let some = some_size header new.0 right.sizes in
          subst AreLoadable u.1 (record {
            filled = all_push (λ segment. segment.bytes ≢ []) segments _ are.filled (some_bytes (loaded_bytes file header) (omega (arith, size, some)));
            apart = apart-push segments _ are.apart (rw size right.apart);
          })
    ]

loaded_from_is : (order : Order) (file : List ℕ) (at count : ℕ) (segments all : List Segment) → AreLoadable segments → loaded_from order file at count segments ≡ Ok all → AreLoadable all
unfolding loaded_from
loaded_from_is order file at zero segments all are is = subst AreLoadable (ok_is segments all is) are
loaded_from_is order file at (suc count) segments all are is =
    let step = bind_ok (loaded file at (program_header_at order (drop at file)) segments) (λ more. loaded_from order file (at + 32) count more) all is in
    loaded_from_is order file (at + 32) count step.0 all (loaded_is file at (program_header_at order (drop at file)) segments step.0 are step.1) step.2

none_loadable : AreLoadable []
none_loadable = record { filled = tt; apart = tt }

segments_are : (order : Order) (file : List ℕ) (table : Table) (segments : List Segment) → segments_of order file table ≡ Ok segments → AreLoadable segments
unfolding segments_of
segments_are order file table segments is =
    elim (at_once (eqb table.count 0) [] _ segments is) [
      | inl none ↦ subst AreLoadable none none_loadable
      | inr some ↦
          let sized = not_refused (not (eqb table.entry_size 32)) (fault.Sizes 42) _ segments some.1 in
          let whole = not_refused (not (has_bytes file table.offset (32 * table.count))) (fault.Truncated 28) _ segments sized.1 in
          loaded_from_is order file table.offset table.count [] segments none_loadable whole.1
    ]

-- ---- symbols

with_symbol_is : (symbols : List Symbol) (name : List ℕ) (value : ℕ) → AreDistinct symbols → AreDistinct (with_symbol symbols name value)
with_symbol_is symbols [] value distinct = distinct
with_symbol_is symbols (byte ∷ name) value distinct = by (is_named symbols (byte ∷ name)) refl
  where
    by : (b : Bool) → is_named symbols (byte ∷ name) ≡ b → AreDistinct (cond b symbols (symbols ++ record { name = byte ∷ name; value = value } ∷ []))
    by true there = distinct
    by false new = distinct-push symbols (record { name = byte ∷ name; value = value }) distinct new

named_is : (string : Option (List ℕ)) (value at : ℕ) (symbols more : List Symbol) → AreDistinct symbols → named string value at symbols ≡ Ok more → AreDistinct more
named_is None value at symbols more distinct is = absurd cc
named_is (Some name) value at symbols more distinct is = subst AreDistinct (ok_is _ more is) (with_symbol_is symbols name value distinct)

kept_is : (strings : List ℕ) (at : ℕ) (entry : Entry) (symbols more : List Symbol) → AreDistinct symbols → kept strings at entry symbols ≡ Ok more → AreDistinct more
unfolding kept
kept_is strings at entry symbols more distinct is =
    elim (at_once (eqb entry.section 0) symbols _ more is) [
      | inl same ↦ subst AreDistinct same distinct
      | inr new ↦ named_is (string_of (drop entry.name strings)) entry.value at symbols more distinct new.1
    ]

kept_from_is : (order : Order) (file strings : List ℕ) (at count : ℕ) (symbols all : List Symbol) → AreDistinct symbols → kept_from order file strings at count symbols ≡ Ok all → AreDistinct all
unfolding kept_from
kept_from_is order file strings at zero symbols all distinct is = subst AreDistinct (ok_is symbols all is) distinct
kept_from_is order file strings at (suc count) symbols all distinct is =
    let step = bind_ok (kept strings at (entry_at order (drop at file)) symbols) (λ more. kept_from order file strings (at + 16) count more) all is in
    kept_from_is order file strings (at + 16) count step.0 all (kept_is strings at (entry_at order (drop at file)) symbols step.0 distinct step.1) step.2

symbols_by_are : (order : Order) (file : List ℕ) (table : Table) (place : Option ℕ) (symbols : List Symbol) → symbols_by order file table place ≡ Ok symbols → AreDistinct symbols
unfolding symbols_by
symbols_by_are order file table None symbols is = subst AreDistinct (ok_is [] symbols is) tt
symbols_by_are order file table (Some at) symbols is =
    let step = bind_ok (strings_of order file table at) (λ strings. kept_from order file strings (section_at order (drop at file)).offset ((section_at order (drop at file)).size / 16) []) symbols is in
    kept_from_is order file step.0 _ _ [] symbols tt step.2

symbols_are : (order : Order) (file : List ℕ) (table : Table) (symbols : List Symbol) → symbols_of order file table ≡ Ok symbols → AreDistinct symbols
unfolding symbols_of
symbols_are order file table symbols is =
    elim (at_once (eqb table.offset 0 || eqb table.count 0) [] _ symbols is) [
      | inl none ↦ subst AreDistinct none tt
      | inr some ↦
          let sized = not_refused (not (eqb table.entry_size 40)) (fault.Sizes 46) _ symbols some.1 in
          let whole = not_refused (not (has_bytes file table.offset (40 * table.count))) (fault.Truncated 32) _ symbols sized.1 in
          symbols_by_are order file table (symbol_table_from order file table.offset table.count) symbols whole.1
    ]

-- ---- the image

pub can_be_loaded : (bytes : List ℕ) (image : Image) → meaning bytes ≡ Ok image → IsLoadable image
unfolding meaning
can_be_loaded bytes image is =
    let header = bind_ok (header_of bytes) (λ header. segments_of header.order bytes header.programs >>= λ segments. symbols_of header.order bytes header.sections >>= λ symbols. Ok (record { order = header.order; entry = header.entry; segments = segments; symbols = symbols })) image is in
    let segments = bind_ok (segments_of header.0.order bytes header.0.programs) (λ segments. symbols_of header.0.order bytes header.0.sections >>= λ symbols. Ok (record { order = header.0.order; entry = header.0.entry; segments = segments; symbols = symbols })) image header.2 in
    let symbols = bind_ok (symbols_of header.0.order bytes header.0.sections) (λ symbols. Ok (record { order = header.0.order; entry = header.0.entry; segments = segments.0; symbols = symbols })) image segments.2 in
    let are = segments_are header.0.order bytes header.0.programs segments.0 segments.1 in
    let made : Image = record { order = header.0.order; entry = header.0.entry; segments = segments.0; symbols = symbols.0 } in
    let loadable : IsLoadable made = record {
      filled = are.filled;
      apart = are.apart;
      distinct = symbols_are header.0.order bytes header.0.sections symbols.0 symbols.1;
    } in
    subst IsLoadable (ok_is made image symbols.2) loadable
