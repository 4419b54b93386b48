-- The segments that were written are read again.
use Rattle.std.proofs.Common.{◌≡◌, ℕ, zero, suc, ◌+◌, ◌-◌, ◌^◌, ◌<◌, ◌≤◌, Bool, false, not, eqb, ltb, List, [], ◌∷◌, ◌++◌, length, take, drop, replicate, Result, Ok, refl, sym, ap, ◌∙◌, append_assoc, length-append, arith}
use Rattle.std.specs.Prelude.{◌&&◌}
use Rattle.std.proofs.lemmas.Bool.{le-ltb, le-leb, ne_eqb, or_from, and_right}
use Rattle.std.proofs.lemmas.List.{append-nil, take_at, drop_at, nil_from_length}
use Rattle.brd_word.specs.declared.order.Order.{Order}
use Rattle.brd_base.specs.Space.{base, top}
use Rattle.brd_mem.specs.Image.{AreAscending}
use Rattle.brd_mem.specs.declared.image.Segment.{Segment}
use Rattle.brd_elf.specs.declared.fault.ElfFault.{ElfFault}
use Rattle.brd_elf.specs.declared.segments.ProgramHeader.{ProgramHeader}
use Rattle.brd_elf.specs.Fields.{has_bytes}
use Rattle.brd_text.specs.Faults.{◌>>=◌}
use Rattle.brd_elf.specs.Segments.{program_header_at, lies_in, is_dynamic, is_skipped, has_bad_sizes, is_cut, is_outside, loaded_bytes, load_fault, loaded, loaded_from}
use Rattle.brd_elf.specs.File.{padding, padded, program_header, program_headers_from, data_of}
use Rattle.brd_elf.proofs.LoadedLemmas.{lies_in-push}
use Rattle.brd_elf.proofs.BodyLemmas.{length-program_header}
use Rattle.brd_elf.proofs.FieldLemmas.{header_for, program_again}

-- the bytes of a file that lie after its front
pub behind : (file front middle back : List ℕ) (at : ℕ) → file ≡ front ++ (middle ++ back) → length front ≡ at → drop at file ≡ middle ++ back
behind file front middle back at e len = ap (λ (list : List ℕ). drop at list) e ∙ drop_at front (middle ++ back) at len

-- a header whose tests all pass is loaded
by_tests : (file : List ℕ) (at : ℕ) (header : ProgramHeader) (segments : List Segment) → is_dynamic header ≡ false → is_skipped header ≡ false → has_bad_sizes header ≡ false → is_cut file header ≡ false
    → is_outside header ≡ false → lies_in segments header.address (header.address + header.memory_size) ≡ false
    → loaded file at header segments ≡ Ok (segments ++ record { address = header.address; bytes = loaded_bytes file header } ∷ [])
unfolding loaded load_fault
by_tests file at header segments dynamic skipped sizes cut outside free = rw (dynamic, skipped, sizes, cut, outside, free) refl

load_again : (file : List ℕ) (at offset : ℕ) (segment : Segment) (segments : List Segment) (back : List ℕ) → drop offset file ≡ padded segment.bytes ++ back → offset + length segment.bytes ≤ length file
    → 0 < length segment.bytes → base ≤ segment.address → segment.address + length segment.bytes ≤ top → lies_in segments segment.address (segment.address + length segment.bytes) ≡ false
    → loaded file at (header_for offset segment) segments ≡ Ok (segments ++ segment ∷ [])
load_again file at offset segment segments back here long some above below free =
    by_tests file at (header_for offset segment) segments refl skipped sizes cut outside free
    ∙ ap (λ (list : List ℕ). made list) bytes
  where
    empty : eqb (length segment.bytes) 0 ≡ false
    empty = ne_eqb (length segment.bytes) 0 (λ same. omega arith)

    skipped : is_skipped (header_for offset segment) ≡ false
    skipped = rw empty refl

    sizes : has_bad_sizes (header_for offset segment) ≡ false
    sizes = or_from (ltb (length segment.bytes) (length segment.bytes)) _ (le-ltb (length segment.bytes) (length segment.bytes) (omega arith)) (le-ltb (2 ^ 32) (segment.address + length segment.bytes) (omega arith))

    whole : not (has_bytes file offset (length segment.bytes)) ≡ false
    whole = ap (λ (b : Bool). not b) (le-leb (offset + length segment.bytes) (length file) long)

    cut : is_cut file (header_for offset segment) ≡ false
    cut = and_right (not (eqb (length segment.bytes) 0)) _ whole

    outside : is_outside (header_for offset segment) ≡ false
    outside = or_from (ltb segment.address base) _ (le-ltb segment.address base above) (le-ltb top (segment.address + length segment.bytes) below)

    made : List ℕ → Result (List Segment) ElfFault
    made list = Ok (segments ++ record { address = segment.address; bytes = list } ∷ [])

    none_left : length segment.bytes - length segment.bytes ≡ 0
    none_left = omega arith

    bytes : loaded_bytes file (header_for offset segment) ≡ segment.bytes
    bytes =
        let front : take (length segment.bytes) (drop offset file) ≡ segment.bytes =
        ap (λ (list : List ℕ). take (length segment.bytes) list) (here ∙ append_assoc segment.bytes (replicate (padding (length segment.bytes)) 0) back)
        ∙ take_at segment.bytes (replicate (padding (length segment.bytes)) 0 ++ back) (length segment.bytes) refl in
        ap (λ (list : List ℕ). list ++ replicate (length segment.bytes - length segment.bytes) 0) front
        ∙ ap (λ (n : ℕ). segment.bytes ++ replicate n 0) none_left ∙ append-nil segment.bytes

-- what lies below an address is not met from there on
pub NothingFrom : ℕ → List Segment → Type 0
NothingFrom low segments = (from high : ℕ) → low ≤ from → lies_in segments from high ≡ false

nothing_more : (low : ℕ) (segments : List Segment) (segment : Segment) → NothingFrom low segments → low ≤ segment.address + length segment.bytes
    → NothingFrom (segment.address + length segment.bytes) (segments ++ segment ∷ [])
unfolding NothingFrom
nothing_more low segments segment nothing le =
    λ from high above. lies_in-push segments segment from high
    ∙ or_from (lies_in segments from high) _ (nothing from high (omega arith))
    (or_from (ltb segment.address high && ltb from (segment.address + length segment.bytes)) false (and_right (ltb segment.address high) _ (le-ltb from (segment.address + length segment.bytes) above)) refl)

pub nothing_yet : (low : ℕ) → NothingFrom low []
unfolding NothingFrom
nothing_yet low = λ from high above. refl

pub segments_again : (order : Order) (file : List ℕ) (at offset low : ℕ) (segments before : List Segment) (front post data_front back : List ℕ)
    → file ≡ front ++ (program_headers_from order offset segments ++ post) → length front ≡ at
    → file ≡ data_front ++ (data_of segments ++ back) → length data_front ≡ offset
    → length file < 2 ^ 32 → AreAscending low segments → base ≤ low → NothingFrom low before
    → loaded_from order file at (length segments) before ≡ Ok (before ++ segments)
unfolding loaded_from program_headers_from NothingFrom
segments_again order file at offset low [] before front post data_front back headers_lie at_is data_lies offset_is short ascending above nothing =
    ap (λ (list : List Segment). done list) (sym (append-nil before))
  where
    done : List Segment → Result (List Segment) ElfFault
    done list = Ok list
segments_again order file at offset low (segment ∷ segments) before front post data_front back headers_lie at_is data_lies offset_is short ascending above nothing =
    ap (λ (header : ProgramHeader). loaded file at header before >>= λ more. loaded_from order file (at + 32) (length segments) more) header_is
    ∙ ap (λ (step : Result (List Segment) ElfFault). step >>= λ more. loaded_from order file (at + 32) (length segments) more) step_is
    ∙ segments_again order file (at + 32) (offset + length (padded segment.bytes)) (segment.address + length segment.bytes) segments (before ++ segment ∷ []) (front ++ program_header order offset segment) post (data_front ++ padded segment.bytes) back
    next_headers (length-append front (program_header order offset segment) ∙ sum_is at_is (length-program_header order offset segment)) next_data (length-append data_front (padded segment.bytes) ∙ ap (λ (n : ℕ). n + length (padded segment.bytes)) offset_is) short ascending.3 (omega (arith, ascending.0)) (nothing_more low before segment nothing (omega (arith, ascending.0)))
    ∙ ap (λ (list : List Segment). done list) (append_assoc before (segment ∷ []) segments)
  where
    done : List Segment → Result (List Segment) ElfFault
    done list = Ok list

    others : List ℕ
    others = program_headers_from order (offset + length (padded segment.bytes)) segments

    sum_is : length front ≡ at → length (program_header order offset segment) ≡ 32 → length front + length (program_header order offset segment) ≡ at + 32
    sum_is p q = omega arith

    next_headers : file ≡ (front ++ program_header order offset segment) ++ (others ++ post)
    next_headers = headers_lie ∙ ap (λ (list : List ℕ). front ++ list) (append_assoc (program_header order offset segment) others post) ∙ sym (append_assoc front (program_header order offset segment) (others ++ post))

    next_data : file ≡ (data_front ++ padded segment.bytes) ++ (data_of segments ++ back)
    next_data = data_lies ∙ ap (λ (list : List ℕ). data_front ++ list) (append_assoc (padded segment.bytes) (data_of segments) back) ∙ sym (append_assoc data_front (padded segment.bytes) (data_of segments ++ back))

    here : drop at file ≡ program_header order offset segment ++ (others ++ post)
    here = behind file front (program_header order offset segment) (others ++ post) at (next_headers ∙ append_assoc front (program_header order offset segment) (others ++ post)) at_is

    bytes_here : drop offset file ≡ padded segment.bytes ++ (data_of segments ++ back)
    bytes_here = behind file data_front (padded segment.bytes) (data_of segments ++ back) offset (next_data ∙ append_assoc data_front (padded segment.bytes) (data_of segments ++ back)) offset_is

    long : offset + length segment.bytes ≤ length file
    long =
        let whole : length file ≡ length ((data_front ++ padded segment.bytes) ++ (data_of segments ++ back)) = ap (λ (list : List ℕ). length list) next_data in
        omega (arith, whole, offset_is, length-append (data_front ++ padded segment.bytes) (data_of segments ++ back), length-append data_front (padded segment.bytes), length-append segment.bytes (replicate (padding (length segment.bytes)) 0))

    some : 0 < length segment.bytes
    some = filled (length segment.bytes) (λ e. ascending.1 (nil_from_length segment.bytes e))
      where
        filled : (n : ℕ) → (n ≡ 0 → ⊥) → 0 < n
        filled zero h = absurd (h refl)
        filled (suc n) h = omega arith

    header_is : program_header_at order (drop at file) ≡ header_for offset segment
    header_is = program_again order (drop at file) offset segment (others ++ post) here (omega (arith, long)) (omega (arith, ascending.2)) (omega (arith, long))

    step_is : loaded file at (header_for offset segment) before ≡ Ok (before ++ segment ∷ [])
    step_is = load_again file at offset segment before (data_of segments ++ back) bytes_here long some (omega (arith, ascending.0)) ascending.2 (nothing segment.address (segment.address + length segment.bytes) ascending.0)
