-- Loading segments one after the other: what memory has in the end, address by address.
use Rattle.std.proofs.Common.{◌≡◌, ℕ, zero, suc, ◌+◌, ◌-◌, ◌<◌, ◌≤◌, List, [], ◌∷◌, ◌++◌, length, take, drop, get_or, replicate, refl, ap, sym, subst, ◌∙◌, arith, inl, inr, ◌⊎◌, length-append, length-drop}
use Rattle.std.specs.Prelude.{Bool, true, false, ◌&&◌, nat_le, nat_lt, unwrap_or, None}
use Rattle.std.specs.List.{AllByRecursion}
use Rattle.std.proofs.lemmas.Bool.{cases_lt}
use Rattle.std.proofs.lemmas.Bool.Decides.{nat_tests}
use Rattle.std.proofs.lemmas.List.{get_or-drop, get_or-take, get_or_append_left, get_or-append_right, length-take-le, length-replicate, drop_all}
use Rattle.std.proofs.lemmas.Option.{slice_get-get_or}
use Rattle.std.proofs.lemmas.List.FromFn.{fill_by_all}
use Rattle.brd_base.specs.Space.{base}
use Rattle.brd_word.specs.declared.order.Order.{Order}
use Rattle.brd_mem.specs.Memory.{Memory, memory_of_bytes, size_of, zeros, contains, copied}
use Rattle.brd_mem.specs.Image.{byte_in, IsApart, AreApart}
use Rattle.brd_mem.specs.declared.image.Segment.{Segment}
use Rattle.brd_board.proofs.SetupLemmas.{next}
use Rattle.brd_board.specs.Boot.{are_inside, memory_of}

-- whether a segment holds an address
abbrev holds : Segment → ℕ → Bool
holds segment address = nat_le segment.address address && nat_lt address (segment.address + length segment.bytes)

-- an address that a segment holds is in none that is apart from it
in_no_other : (segment : Segment) (others : List Segment) (address : ℕ) → AllByRecursion (λ other. IsApart segment other) others →
    segment.address ≤ address → address < segment.address + length segment.bytes → byte_in others address ≡ None
in_no_other segment [] address apart from to = refl
in_no_other segment (other ∷ others) address apart from to =
    let misses : holds other address ≡ false = elim apart.0 [ inl before ↦ grind (arith, nat_tests, before) | inr behind ↦ grind (arith, nat_tests, behind) ] in
    rw misses (in_no_other segment others address apart.1 from to)

-- a byte of a list of which some were overwritten
in_new : (bytes more : List ℕ) (at k : ℕ) → at + length more ≤ length bytes → at ≤ k → k < at + length more →
    get_or (take at bytes ++ more ++ drop (at + length more) bytes) k 0 ≡ get_or more (k - at) 0
in_new bytes more at k fits from to =
    let front : length (take at bytes) ≡ at = length-take-le at bytes (omega arith) in
    rw (get_or_append_left (take at bytes ++ more) (drop (at + length more) bytes) 0 k (omega (arith, length-append (take at bytes) more)))
    (get_or-append_right (take at bytes) more at k 0 front from)

before_new : (bytes more : List ℕ) (at k : ℕ) → at + length more ≤ length bytes → k < at →
    get_or (take at bytes ++ more ++ drop (at + length more) bytes) k 0 ≡ get_or bytes k 0
before_new bytes more at k fits to =
    let front : length (take at bytes) ≡ at = length-take-le at bytes (omega arith) in
    rw (get_or_append_left (take at bytes ++ more) (drop (at + length more) bytes) 0 k (omega (arith, length-append (take at bytes) more)))
    (rw (get_or_append_left (take at bytes) more 0 k (omega arith)) (get_or-take at bytes k 0 to))

behind_new : (bytes more : List ℕ) (at k : ℕ) → at + length more ≤ length bytes → at + length more ≤ k →
    get_or (take at bytes ++ more ++ drop (at + length more) bytes) k 0 ≡ get_or bytes k 0
behind_new bytes more at k fits from =
    let front : length (take at bytes) ≡ at = length-take-le at bytes (omega arith) in
    let both : length (take at bytes ++ more) ≡ at + length more = omega (arith, length-append (take at bytes) more) in
    let place : at + length more + (k - (at + length more)) ≡ k = omega arith in
    rw (get_or-append_right (take at bytes ++ more) (drop (at + length more) bytes) (at + length more) k 0 both from)
    (rw (get_or-drop (at + length more) bytes (k - (at + length more)) 0, place) refl)

untouched : (bytes more : List ℕ) (at k : ℕ) → at + length more ≤ length bytes → (k < at) ⊎ (at + length more ≤ k) →
    get_or (take at bytes ++ more ++ drop (at + length more) bytes) k 0 ≡ get_or bytes k 0
untouched bytes more at k fits (inl before) = before_new bytes more at k fits before
untouched bytes more at k fits (inr behind) = behind_new bytes more at k fits behind

missed : (segment : Segment) (at : ℕ) → base ≤ segment.address → holds segment (base + at) ≡ false →
    (at < segment.address - base) ⊎ (segment.address - base + length segment.bytes ≤ at)
missed segment at floor held =
    elim (cases_lt at (segment.address - base)) [
      | inl before ↦ inl before
      | inr behind ↦ inr (grind (arith, nat_tests))
    ]

pub copied-size : (size : ℕ) (segment : Segment) (memory : Memory) → size_of memory ≡ size → contains size segment.address (length segment.bytes) ≡ true →
    size_of (copied memory segment.address segment.bytes) ≡ size_of memory
copied-size size segment memory long inside =
    let at : ℕ = segment.address - base in
    let high : at + length segment.bytes ≤ length memory.bytes = grind (arith, nat_tests) in
    let front : length (take at memory.bytes) ≡ at = length-take-le at memory.bytes (omega arith) in
    omega (
      arith,
      length-append (take at memory.bytes ++ segment.bytes) (drop (at + length segment.bytes) memory.bytes),
      length-append (take at memory.bytes) segment.bytes,
      length-drop (at + length segment.bytes) memory.bytes,
    )

-- what an address has once a segment is loaded and the others are left, it has where all of them are left
pub turn : (size : ℕ) (segment : Segment) (others : List Segment) (memory : Memory) (at : ℕ) → size_of memory ≡ size →
    contains size segment.address (length segment.bytes) ≡ true → AllByRecursion (λ other. IsApart segment other) others →
    unwrap_or (byte_in others (base + at)) (get_or (copied memory segment.address segment.bytes).bytes at 0)
    ≡ unwrap_or (byte_in (segment ∷ others) (base + at)) (get_or memory.bytes at 0)
turn size segment others memory at long inside apart = go (holds segment (base + at)) refl
  where
    low : base ≤ segment.address
    low = grind (arith, nat_tests)

    high : segment.address - base + length segment.bytes ≤ length memory.bytes
    high = grind (arith, nat_tests)

    go : (held : Bool) → holds segment (base + at) ≡ held →
        unwrap_or (byte_in others (base + at)) (get_or (copied memory segment.address segment.bytes).bytes at 0)
        ≡ unwrap_or (byte_in (segment ∷ others) (base + at)) (get_or memory.bytes at 0)
    go true held =
        let floor : base ≤ segment.address = low in
        let from : segment.address ≤ base + at = grind (arith, nat_tests) in
        let to : base + at < segment.address + length segment.bytes = grind (arith, nat_tests) in
        let place : at - (segment.address - base) ≡ base + at - segment.address = omega arith in
        rw (held, in_no_other segment others (base + at) apart from to, slice_get-get_or segment.bytes (base + at - segment.address) 0 (omega arith))
        (rw (in_new memory.bytes segment.bytes (segment.address - base) at high (omega arith) (omega arith), place) refl)
    go false held =
        let floor : base ≤ segment.address = low in
        let out : (at < segment.address - base) ⊎ (segment.address - base + length segment.bytes ≤ at) = missed segment at floor held in
        rw held (ap (λ byte. unwrap_or (byte_in others (base + at)) byte) (untouched memory.bytes segment.bytes (segment.address - base) at high out))

-- memory that has at each place what boot puts there is as boot leaves it
pub all_loaded : (order : Order) (size : ℕ) (segments : List Segment) (memory : Memory) → memory.order ≡ order → size_of memory ≡ size →
    ((at : ℕ) → get_or memory.bytes at 0 ≡ unwrap_or (byte_in segments (base + at)) 0) → memory ≡ memory_of order size segments
unfolding memory_of
all_loaded order size segments memory same long has =
    ap (memory_of_bytes memory.order) (fill_by_all (λ at. unwrap_or (byte_in segments (base + at)) 0) memory.bytes size 0 long (λ at below. has at))
    ∙ ap (λ it. memory_of it size segments) same

-- bytes that are all zero
pub zero_bytes : (count at : ℕ) → ◌≡◌ {A = ℕ} (get_or (replicate count 0) at 0) 0
zero_bytes zero at = refl
zero_bytes (suc count) zero = refl
zero_bytes (suc count) (suc at) = zero_bytes count at

-- of what is still to be loaded, and of the memory so far
pub record IsUnderWay (order : Order) (size : ℕ) (segments rest : List Segment) (memory : Memory) : Type 0 where
  pub inside : are_inside size rest ≡ are_inside size segments
  pub order_is : memory.order ≡ order
  pub long : size_of memory ≡ size
  pub apart : AreApart rest
  pub bytes : (at : ℕ) → unwrap_or (byte_in rest (base + at)) (get_or memory.bytes at 0) ≡ unwrap_or (byte_in segments (base + at)) 0

pub begins : (order : Order) (size : ℕ) (segments : List Segment) (memory : Memory) → memory ≡ zeros order size → AreApart segments → IsUnderWay order size segments segments memory
begins order size segments memory empty apart =
    let zero : ℕ = 0 in
    record {
      inside = refl;
      order_is = ap (λ (it : Memory). it.order) empty;
      long = rw empty (length-replicate size zero);
      apart = apart;
      bytes = λ at. rw empty (ap (λ byte. unwrap_or (byte_in segments (base + at)) byte) (zero_bytes size at));
    }

goes_on : (order : Order) (size : ℕ) (segments : List Segment) (segment : Segment) (others : List Segment) (memory : Memory) → IsUnderWay order size segments (segment ∷ others) memory →
    contains size segment.address (length segment.bytes) ≡ true → IsUnderWay order size segments others (copied memory segment.address segment.bytes)
goes_on order size segments segment others memory so_far inside = record {
  inside = rw inside at so_far.inside;
  order_is = so_far.order_is;
  long = copied-size size segment memory so_far.long inside ∙ so_far.long;
  apart = so_far.apart.1;
  bytes = λ at. turn size segment others memory at so_far.long inside so_far.apart.0 ∙ so_far.bytes at;
}

pub next_begins : (order : Order) (size : ℕ) (segments : List Segment) (i : ℕ) (segment : Segment) (memory : Memory) → i < length segments →
    segment ≡ get_or segments i segment → IsUnderWay order size segments (drop i segments) memory →
    contains size segment.address (length segment.bytes) ≡ true →
    IsUnderWay order size segments (drop (i + 1) segments) (copied memory segment.address segment.bytes)
next_begins order size segments i segment memory below is so_far inside =
    goes_on order size segments segment (drop (i + 1) segments) memory
    (subst (λ (rest : List Segment). IsUnderWay order size segments rest memory) (next segments i segment below is) so_far) inside

-- a segment that isn't inside is one of all that aren't
pub stops : (order : Order) (size : ℕ) (segments : List Segment) (i : ℕ) (segment : Segment) (memory : Memory) → i < length segments →
    segment ≡ get_or segments i segment → IsUnderWay order size segments (drop i segments) memory →
    contains size segment.address (length segment.bytes) ≡ false → are_inside size segments ≡ false
stops order size segments i segment memory below is so_far outside =
    sym so_far.inside ∙ ap (are_inside size) (next segments i segment below is)
    ∙ ap (λ (inside : Bool). inside && are_inside size (drop (i + 1) segments)) outside

pub ends : (order : Order) (size : ℕ) (segments : List Segment) (i : ℕ) (memory : Memory) → length segments ≤ i → IsUnderWay order size segments (drop i segments) memory →
    memory ≡ memory_of order size segments
ends order size segments i memory past so_far =
    all_loaded order size segments memory so_far.order_is so_far.long
    (λ at. subst (λ (rest : List Segment). unwrap_or (byte_in rest (base + at)) (get_or memory.bytes at 0) ≡ unwrap_or (byte_in segments (base + at)) 0)
    (drop_all i segments past) (so_far.bytes at))

pub all_inside : (order : Order) (size : ℕ) (segments : List Segment) (i : ℕ) (memory : Memory) → length segments ≤ i → IsUnderWay order size segments (drop i segments) memory →
    are_inside size segments ≡ true
all_inside order size segments i memory past so_far = sym so_far.inside ∙ ap (are_inside size) (drop_all i segments past)
