-- A store leaves the words of other blocks as they were.
use Rattle.std.proofs.Common.{◌≡◌, ℕ, ◌+◌, ◌-◌, ◌*◌, ◌/◌, ◌%◌, ◌^◌, ◌<◌, ◌≤◌, inl, inr, List, [], ◌∷◌, ◌++◌, length, take, drop, arith, ap, sym, subst, ◌∙◌, refl, append_assoc, drop-drop}
use Rattle.std.specs.Prelude.{Bool, true, false, ◌==◌, if◌then◌else◌, Result, Ok, Err, is_ok}
use Rattle.std.proofs.lemmas.Bool.Decides.{nat_tests}
use Rattle.std.proofs.lemmas.Bool.{cases_lt, false≢true}
use Rattle.std.proofs.lemmas.List.{length-take-le, take-append-le, drop-take, take-take}
use Rattle.brd_base.specs.Space.{base}
use Rattle.brd_word.specs.Words.{bytes_of_half, bytes_of_word, word_of_bytes}
use Rattle.brd_word.proofs.BytesLemmas.{four_of-word, two_of-half}
use Rattle.brd_isa.specs.declared.instruction.StoreOp.{StoreOp}
use Rattle.brd_mem.specs.declared.fault.Exc.{Exc}
use Rattle.brd_mem.specs.Memory.{Memory, size_of, contains, with_bytes, word_at, put_byte, put_half, put_word}
use Rattle.brd_mem.specs.Access.{at_place, loaded32}
use Rattle.brd_link.specs.LinkSet.{is_same_block}
use Rattle.brd_exec.specs.Unaligned.{aligned, aligned_place, bytes_above, left_stored, right_stored, part_stored}
use Rattle.brd_exec.specs.Step.{store_gives}
use Rattle.brd_exec.proofs.UnalignedLemmas.{put, drop-put, length-put}

-- Four bytes that lie before or after those that are put.

before-put : (memory : List ℕ) (at p : ℕ) (bytes : List ℕ) → at + length bytes ≤ length memory → p + 4 ≤ at →
    take 4 (drop p (put memory at bytes)) ≡ take 4 (drop p memory)
before-put memory at p bytes fits low =
    let rest : List ℕ = drop (at + length bytes) memory in
    let wide : length (take at memory) ≡ at = length-take-le at memory (omega arith) in
    sym (drop-take p 4 (put memory at bytes))
    ∙ ap (λ xs. drop p (take (p + 4) xs)) (append_assoc (take at memory) bytes rest)
    ∙ ap (drop p) (take-append-le (p + 4) (take at memory) (bytes ++ rest) (omega (arith, wide)))
    ∙ ap (drop p) (take-take (p + 4) at memory low)
    ∙ drop-take p 4 memory

behind-put : (memory : List ℕ) (at p : ℕ) (bytes : List ℕ) → at + length bytes ≤ length memory → at + length bytes ≤ p →
    take 4 (drop p (put memory at bytes)) ≡ take 4 (drop p memory)
behind-put memory at p bytes fits high =
    let more : ℕ = p - (at + length bytes) in
    let there : at + length bytes + more ≡ p = omega arith in
    ap (λ n. take 4 (drop n (put memory at bytes))) (sym there)
    ∙ ap (take 4) (drop-put memory at more bytes (drop (at + length bytes) memory) (omega arith))
    ∙ ap (take 4) (drop-drop more (at + length bytes) memory)
    ∙ ap (λ n. take 4 (drop n memory)) there

-- What loads a word.

abbrev found_by : Memory → ℕ → Bool → Bool → Result ℕ Exc
found_by memory at whole inside = at_place (word_at memory) (if whole then (if inside then Ok at else Err Exc.DBE) else Err Exc.AdEL)

found-same : (whole inside : Bool) (new old : Memory) (at : ℕ) → (whole ≡ true → inside ≡ true → word_at new at ≡ word_at old at) →
    found_by new at whole inside ≡ found_by old at whole inside
found-same true true new old at same = ap Ok (same refl refl)
found-same true false new old at same = refl
found-same false inside new old at same = refl

-- each word outside the block of an address is loaded as before
abbrev pub SameOutside : ℕ → Memory → Memory → Type 0
SameOutside address old new = (other : ℕ) → is_same_block other address ≡ false → loaded32 new other ≡ loaded32 old other

put-frame : (memory : Memory) (start : ℕ) (bytes : List ℕ) (address : ℕ) → base ≤ start → start + length bytes ≤ base + size_of memory →
    address / 16 * 16 ≤ start → start + length bytes ≤ address / 16 * 16 + 16 →
    SameOutside address memory (with_bytes memory (start - base) bytes)
put-frame memory start bytes address from to low high other apart =
    let new : Memory = with_bytes memory (start - base) bytes in
    let fits : start - base + length bytes ≤ length memory.bytes = omega (arith, from, to) in
    let size : size_of new ≡ size_of memory = length-put memory.bytes (start - base) bytes fits in
    ap (λ n. found_by new (other - base) (other % 4 == 0) (contains n other 4)) size
    ∙ found-same (other % 4 == 0) (contains (size_of memory) other 4) new memory (other - base) (λ whole inside.
    let multiple : other % 4 ≡ 0 = grind (arith, nat_tests, whole) in
    let above : base ≤ other = grind (arith, nat_tests, inside) in
    elim (cases_lt (other / 16) (address / 16)) [
      | inl lt ↦ ap (word_of_bytes memory.order) (before-put memory.bytes (start - base) (other - base) bytes fits (omega (arith, lt, multiple, above, low, from)))
      | inr ge ↦
          let gt : address / 16 < other / 16 = grind (arith, nat_tests, apart, ge) in
          ap (word_of_bytes memory.order) (behind-put memory.bytes (start - base) (other - base) bytes fits (omega (arith, gt, above, high, from)))
    ])

-- A store that gives a memory found a place, and gave what it puts there.

record Placed (whole inside : Bool) (there new : Memory) : Type 0 where
  is_whole : whole ≡ true
  is_inside : inside ≡ true
  gives : new ≡ there

abbrev unwrap_ok : Result Memory Exc → Memory → Memory
unwrap_ok (Ok memory) other = memory
unwrap_ok (Err exc) other = other

placed : (whole inside : Bool) (f : ℕ → Memory) (at : ℕ) (outside unaligned : Exc) (new : Memory) →
    at_place f (if whole then (if inside then Ok at else Err outside) else Err unaligned) ≡ Ok new → Placed whole inside (f at) new
placed true true f at outside unaligned new is = record { is_whole = refl; is_inside = refl; gives = sym (ap (λ r. unwrap_ok r (f at)) is) }
placed true false f at outside unaligned new is = absurd (false≢true (ap is_ok is))
placed false inside f at outside unaligned new is = absurd (false≢true (ap is_ok is))

inside-placed : (inside : Bool) (there new : Memory) (outside : Exc) → (if inside then Ok there else Err outside) ≡ Ok new →
    Placed true inside there new
inside-placed true there new outside is = record { is_whole = refl; is_inside = refl; gives = sym (ap (λ r. unwrap_ok r there) is) }
inside-placed false there new outside is = absurd (false≢true (ap is_ok is))

-- a memory after a store into the block of an address, with the same size and order
pub record IsStored (address : ℕ) (old new : Memory) : Type 0 where
  pub others : SameOutside address old new
  pub size : size_of new ≡ size_of old
  pub order : new.order ≡ old.order

-- what is put where it fits leaves the words of other blocks
put-same : (memory new : Memory) (start : ℕ) (bytes : List ℕ) (address : ℕ) → new ≡ with_bytes memory (start - base) bytes →
    base ≤ start → start + length bytes ≤ base + size_of memory →
    address / 16 * 16 ≤ start → start + length bytes ≤ address / 16 * 16 + 16 → IsStored address memory new
put-same memory new start bytes address is from to low high = record {
  others = subst (SameOutside address memory) (sym is) (put-frame memory start bytes address from to low high);
  size = ap size_of is ∙ length-put memory.bytes (start - base) bytes (omega (arith, from, to));
  order = ap (λ (it : Memory). it.order) is;
}

-- a store of a part of an unaligned word
part-stored : (of_words : ℕ → ℕ → ℕ → ℕ) (memory : Memory) (address register : ℕ) (new : Memory) →
    part_stored of_words memory address register ≡ Ok new → IsStored address memory new
part-stored of_words memory address register new is =
    let at : ℕ = aligned_place address in
    let word : ℕ = of_words (bytes_above memory.order address) (word_at memory at) register in
    let it = inside-placed (contains (size_of memory) (aligned address) 4) (put_word memory at word) new Exc.DBE is in
    let from : base ≤ aligned address = grind (arith, nat_tests, it.is_inside) in
    let to : aligned address + 4 ≤ base + size_of memory = grind (arith, nat_tests, it.is_inside) in
    let wide : length (bytes_of_word memory.order word) ≡ 4 = four_of-word memory.order word in
    put-same memory new (aligned address) (bytes_of_word memory.order word) address it.gives from (omega (arith, to, wide)) (omega arith)
    (omega (arith, wide))

pub is-stored : (op : StoreOp) (memory : Memory) (address word : ℕ) (new : Memory) → store_gives op memory address word ≡ Ok new →
    IsStored address memory new
is-stored StoreOp.Sb memory address word new is =
    let at : ℕ = address - base in
    let it = placed (address % 1 == 0) (contains (size_of memory) address 1) (λ at. put_byte memory at (word % 2 ^ 8)) at Exc.DBE Exc.AdES new is in
    let from : base ≤ address = grind (arith, nat_tests, it.is_inside) in
    let to : address + 1 ≤ base + size_of memory = grind (arith, nat_tests, it.is_inside) in
    put-same memory new address ((word % 2 ^ 8) ∷ []) address it.gives from to (omega arith) (omega arith)
is-stored StoreOp.Sh memory address word new is =
    let at : ℕ = address - base in
    let it = placed (address % 2 == 0) (contains (size_of memory) address 2) (λ at. put_half memory at (word % 2 ^ 16)) at Exc.DBE Exc.AdES new is in
    let from : base ≤ address = grind (arith, nat_tests, it.is_inside) in
    let to : address + 2 ≤ base + size_of memory = grind (arith, nat_tests, it.is_inside) in
    let multiple : address % 2 ≡ 0 = grind (arith, nat_tests, it.is_whole) in
    let wide : length (bytes_of_half memory.order (word % 2 ^ 16)) ≡ 2 = two_of-half memory.order (word % 2 ^ 16) in
    put-same memory new address (bytes_of_half memory.order (word % 2 ^ 16)) address it.gives from (omega (arith, to, wide)) (omega arith)
    (omega (arith, wide))
is-stored StoreOp.Sw memory address word new is =
    let at : ℕ = address - base in
    let it = placed (address % 4 == 0) (contains (size_of memory) address 4) (λ at. put_word memory at word) at Exc.DBE Exc.AdES new is in
    let from : base ≤ address = grind (arith, nat_tests, it.is_inside) in
    let to : address + 4 ≤ base + size_of memory = grind (arith, nat_tests, it.is_inside) in
    let multiple : address % 4 ≡ 0 = grind (arith, nat_tests, it.is_whole) in
    let wide : length (bytes_of_word memory.order word) ≡ 4 = four_of-word memory.order word in
    put-same memory new address (bytes_of_word memory.order word) address it.gives from (omega (arith, to, wide)) (omega arith)
    (omega (arith, wide))
is-stored StoreOp.Swl memory address word new is = part-stored left_stored memory address word new is
is-stored StoreOp.Swr memory address word new is = part-stored right_stored memory address word new is
