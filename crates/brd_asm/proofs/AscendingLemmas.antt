-- Stretches of bytes that lie in RAM.
use Rattle.std.proofs.Common.{◌≡◌, ℕ, ◌+◌, ◌-◌, ◌<◌, ◌≤◌, ltb, leb, List, [], ◌∷◌, length, Option, refl, sym, ap, subst, inl, inr, arith}
use Rattle.std.specs.Prelude.{slice_get, ◌&&◌, IsSome}
use Rattle.std.proofs.lemmas.Bool.{cases_Bool, lt-ltb, le-ltb, le-leb, leb-true, and_parts, and_from, and_right}
use Rattle.std.proofs.lemmas.Option.{slice_get-get_or}
use Rattle.brd_base.specs.Space.{base, top}
use Rattle.brd_mem.specs.Image.{AreAscending, byte_in}
use Rattle.brd_mem.specs.declared.image.Segment.{Segment}
use Rattle.brd_asm.specs.Image.{AreSeparate, AreStretches}
use Rattle.brd_asm.proofs.StretchLemmas.{skipped}

-- what a memory has lies in RAM
abbrev pub InRam : (ℕ → Option ℕ) → Type 0
InRam memory = (a : ℕ) → IsSome (memory a) → (base ≤ a) × (a < top)

-- no stretch has a byte below the first
pub from_low : (ss : List Segment) (low a : ℕ) → AreSeparate low ss → IsSome (byte_in ss a) → low ≤ a
from_low [] low a apart there = absurd (cc)
from_low (s ∷ ss) low a apart there =
    elim (cases_Bool (leb s.address a && ltb a (s.address + length s.bytes))) [
      | inl here ↦ let parts = and_parts (leb s.address a) (ltb a (s.address + length s.bytes)) here in omega (arith, leb-true s.address a parts.0, apart.0)
      | inr not_here ↦ omega (arith, apart.0, from_low ss (s.address + length s.bytes + 1) a apart.2 (subst IsSome (skipped (leb s.address a && ltb a (s.address + length s.bytes)) (slice_get s.bytes (a - s.address)) (byte_in ss a) not_here) there))
    ]

one_there : (bytes : List ℕ) (i : ℕ) → i < length bytes → IsSome (slice_get bytes i)
one_there bytes i lt = subst IsSome (sym (slice_get-get_or bytes i 0 lt)) refl

pub head_there : (s : Segment) (ss : List Segment) (a : ℕ) → s.address ≤ a → a < s.address + length s.bytes → IsSome (byte_in (s ∷ ss) a)
head_there s ss a le lt =
    let here : byte_in (s ∷ ss) a ≡ slice_get s.bytes (a - s.address) = rw (and_from (leb s.address a) (ltb a (s.address + length s.bytes)) (le-leb s.address a le) (lt-ltb a (s.address + length s.bytes) lt)) refl in
    subst IsSome (sym here) (one_there s.bytes (a - s.address) (omega arith))

tail_there : (s : Segment) (ss : List Segment) (a : ℕ) → AreSeparate (s.address + length s.bytes + 1) ss → IsSome (byte_in ss a) → IsSome (byte_in (s ∷ ss) a)
tail_there s ss a apart there =
    let from = from_low ss (s.address + length s.bytes + 1) a apart there in
    let out = and_right (leb s.address a) (ltb a (s.address + length s.bytes)) (le-ltb a (s.address + length s.bytes) (omega (arith, from))) in
    subst IsSome (sym (skipped (leb s.address a && ltb a (s.address + length s.bytes)) (slice_get s.bytes (a - s.address)) (byte_in ss a) out)) there

some_bytes : (bytes : List ℕ) → 0 < length bytes → bytes ≡ [] → ⊥
some_bytes bytes some e =
    let none : length bytes ≡ 0 = ap (λ (xs : List ℕ). length xs) e in
    omega (arith, none, some)

ascending_from : (low : ℕ) (ss : List Segment) → base ≤ low → AreSeparate low ss → InRam (byte_in ss) → AreAscending low ss
ascending_from low [] le apart ram = tt
ascending_from low (s ∷ ss) le apart ram =
    let last = ram (s.address + length s.bytes - 1) (head_there s ss (s.address + length s.bytes - 1) (omega (arith, apart.1)) (omega (arith, apart.1))) in
    let later = ascending_from (s.address + length s.bytes + 1) ss (omega (arith, apart.0)) apart.2 (λ a there. ram a (tail_there s ss a apart.2 there)) in
    (apart.0, some_bytes s.bytes apart.1, omega (arith, last.1, apart.1), lower (s.address + length s.bytes) ss later)
  where
    lower : (low : ℕ) (ss : List Segment) → AreAscending (low + 1) ss → AreAscending low ss
    lower low [] h = tt
    lower low (s ∷ ss) h = (omega (arith, h.0), h.1, h.2, h.3)

pub ascending : (memory : ℕ → Option ℕ) (ss : List Segment) → AreStretches memory ss → InRam memory → AreAscending base ss
ascending memory [] stretches ram = tt
ascending memory (s ∷ ss) stretches ram =
    let first = known s.address (head_there s ss s.address (omega arith) (omega (arith, stretches.separate.1))) in
    ascending_from base (s ∷ ss) (omega arith) (first.0, stretches.separate.1, stretches.separate.2) known
  where
    known : (a : ℕ) → IsSome (byte_in (s ∷ ss) a) → (base ≤ a) × (a < top)
    known a there = ram a (subst IsSome (stretches.same a) there)
