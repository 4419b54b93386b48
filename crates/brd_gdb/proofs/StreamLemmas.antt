-- What is framed comes as it was.
use Rattle.std.proofs.Common.{◌≡◌, ℕ, ◌+◌, ◌*◌, ◌/◌, ◌%◌, ◌<◌, ◌≤◌, ◌==◌, Bool, true, false, List, [], ◌∷◌, ◌++◌, length, refl, sym, ap, ap₂, ◌∙◌, inl, inr, arith, append_assoc, append-nil, zero-add, Option, None, Some}
use Rattle.std.specs.Prelude.{sum}
use Rattle.std.specs.Int.Bits.{bit_xor, xor_assoc, xor_self, xor_zero_r}
use Rattle.std.proofs.lemmas.Bool.{cases_Bool, eq-eqb, lt-ltb}
use Rattle.std.proofs.lemmas.Bool.Decides.{nat_tests}
use Rattle.std.proofs.lemmas.List.{length-append}
use Rattle.brd_text.specs.Hex.{hex_digit}
use Rattle.brd_text.specs.Numbers.{hex_digit_value}
use Rattle.brd_gdb.specs.Hexes.{hexed_byte}
use Rattle.brd_gdb.specs.Packets.{checksum, escape, escaped, framed, is_special}
use Rattle.brd_gdb.specs.Receiving.{ReceiverState, arrival, arrival_in, at, begun, is_number, kept, next, next_in, packet_size}
use Rattle.brd_gdb.specs.Streams.{after, arrivals, with_first}
use Rattle.brd_gdb.specs.declared.receiver.Arrival.{Arrival}
use Rattle.brd_gdb.specs.declared.receiver.Arrival.TheVariants.{Packet}
use Rattle.brd_gdb.specs.declared.receiver.Part.TheVariants.{Outside, Payload, Escape, Sum, LastDigit}
use Rattle.brd_gdb.proofs.PacketLemmas.{sum-append}

-- in a payload of which these bytes have come
abbrev inside : List ℕ → ℕ → ReceiverState
inside done total = record { part = Payload; payload = done; sum = total; is_long = false }

flipped_back : (byte : ℕ) → bit_xor (bit_xor byte 32) 32 ≡ byte
flipped_back byte = xor_assoc byte 32 32 ∙ ap (λ (n : ℕ). bit_xor byte n) (xor_self 32) ∙ xor_zero_r byte

room : (done : List ℕ) (total byte : ℕ) → length done < packet_size → kept (inside done total) byte ≡ inside (done ++ byte ∷ []) total
room done total byte few = rw (lt-ltb (length done) 16384 few) refl

-- a byte that isn't special is none of the marks
no_begins : (byte : ℕ) → is_special byte ≡ false → (byte == 36) ≡ false
unfolding is_special
no_begins byte h = grind (arith, nat_tests)

no_ends : (byte : ℕ) → is_special byte ≡ false → (byte == 35) ≡ false
unfolding is_special
no_ends byte h = grind (arith, nat_tests)

no_escapes : (byte : ℕ) → is_special byte ≡ false → (byte == 125) ≡ false
unfolding is_special
no_escapes byte h = grind (arith, nat_tests)

plain : (done : List ℕ) (total byte : ℕ) → is_special byte ≡ false → length done < packet_size
    → next (inside done total) byte ≡ inside (done ++ byte ∷ []) ((total + byte) % 256)
plain done total byte h few =
    rw (no_begins byte h, no_ends byte h, no_escapes byte h) (room done ((total + byte) % 256) byte few)

special : (done : List ℕ) (total byte : ℕ) → length done < packet_size
    → next (next (inside done total) 125) (bit_xor byte 32)
    ≡ inside (done ++ byte ∷ []) (((total + 125) % 256 + bit_xor byte 32) % 256)
special done total byte few =
    room done (((total + 125) % 256 + bit_xor byte 32) % 256) (bit_xor (bit_xor byte 32) 32) few
    ∙ ap (λ (b : ℕ). inside (done ++ b ∷ []) (((total + 125) % 256 + bit_xor byte 32) % 256)) (flipped_back byte)

-- `F` looks past bytes with which nothing comes
module _ {X : Type 0} (F : ReceiverState → List ℕ → X)
    (silent : (r : ReceiverState) (byte : ℕ) (bytes : List ℕ) → arrival r byte ≡ None → F r (byte ∷ bytes) ≡ F (next r byte) bytes) where
  moved : (done all : List ℕ) (total sums : ℕ) (rest : List ℕ) → done ≡ all → total ≡ sums → F (inside done total) rest ≡ F (inside all sums) rest
  moved done all total sums rest p q = ap₂ (λ (xs : List ℕ) (n : ℕ). F (inside xs n) rest) p q

  body : (done payload : List ℕ) (total : ℕ) (rest : List ℕ) → length done + length payload ≤ packet_size → total < 256
      → F (inside done total) (escaped payload ++ rest) ≡ F (inside (done ++ payload) ((total + sum (escaped payload)) % 256)) rest
  body done [] total rest few small =
      moved done (done ++ []) total ((total + 0) % 256) rest (sym (append-nil done)) (omega (arith, small))
  body done (b ∷ bs) total rest few small =
      let longer : length (done ++ b ∷ []) ≡ length done + 1 = length-append done (b ∷ []) in
      elim (cases_Bool (is_special b)) [
        | inl marked ↦
            let parts : escape b ≡ 125 ∷ bit_xor b 32 ∷ [] = rw marked refl in
            let sums : sum (escape b) ≡ 125 + bit_xor b 32 = ap sum parts in
            let more = sum-append (escape b) (escaped bs) in
            ap (λ (xs : List ℕ). F (inside done total) ((xs ++ escaped bs) ++ rest)) parts
            ∙ silent (inside done total) 125 (bit_xor b 32 ∷ (escaped bs ++ rest)) refl
            ∙ silent (next (inside done total) 125) (bit_xor b 32) (escaped bs ++ rest) refl
            ∙ ap (λ (r : ReceiverState). F r (escaped bs ++ rest)) (special done total b (omega (arith, few)))
            ∙ body (done ++ b ∷ []) bs (((total + 125) % 256 + bit_xor b 32) % 256) rest (omega (arith, few, longer)) (omega arith)
            ∙ moved ((done ++ b ∷ []) ++ bs) (done ++ b ∷ bs) _ _ rest (append_assoc done (b ∷ []) bs) (omega (arith, sums, more))
        | inr other ↦
            let parts : escape b ≡ b ∷ [] = rw other refl in
            let sums : sum (escape b) ≡ b = ap sum parts ∙ zero-add b in
            let more = sum-append (escape b) (escaped bs) in
            ap (λ (xs : List ℕ). F (inside done total) ((xs ++ escaped bs) ++ rest)) parts
            ∙ silent (inside done total) b (escaped bs ++ rest) refl
            ∙ ap (λ (r : ReceiverState). F r (escaped bs ++ rest)) (plain done total b other (omega (arith, few)))
            ∙ body (done ++ b ∷ []) bs ((total + b) % 256) rest (omega (arith, few, longer)) (omega arith)
            ∙ moved ((done ++ b ∷ []) ++ bs) (done ++ b ∷ bs) _ _ rest (append_assoc done (b ∷ []) bs) (omega (arith, sums, more))
      ]

  -- a whole payload, after its `$`
  whole : (payload rest : List ℕ) → length payload ≤ packet_size
      → F begun (escaped payload ++ rest) ≡ F (inside payload (checksum (escaped payload))) rest
  whole payload rest few =
      body [] payload 0 rest (omega (arith, few)) (omega arith) ∙ moved payload payload _ _ rest refl (omega arith)

silent_arrivals : (r : ReceiverState) (byte : ℕ) (bytes : List ℕ) → arrival r byte ≡ None → arrivals r (byte ∷ bytes) ≡ arrivals (next r byte) bytes
silent_arrivals r byte bytes none = ap (λ (a : Option Arrival). with_first a (arrivals (next r byte) bytes)) none

silent_after : (r : ReceiverState) (byte : ℕ) (bytes : List ℕ) → arrival r byte ≡ None → after r (byte ∷ bytes) ≡ after (next r byte) bytes
silent_after r byte bytes none = refl

-- the digits of a sum are read as that sum
digit_back : (d : ℕ) → d < 16 → hex_digit_value (hex_digit d) ≡ Some d
unfolding hex_digit_value hex_digit
digit_back d h = grind (arith, nat_tests)

number_back : (n : ℕ) → n < 256 → is_number (hex_digit_value (hex_digit (n / 16))) (hex_digit_value (hex_digit (n % 16))) n ≡ true
number_back n h =
    rw (digit_back (n / 16) (omega arith), digit_back (n % 16) (omega arith))
    (eq-eqb (16 * (n / 16) + n % 16) n (omega arith))

ends : (payload : List ℕ) (n : ℕ) → n < 256 → arrivals (inside payload n) (35 ∷ hexed_byte n) ≡ Packet ∷ []
ends payload n h = rw (number_back n h) refl

-- ---- a packet after a `$`, whatever was before

module _ (r : ReceiverState) (payload : List ℕ) (is : r.part ≡ Outside) (few : length payload ≤ packet_size) where
  begins : next r 36 ≡ begun
  begins = rw is refl

  nothing_yet : arrival r 36 ≡ None
  nothing_yet = rw is refl

  pub one_arrives : arrivals r (framed payload) ≡ Packet ∷ []
  one_arrives =
      silent_arrivals r 36 (escaped payload ++ 35 ∷ hexed_byte (checksum (escaped payload))) nothing_yet
      ∙ ap (λ (s : ReceiverState). arrivals s (escaped payload ++ 35 ∷ hexed_byte (checksum (escaped payload)))) begins
      ∙ whole arrivals silent_arrivals payload (35 ∷ hexed_byte (checksum (escaped payload))) few
      ∙ ends payload (checksum (escaped payload)) (omega arith)

  pub is_after : after r (framed payload)
      ≡ after (inside payload (checksum (escaped payload))) (35 ∷ hexed_byte (checksum (escaped payload)))
  is_after =
      ap (λ (s : ReceiverState). after s (escaped payload ++ 35 ∷ hexed_byte (checksum (escaped payload)))) begins
      ∙ whole after silent_after payload (35 ∷ hexed_byte (checksum (escaped payload))) few

  pub payload_after : (after r (framed payload)).payload ≡ payload
  payload_after = ap (λ (s : ReceiverState). s.payload) is_after

  pub outside_after : (after r (framed payload)).part ≡ Outside
  outside_after = ap (λ (s : ReceiverState). s.part) is_after
