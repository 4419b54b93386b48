-- How names are hashed: under keys that the whole source decides.
use Rattle.std.specs.Prelude.{ℕ, ◌-◌, ◌*◌, ◌/◌, ◌^◌, List, [], ◌∷◌, bit_and, bit_xor}
use Rattle.std.specs.Hash.DefaultHasher as sip
use Rattle.brd_asm.specs.declared.key.NameHasher.{NameHasher}

-- the two halves of a product of 128 bits, joined by exclusive or
unfoldable pub folded : ℕ → ℕ → ℕ
folded a b = bit_xor (bit_and (a * b) (2 ^ 64 - 1)) (a * b / 2 ^ 64)

-- after the bytes of a name
abbrev pub written : NameHasher → List ℕ → NameHasher
written s [] = s
written s (b ∷ bs) =
    written (record { state = folded (bit_xor s.state b) s.inner; inner = s.inner; outer = s.outer }) bs

abbrev pub finished : NameHasher → ℕ
finished s = folded s.state s.outer

-- before any name: SipHash of the source's bytes, and of these with one more byte and with two
abbrev pub keys_of : List ℕ → NameHasher
keys_of text =
    let one = sip.write sip.initial text in
    let two = sip.write one (1 ∷ []) in
    let three = sip.write two (2 ∷ []) in
    record { state = sip.finish one; inner = sip.finish two; outer = sip.finish three }
