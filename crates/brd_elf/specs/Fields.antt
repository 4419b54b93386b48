-- Numbers in an ELF file: with ELFDATA2MSB the most significant byte comes first, with ELFDATA2LSB the least
-- significant (System V ABI, "Data Encoding").
use Rattle.std.specs.Prelude.{ℕ, ◌+◌, ◌^◌, ◌%◌, Bool, nat_le, List, length, drop}
use Rattle.byteorder.specs.Endian.{big_number, little_number, big_bytes, little_bytes}
use Rattle.brd_word.specs.declared.order.Order.{Order}
use Rattle.brd_word.specs.declared.order.Order.TheVariants.{Big, Little}

-- the number in the first bytes, as many as n
abbrev pub number : Order → ℕ → List ℕ → ℕ
number Big n bytes = big_number n bytes
number Little n bytes = little_number n bytes

-- the lowest n bytes of a number
abbrev pub bytes : Order → ℕ → ℕ → List ℕ
bytes Big n number = big_bytes n number
bytes Little n number = little_bytes n number

-- the number in the two bytes from a place on
unfoldable pub half_at : Order → List ℕ → ℕ → ℕ
half_at order file at = number order 2 (drop at file)

-- the number in the four bytes from a place on
unfoldable pub word_at : Order → List ℕ → ℕ → ℕ
word_at order file at = number order 4 (drop at file)

-- the two bytes of a number, which is taken modulo 2 ^ 16
unfoldable pub half : Order → ℕ → List ℕ
half order number = bytes order 2 (number % 2 ^ 16)

-- the four bytes of a number, which is taken modulo 2 ^ 32
unfoldable pub word : Order → ℕ → List ℕ
word order number = bytes order 4 (number % 2 ^ 32)

-- a file has as many bytes as this from an offset on
abbrev pub has_bytes : List ℕ → ℕ → ℕ → Bool
has_bytes file offset size = nat_le (offset + size) (length file)
