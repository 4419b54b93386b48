-- Four bytes make a word, in either order, and a word has four, a halfword two.
use Rattle.std.proofs.Common.{◌≡◌, ℕ, List, length, slice_index, refl}
use Rattle.brd_word.specs.Words.{bytes_of_word, bytes_of_half, word_of_bytes}
use Rattle.brd_word.specs.declared.order.Order.{Order}

-- four bytes make the word
pub word-by_bytes : (order : Order) (bytes others : List ℕ) →
    slice_index bytes 0 ≡ slice_index others 0 → slice_index bytes 1 ≡ slice_index others 1 →
    slice_index bytes 2 ≡ slice_index others 2 → slice_index bytes 3 ≡ slice_index others 3 →
    word_of_bytes order bytes ≡ word_of_bytes order others
word-by_bytes Order.Big bytes others first second third fourth = cc
word-by_bytes Order.Little bytes others first second third fourth = cc

-- a word has four bytes
pub four_of-word : (order : Order) (word : ℕ) → length (bytes_of_word order word) ≡ 4
four_of-word Order.Big word = refl
four_of-word Order.Little word = refl

-- and a halfword two
pub two_of-half : (order : Order) (half : ℕ) → length (bytes_of_half order half) ≡ 2
two_of-half Order.Big half = refl
two_of-half Order.Little half = refl
