-- The hexadecimal digits of a word, read back.
use Rattle.std.proofs.Common.{◌≡◌, ℕ, ◌+◌, ◌*◌, ◌/◌, ◌%◌, ◌^◌, ◌<◌, List, [], ◌∷◌, map, Some, refl, ap, ◌∙◌, arith}
use Rattle.std.specs.List.{AllByRecursion}
use Rattle.std.proofs.lemmas.Bool.{le-leb}
use Rattle.std.proofs.lemmas.Bool.Decides.{nat_tests}
use Rattle.brd_text.specs.Numbers.{hex_digit_value, digit_of, value_behind, at_most, most_word}
use Rattle.brd_text.specs.Hex.{hex_word_of, hex_digit, hex_of}

digit_back : (d : ℕ) → d < 16 → digit_of 16 (hex_digit d) ≡ Some d
unfolding digit_of hex_digit_value hex_digit
digit_back d h = grind (arith, nat_tests)

one_digit : (v d : ℕ) (bs : List ℕ) → d < 16 → value_behind 16 (Some v) (hex_digit d ∷ bs) ≡ value_behind 16 (Some (16 * v + d)) bs
one_digit v d bs h = rw (digit_back d h) refl

abbrev with_digits : ℕ → List ℕ → ℕ
with_digits v [] = v
with_digits v (d ∷ ds) = with_digits (16 * v + d) ds

digits_back : (v : ℕ) (ds : List ℕ) → AllByRecursion (λ d. d < 16) ds → value_behind 16 (Some v) (map hex_digit ds) ≡ Some (with_digits v ds)
digits_back v [] h = refl
digits_back v (d ∷ ds) h = one_digit v d (map hex_digit ds) h.0 ∙ digits_back (16 * v + d) ds h.1

abbrev digits_of : ℕ → List ℕ
digits_of word = word / 2 ^ 28 % 16 ∷ word / 2 ^ 24 % 16 ∷ word / 2 ^ 20 % 16 ∷ word / 2 ^ 16 % 16 ∷ word / 2 ^ 12 % 16 ∷ word / 2 ^ 8 % 16 ∷ word / 2 ^ 4 % 16 ∷ word % 16 ∷ []

small : (word : ℕ) → AllByRecursion (λ d. d < 16) (digits_of word)
small word = (omega arith, (omega arith, (omega arith, (omega arith, (omega arith, (omega arith, (omega arith, (omega arith, tt))))))))

sum_of_digits : (word : ℕ) → word < 2 ^ 32 → with_digits 0 (digits_of word) ≡ word
sum_of_digits word h = omega arith

few : (word : ℕ) → word < 2 ^ 32 → at_most most_word (Some word) ≡ Some word
few word h = rw (le-leb word 0xffffffff (omega arith)) refl

pub word_back : (word : ℕ) → word < 2 ^ 32 → hex_word_of (hex_of word) ≡ Some word
unfolding hex_word_of hex_of
word_back word h =
    ap (at_most most_word) (digits_back 0 (digits_of word) (small word) ∙ ap Some (sum_of_digits word h))
    ∙ few word h
