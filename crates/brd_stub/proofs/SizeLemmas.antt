-- How long replies are.
use Rattle.std.proofs.Common.{◌≡◌, ℕ, ◌+◌, ◌*◌, ◌≤◌, List, [], ◌∷◌, ◌++◌, length, refl, ap, ◌∙◌, arith, length-append}
use Rattle.std.proofs.lemmas.List.{length-replicate}
use Rattle.std.specs.Prelude.{Option, Some, None}
use Rattle.brd_word.specs.declared.order.Order.{Order}
use Rattle.brd_word.specs.declared.order.Order.TheVariants.{Big, Little}
use Rattle.brd_exec.specs.State.{State}
use Rattle.brd_mem.specs.Memory.{Memory}
use Rattle.brd_gdb.specs.Hexes.{hexed}
use Rattle.brd_board.specs.declared.view.Fault.{Fault}
use Rattle.brd_stub.specs.Registers.{word_text, words_text, word_or_unavailable, cause_of, registers_text}
use Rattle.brd_stub.specs.Reading.{bytes_text, IsMemoryText}

hexed-size : (bytes : List ℕ) → length (hexed bytes) ≡ 2 * length bytes
hexed-size [] = refl
hexed-size (byte ∷ bytes) = omega (arith, hexed-size bytes)

word-size : (order : Order) (word : ℕ) → length (word_text order word) ≡ 8
word-size Big word = refl
word-size Little word = refl

words-size : (order : Order) (words : List ℕ) → length (words_text order words) ≡ 8 * length words
words-size order [] = refl
words-size order (word ∷ words) =
    length-append (word_text order word) (words_text order words) ∙ omega (arith, word-size order word, words-size order words)

-- a register has eight digits
pub register-size : (order : Order) (word : Option ℕ) → length (word_or_unavailable order word) ≡ 8
register-size order None = length-replicate {A = ℕ} 8 120
register-size order (Some word) = word-size order word

more : (front back : List ℕ) (m n : ℕ) → length front ≡ m → length back ≡ n → length (front ++ back) ≡ m + n
more front back m n first second = length-append front back ∙ omega (arith, first, second)

-- all registers have 38 times as many
pub registers-size : (order : Order) (s : State) (fault : Option Fault) (bad : Option ℕ) → length s.registers ≡ 32 →
    length (registers_text order s fault bad) ≡ 304
registers-size order s fault bad count =
    more _ _ 296 8 (more _ _ 288 8 (more _ _ 280 8 (more _ _ 272 8 (more _ _ 264 8 (more _ _ 256 8 (words-size order s.registers ∙ omega (arith, count)) (length-replicate {A = ℕ} 8 120))
    (word-size order s.lo)) (word-size order s.hi)) (register-size order bad)) (register-size order (cause_of fault)))
    (word-size order s.pc)

some-size : (bytes : List ℕ) → length bytes ≤ 8192 → length (bytes_text bytes) ≤ 16384
some-size [] few = omega arith
some-size (byte ∷ bytes) few = omega (arith, hexed-size (byte ∷ bytes), few)

-- memory has at most as many as a packet has
pub memory-size : (memory : Memory) (address n : ℕ) (reply : List ℕ) → IsMemoryText memory address n reply → length reply ≤ 16384
memory-size memory address n reply is = omega (arith, some-size is.bytes (omega (arith, is.front.most)), ap length is.text)

-- what is put after something
pub added-size : (old new back : List ℕ) (n : ℕ) → new ≡ old ++ back → length back ≡ n → length new ≤ length old + n
added-size old new back n is size = omega (arith, ap length is, length-append old back, size)
