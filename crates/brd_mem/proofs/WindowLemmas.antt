-- The words of a window, by the bytes that they are read from; and where there is a window.
use Rattle.std.proofs.Common.{◌≡◌, ℕ, ◌+◌, ◌-◌, ◌*◌, ◌<◌, Bool, true, false, if◌then◌else◌, List, [], ◌∷◌, take, drop, get_or, refl, sym, ap, ◌∙◌, arith, is_some}
use Rattle.std.specs.Prelude.{None, Some}
use Rattle.std.proofs.lemmas.Bool.Decides.{nat_tests}
use Rattle.std.proofs.lemmas.List.{get_or-take, get_or-drop}
use Rattle.brd_word.specs.Words.{word_of_bytes}
use Rattle.brd_word.specs.declared.order.Order.{Order}
use Rattle.brd_word.proofs.BytesLemmas.{word-by_bytes}
use Rattle.brd_base.specs.Space.{base, IsRamSize}
use Rattle.brd_mem.specs.Memory.{Memory, size_of, contains, word_at}
use Rattle.brd_mem.specs.Window.{window_start, words_at, window_at}

-- a byte of the 256 from a place on is one of the four of its word
byte-in : (xs bytes : List ℕ) (at i j k : ℕ) → bytes ≡ xs → i < 64 → k < 4 → j ≡ 4 * i + k →
    get_or (take (at + 256 - at) (drop at bytes)) j 0 ≡ get_or (take 4 (drop (at + 4 * i) xs)) k 0
byte-in xs bytes at i j k same below in_word place =
    get_or-take (at + 256 - at) (drop at bytes) j 0 (omega arith)
    ∙ get_or-drop at bytes j 0
    ∙ ap (λ all. get_or all (at + j) 0) same
    ∙ ap (λ n. get_or xs n 0) (omega arith)
    ∙ sym (get_or-take 4 (drop (at + 4 * i) xs) k 0 in_word ∙ get_or-drop (at + 4 * i) xs k 0)

pub word-in : (memory : Memory) (order : Order) (bytes : List ℕ) (at i : ℕ) → order ≡ memory.order → bytes ≡ memory.bytes → i < 64 →
    word_of_bytes order
    (get_or (take (at + 256 - at) (drop at bytes)) (4 * i) 0
    ∷ get_or (take (at + 256 - at) (drop at bytes)) (4 * i + 1) 0
    ∷ get_or (take (at + 256 - at) (drop at bytes)) (4 * i + 2) 0
    ∷ get_or (take (at + 256 - at) (drop at bytes)) (4 * i + 3) 0
    ∷ [])
    ≡ word_at memory (at + 4 * i)
word-in memory order bytes at i alike same below =
    let first = byte-in memory.bytes bytes at i (4 * i) 0 same below (omega arith) (omega arith) in
    let second = byte-in memory.bytes bytes at i (4 * i + 1) 1 same below (omega arith) (omega arith) in
    let third = byte-in memory.bytes bytes at i (4 * i + 2) 2 same below (omega arith) (omega arith) in
    let fourth = byte-in memory.bytes bytes at i (4 * i + 3) 3 same below (omega arith) (omega arith) in
    rw alike (word-by_bytes memory.order _ _ first second third fourth)

some-if : {X : Type 0} (test : Bool) (x : X) → is_some (if test then Some x else None) ≡ test
some-if true x = refl
some-if false x = refl

-- RAM begins and ends at a multiple of 256
whole : (size address : ℕ) → IsRamSize size → contains size (window_start address) 256 ≡ contains size address 1
whole size address ram = grind (arith, nat_tests, ram.least, ram.most, ram.whole)

pub whole-window : (memory : Memory) (address : ℕ) → IsRamSize (size_of memory) →
    is_some (window_at memory address) ≡ contains (size_of memory) address 1
whole-window memory address ram =
    some-if (contains (size_of memory) (window_start address) 256) (words_at memory (window_start address - base) 64)
    ∙ whole (size_of memory) address ram
