-- Why an unaligned word is loaded by LWL and LWR, and stored by SWL and SWR, whatever the place of its first byte in
-- the aligned word, and in either byte order.
use Rattle.std.proofs.Common.{◌≡◌, ℕ, ◌+◌, ◌-◌, ◌*◌, ◌/◌, ◌%◌, ◌^◌, ◌<◌, ◌≤◌, List, [], ◌∷◌, ◌++◌, length, take, drop, slice_index}
use Rattle.std.proofs.Common.{arith, ap, sym, subst, ◌∙◌, zero, suc, Ok, IsOkAnd, refl, append_assoc, drop-drop}
use Rattle.std.proofs.lemmas.Bool.Decides.{nat_tests}
use Rattle.std.proofs.lemmas.List.{take-append-drop, take_at, length-append, length-take-le}
use Rattle.std.proofs.lemmas.List.{length-drop}
use Rattle.std.proofs.Math.Seq.{take-append-add, drop-append-add}
use Rattle.brd_word.specs.declared.order.Order.{Order}
use Rattle.brd_word.specs.Words.{bytes_of_word, word_of_bytes, AreBytes}
use Rattle.brd_word.proofs.BytesLemmas.{four_of-word}
use Rattle.brd_base.specs.Space.{base, IsRamSize}
use Rattle.brd_mem.specs.Memory.{Memory, memory_of_bytes, size_of, copied, word_at}
use Rattle.brd_exec.specs.Unaligned.{aligned, aligned_place, bytes_above, left_loaded, right_loaded, left_stored, right_stored, if_inside, loaded_left, loaded_right, stored_left, stored_right, high_end, low_end}

-- the test of all four
inside-from_bounds : {A : Type 0} (memory : Memory) (address : ℕ) (found : A) →
    base ≤ aligned address → aligned address + 4 ≤ base + size_of memory → if_inside memory address found ≡ Ok found
inside-from_bounds memory address found from to = grind (arith, nat_tests)

AreBytes-take : (n : ℕ) (xs : List ℕ) → AreBytes xs → (place : ℕ) → slice_index (take n xs) place < 2 ^ 8
AreBytes-take zero xs are place = omega arith
AreBytes-take (suc n) [] are place = omega arith
AreBytes-take (suc n) (x ∷ xs) are zero = are zero
AreBytes-take (suc n) (x ∷ xs) are (suc place) = AreBytes-take n xs (λ k. are (suc k)) place

AreBytes-drop : (n : ℕ) (xs : List ℕ) → AreBytes xs → (place : ℕ) → slice_index (drop n xs) place < 2 ^ 8
AreBytes-drop zero xs are place = are place
AreBytes-drop (suc n) [] are place = omega arith
AreBytes-drop (suc n) (x ∷ xs) are place = AreBytes-drop n xs (λ k. are (suc k)) place

-- ---- four bytes of which some are replaced

abbrev four : Order → ℕ → ℕ → ℕ → ℕ → ℕ
four order a b c d = word_of_bytes order (a ∷ b ∷ c ∷ d ∷ [])

left-big1 : (a b c d x : ℕ) → a < 2 ^ 8 → b < 2 ^ 8 → c < 2 ^ 8 → d < 2 ^ 8 → x < 2 ^ 32 →
    bytes_of_word Order.Big (left_stored 1 (four Order.Big a b c d) x) ≡ a ∷ x / 2 ^ 24 % 256 ∷ x / 2 ^ 16 % 256 ∷ x / 2 ^ 8 % 256 ∷ []
left-big1 a b c d x i j k l m =
    let word : ℕ = a * 2 ^ 24 + b * 2 ^ 16 + c * 2 ^ 8 + d in
    let first : left_stored 1 word x / 2 ^ 24 % 256 ≡ a = omega arith in
    let second : left_stored 1 word x / 2 ^ 16 % 256 ≡ x / 2 ^ 24 % 256 = omega arith in
    let third : left_stored 1 word x / 2 ^ 8 % 256 ≡ x / 2 ^ 16 % 256 = omega arith in
    let fourth : left_stored 1 word x % 256 ≡ x / 2 ^ 8 % 256 = omega arith in
    cc

left-big2 : (a b c d x : ℕ) → a < 2 ^ 8 → b < 2 ^ 8 → c < 2 ^ 8 → d < 2 ^ 8 → x < 2 ^ 32 →
    bytes_of_word Order.Big (left_stored 2 (four Order.Big a b c d) x) ≡ a ∷ b ∷ x / 2 ^ 24 % 256 ∷ x / 2 ^ 16 % 256 ∷ []
left-big2 a b c d x i j k l m =
    let word : ℕ = a * 2 ^ 24 + b * 2 ^ 16 + c * 2 ^ 8 + d in
    let first : left_stored 2 word x / 2 ^ 24 % 256 ≡ a = omega arith in
    let second : left_stored 2 word x / 2 ^ 16 % 256 ≡ b = omega arith in
    let third : left_stored 2 word x / 2 ^ 8 % 256 ≡ x / 2 ^ 24 % 256 = omega arith in
    let fourth : left_stored 2 word x % 256 ≡ x / 2 ^ 16 % 256 = omega arith in
    cc

left-big3 : (a b c d x : ℕ) → a < 2 ^ 8 → b < 2 ^ 8 → c < 2 ^ 8 → d < 2 ^ 8 → x < 2 ^ 32 →
    bytes_of_word Order.Big (left_stored 3 (four Order.Big a b c d) x) ≡ a ∷ b ∷ c ∷ x / 2 ^ 24 % 256 ∷ []
left-big3 a b c d x i j k l m =
    let word : ℕ = a * 2 ^ 24 + b * 2 ^ 16 + c * 2 ^ 8 + d in
    let first : left_stored 3 word x / 2 ^ 24 % 256 ≡ a = omega arith in
    let second : left_stored 3 word x / 2 ^ 16 % 256 ≡ b = omega arith in
    let third : left_stored 3 word x / 2 ^ 8 % 256 ≡ c = omega arith in
    let fourth : left_stored 3 word x % 256 ≡ x / 2 ^ 24 % 256 = omega arith in
    cc

left-little1 : (a b c d x : ℕ) → a < 2 ^ 8 → b < 2 ^ 8 → c < 2 ^ 8 → d < 2 ^ 8 → x < 2 ^ 32 →
    bytes_of_word Order.Little (left_stored 1 (four Order.Little a b c d) x) ≡ x / 2 ^ 8 % 256 ∷ x / 2 ^ 16 % 256 ∷ x / 2 ^ 24 % 256 ∷ d ∷ []
left-little1 a b c d x i j k l m =
    let word : ℕ = d * 2 ^ 24 + c * 2 ^ 16 + b * 2 ^ 8 + a in
    let first : left_stored 1 word x % 256 ≡ x / 2 ^ 8 % 256 = omega arith in
    let second : left_stored 1 word x / 2 ^ 8 % 256 ≡ x / 2 ^ 16 % 256 = omega arith in
    let third : left_stored 1 word x / 2 ^ 16 % 256 ≡ x / 2 ^ 24 % 256 = omega arith in
    let fourth : left_stored 1 word x / 2 ^ 24 % 256 ≡ d = omega arith in
    cc

left-little2 : (a b c d x : ℕ) → a < 2 ^ 8 → b < 2 ^ 8 → c < 2 ^ 8 → d < 2 ^ 8 → x < 2 ^ 32 →
    bytes_of_word Order.Little (left_stored 2 (four Order.Little a b c d) x) ≡ x / 2 ^ 16 % 256 ∷ x / 2 ^ 24 % 256 ∷ c ∷ d ∷ []
left-little2 a b c d x i j k l m =
    let word : ℕ = d * 2 ^ 24 + c * 2 ^ 16 + b * 2 ^ 8 + a in
    let first : left_stored 2 word x % 256 ≡ x / 2 ^ 16 % 256 = omega arith in
    let second : left_stored 2 word x / 2 ^ 8 % 256 ≡ x / 2 ^ 24 % 256 = omega arith in
    let third : left_stored 2 word x / 2 ^ 16 % 256 ≡ c = omega arith in
    let fourth : left_stored 2 word x / 2 ^ 24 % 256 ≡ d = omega arith in
    cc

left-little3 : (a b c d x : ℕ) → a < 2 ^ 8 → b < 2 ^ 8 → c < 2 ^ 8 → d < 2 ^ 8 → x < 2 ^ 32 →
    bytes_of_word Order.Little (left_stored 3 (four Order.Little a b c d) x) ≡ x / 2 ^ 24 % 256 ∷ b ∷ c ∷ d ∷ []
left-little3 a b c d x i j k l m =
    let word : ℕ = d * 2 ^ 24 + c * 2 ^ 16 + b * 2 ^ 8 + a in
    let first : left_stored 3 word x % 256 ≡ x / 2 ^ 24 % 256 = omega arith in
    let second : left_stored 3 word x / 2 ^ 8 % 256 ≡ b = omega arith in
    let third : left_stored 3 word x / 2 ^ 16 % 256 ≡ c = omega arith in
    let fourth : left_stored 3 word x / 2 ^ 24 % 256 ≡ d = omega arith in
    cc

right-big0 : (a b c d x : ℕ) → a < 2 ^ 8 → b < 2 ^ 8 → c < 2 ^ 8 → d < 2 ^ 8 → x < 2 ^ 32 →
    bytes_of_word Order.Big (right_stored 0 (four Order.Big a b c d) x) ≡ x % 256 ∷ b ∷ c ∷ d ∷ []
right-big0 a b c d x i j k l m =
    let word : ℕ = a * 2 ^ 24 + b * 2 ^ 16 + c * 2 ^ 8 + d in
    let first : right_stored 0 word x / 2 ^ 24 % 256 ≡ x % 256 = omega arith in
    let second : right_stored 0 word x / 2 ^ 16 % 256 ≡ b = omega arith in
    let third : right_stored 0 word x / 2 ^ 8 % 256 ≡ c = omega arith in
    let fourth : right_stored 0 word x % 256 ≡ d = omega arith in
    cc

right-big1 : (a b c d x : ℕ) → a < 2 ^ 8 → b < 2 ^ 8 → c < 2 ^ 8 → d < 2 ^ 8 → x < 2 ^ 32 →
    bytes_of_word Order.Big (right_stored 1 (four Order.Big a b c d) x) ≡ x / 2 ^ 8 % 256 ∷ x % 256 ∷ c ∷ d ∷ []
right-big1 a b c d x i j k l m =
    let word : ℕ = a * 2 ^ 24 + b * 2 ^ 16 + c * 2 ^ 8 + d in
    let first : right_stored 1 word x / 2 ^ 24 % 256 ≡ x / 2 ^ 8 % 256 = omega arith in
    let second : right_stored 1 word x / 2 ^ 16 % 256 ≡ x % 256 = omega arith in
    let third : right_stored 1 word x / 2 ^ 8 % 256 ≡ c = omega arith in
    let fourth : right_stored 1 word x % 256 ≡ d = omega arith in
    cc

right-big2 : (a b c d x : ℕ) → a < 2 ^ 8 → b < 2 ^ 8 → c < 2 ^ 8 → d < 2 ^ 8 → x < 2 ^ 32 →
    bytes_of_word Order.Big (right_stored 2 (four Order.Big a b c d) x) ≡ x / 2 ^ 16 % 256 ∷ x / 2 ^ 8 % 256 ∷ x % 256 ∷ d ∷ []
right-big2 a b c d x i j k l m =
    let word : ℕ = a * 2 ^ 24 + b * 2 ^ 16 + c * 2 ^ 8 + d in
    let first : right_stored 2 word x / 2 ^ 24 % 256 ≡ x / 2 ^ 16 % 256 = omega arith in
    let second : right_stored 2 word x / 2 ^ 16 % 256 ≡ x / 2 ^ 8 % 256 = omega arith in
    let third : right_stored 2 word x / 2 ^ 8 % 256 ≡ x % 256 = omega arith in
    let fourth : right_stored 2 word x % 256 ≡ d = omega arith in
    cc

right-little0 : (a b c d x : ℕ) → a < 2 ^ 8 → b < 2 ^ 8 → c < 2 ^ 8 → d < 2 ^ 8 → x < 2 ^ 32 →
    bytes_of_word Order.Little (right_stored 0 (four Order.Little a b c d) x) ≡ a ∷ b ∷ c ∷ x % 256 ∷ []
right-little0 a b c d x i j k l m =
    let word : ℕ = d * 2 ^ 24 + c * 2 ^ 16 + b * 2 ^ 8 + a in
    let first : right_stored 0 word x % 256 ≡ a = omega arith in
    let second : right_stored 0 word x / 2 ^ 8 % 256 ≡ b = omega arith in
    let third : right_stored 0 word x / 2 ^ 16 % 256 ≡ c = omega arith in
    let fourth : right_stored 0 word x / 2 ^ 24 % 256 ≡ x % 256 = omega arith in
    cc

right-little1 : (a b c d x : ℕ) → a < 2 ^ 8 → b < 2 ^ 8 → c < 2 ^ 8 → d < 2 ^ 8 → x < 2 ^ 32 →
    bytes_of_word Order.Little (right_stored 1 (four Order.Little a b c d) x) ≡ a ∷ b ∷ x % 256 ∷ x / 2 ^ 8 % 256 ∷ []
right-little1 a b c d x i j k l m =
    let word : ℕ = d * 2 ^ 24 + c * 2 ^ 16 + b * 2 ^ 8 + a in
    let first : right_stored 1 word x % 256 ≡ a = omega arith in
    let second : right_stored 1 word x / 2 ^ 8 % 256 ≡ b = omega arith in
    let third : right_stored 1 word x / 2 ^ 16 % 256 ≡ x % 256 = omega arith in
    let fourth : right_stored 1 word x / 2 ^ 24 % 256 ≡ x / 2 ^ 8 % 256 = omega arith in
    cc

right-little2 : (a b c d x : ℕ) → a < 2 ^ 8 → b < 2 ^ 8 → c < 2 ^ 8 → d < 2 ^ 8 → x < 2 ^ 32 →
    bytes_of_word Order.Little (right_stored 2 (four Order.Little a b c d) x) ≡ a ∷ x % 256 ∷ x / 2 ^ 8 % 256 ∷ x / 2 ^ 16 % 256 ∷ []
right-little2 a b c d x i j k l m =
    let word : ℕ = d * 2 ^ 24 + c * 2 ^ 16 + b * 2 ^ 8 + a in
    let first : right_stored 2 word x % 256 ≡ a = omega arith in
    let second : right_stored 2 word x / 2 ^ 8 % 256 ≡ x % 256 = omega arith in
    let third : right_stored 2 word x / 2 ^ 16 % 256 ≡ x / 2 ^ 8 % 256 = omega arith in
    let fourth : right_stored 2 word x / 2 ^ 24 % 256 ≡ x / 2 ^ 16 % 256 = omega arith in
    cc

-- ---- words in a list of bytes

abbrev pub put : List ℕ → ℕ → List ℕ → List ℕ
put memory at bytes = take at memory ++ bytes ++ drop (at + length bytes) memory

abbrev word_in : Order → List ℕ → ℕ → ℕ
word_in order bytes at = word_of_bytes order (take 4 (drop at bytes))

abbrev left_in : Order → ℕ → List ℕ → ℕ → ℕ → List ℕ
left_in order p bytes at x = put bytes at (bytes_of_word order (left_stored p (word_in order bytes at) x))

abbrev right_in : Order → ℕ → List ℕ → ℕ → ℕ → List ℕ
right_in order p bytes at x = put bytes at (bytes_of_word order (right_stored p (word_in order bytes at) x))

length-front : (memory : List ℕ) (at : ℕ) (front : List ℕ) → at ≤ length memory →
    length (take at memory ++ front) ≡ at + length front
length-front memory at front fits = omega (arith, length-append (take at memory) front, length-take-le at memory fits)

pub drop-put : (memory : List ℕ) (at more : ℕ) (front rest : List ℕ) → at ≤ length memory →
    drop (at + length front + more) (take at memory ++ front ++ rest) ≡ drop more rest
drop-put memory at more front rest fits =
    subst (λ n. drop (n + more) (take at memory ++ front ++ rest) ≡ drop more rest) (length-front memory at front fits)
    (drop-append-add (take at memory ++ front) rest more)

put-again : (memory : List ℕ) (at : ℕ) (bytes : List ℕ) → at ≤ length memory →
    put (put memory at bytes) at bytes ≡ put memory at bytes
put-again memory at bytes fits =
    let behind : List ℕ = drop (at + length bytes) memory in
    let start : take at (put memory at bytes) ≡ take at memory =
    ap (take at) (append_assoc (take at memory) bytes behind)
    ∙ take_at (take at memory) (bytes ++ behind) at (length-take-le at memory fits) in
    let same : at + length bytes + 0 ≡ at + length bytes = omega arith in
    let end : drop (at + length bytes) (put memory at bytes) ≡ behind =
    subst (λ n. drop n (put memory at bytes) ≡ behind) same (drop-put memory at 0 bytes behind fits) in
    grind (arith, start, end)

pub length-put : (memory : List ℕ) (at : ℕ) (bytes : List ℕ) → at + length bytes ≤ length memory →
    length (put memory at bytes) ≡ length memory
length-put memory at bytes fits =
    let behind : List ℕ = drop (at + length bytes) memory in
    omega (
      arith,
      length-append (take at memory ++ bytes) behind,
      length-front memory at bytes (omega arith),
      length-drop (at + length bytes) memory,
    )

put-behind : (front rest bytes : List ℕ) (k : ℕ) → put (front ++ rest) (length front + k) bytes ≡ front ++ put rest k bytes
put-behind front rest bytes k =
    let sum : length front + k + length bytes ≡ length front + (k + length bytes) = omega arith in
    ap (λ xs. xs ++ bytes ++ drop (length front + k + length bytes) (front ++ rest)) (take-append-add front rest k)
    ∙ ap (λ n. (front ++ take k rest) ++ bytes ++ drop n (front ++ rest)) sum
    ∙ ap (λ xs. (front ++ take k rest) ++ bytes ++ xs) (drop-append-add front rest (k + length bytes))
    ∙ ap (λ xs. xs ++ drop (k + length bytes) rest) (append_assoc front (take k rest) bytes)
    ∙ append_assoc front (take k rest ++ bytes) (drop (k + length bytes) rest)

word-behind : (order : Order) (front rest : List ℕ) (k : ℕ) → word_in order (front ++ rest) (length front + k) ≡ word_in order rest k
word-behind order front rest k = ap (λ xs. word_of_bytes order (take 4 xs)) (drop-append-add front rest k)

left-behind : (order : Order) (p : ℕ) (front rest : List ℕ) (k x : ℕ) →
    left_in order p (front ++ rest) (length front + k) x ≡ front ++ left_in order p rest k x
left-behind order p front rest k x =
    ap (λ word. put (front ++ rest) (length front + k) (bytes_of_word order (left_stored p word x))) (word-behind order front rest k)
    ∙ put-behind front rest (bytes_of_word order (left_stored p (word_in order rest k) x)) k

right-behind : (order : Order) (p : ℕ) (front rest : List ℕ) (k x : ℕ) →
    right_in order p (front ++ rest) (length front + k) x ≡ front ++ right_in order p rest k x
right-behind order p front rest k x =
    ap (λ word. put (front ++ rest) (length front + k) (bytes_of_word order (right_stored p word x))) (word-behind order front rest k)
    ∙ put-behind front rest (bytes_of_word order (right_stored p (word_in order rest k) x)) k

-- ---- stores into eight bytes, from the place r of the first on

stored-big1 : (a b c d e f g h x : ℕ) (rest : List ℕ) → a < 2 ^ 8 → b < 2 ^ 8 → c < 2 ^ 8 → d < 2 ^ 8 → e < 2 ^ 8 → f < 2 ^ 8 → g < 2 ^ 8 → h < 2 ^ 8 → x < 2 ^ 32 →
    right_in Order.Big 0 (left_in Order.Big 1 (a ∷ b ∷ c ∷ d ∷ e ∷ f ∷ g ∷ h ∷ rest) 0 x) 4 x ≡ put (a ∷ b ∷ c ∷ d ∷ e ∷ f ∷ g ∷ h ∷ rest) 1 (bytes_of_word Order.Big x)
stored-big1 a b c d e f g h x rest i j k l m n o q w =
    ap (λ xs. right_in Order.Big 0 (put (a ∷ b ∷ c ∷ d ∷ e ∷ f ∷ g ∷ h ∷ rest) 0 xs) 4 x) (left-big1 a b c d x i j k l w)
    ∙ ap (λ xs. put (put (a ∷ b ∷ c ∷ d ∷ e ∷ f ∷ g ∷ h ∷ rest) 0 (a ∷ x / 2 ^ 24 % 256 ∷ x / 2 ^ 16 % 256 ∷ x / 2 ^ 8 % 256 ∷ [])) 4 xs) (right-big0 e f g h x m n o q w)

stored-big2 : (a b c d e f g h x : ℕ) (rest : List ℕ) → a < 2 ^ 8 → b < 2 ^ 8 → c < 2 ^ 8 → d < 2 ^ 8 → e < 2 ^ 8 → f < 2 ^ 8 → g < 2 ^ 8 → h < 2 ^ 8 → x < 2 ^ 32 →
    right_in Order.Big 1 (left_in Order.Big 2 (a ∷ b ∷ c ∷ d ∷ e ∷ f ∷ g ∷ h ∷ rest) 0 x) 4 x ≡ put (a ∷ b ∷ c ∷ d ∷ e ∷ f ∷ g ∷ h ∷ rest) 2 (bytes_of_word Order.Big x)
stored-big2 a b c d e f g h x rest i j k l m n o q w =
    ap (λ xs. right_in Order.Big 1 (put (a ∷ b ∷ c ∷ d ∷ e ∷ f ∷ g ∷ h ∷ rest) 0 xs) 4 x) (left-big2 a b c d x i j k l w)
    ∙ ap (λ xs. put (put (a ∷ b ∷ c ∷ d ∷ e ∷ f ∷ g ∷ h ∷ rest) 0 (a ∷ b ∷ x / 2 ^ 24 % 256 ∷ x / 2 ^ 16 % 256 ∷ [])) 4 xs) (right-big1 e f g h x m n o q w)

stored-big3 : (a b c d e f g h x : ℕ) (rest : List ℕ) → a < 2 ^ 8 → b < 2 ^ 8 → c < 2 ^ 8 → d < 2 ^ 8 → e < 2 ^ 8 → f < 2 ^ 8 → g < 2 ^ 8 → h < 2 ^ 8 → x < 2 ^ 32 →
    right_in Order.Big 2 (left_in Order.Big 3 (a ∷ b ∷ c ∷ d ∷ e ∷ f ∷ g ∷ h ∷ rest) 0 x) 4 x ≡ put (a ∷ b ∷ c ∷ d ∷ e ∷ f ∷ g ∷ h ∷ rest) 3 (bytes_of_word Order.Big x)
stored-big3 a b c d e f g h x rest i j k l m n o q w =
    ap (λ xs. right_in Order.Big 2 (put (a ∷ b ∷ c ∷ d ∷ e ∷ f ∷ g ∷ h ∷ rest) 0 xs) 4 x) (left-big3 a b c d x i j k l w)
    ∙ ap (λ xs. put (put (a ∷ b ∷ c ∷ d ∷ e ∷ f ∷ g ∷ h ∷ rest) 0 (a ∷ b ∷ c ∷ x / 2 ^ 24 % 256 ∷ [])) 4 xs) (right-big2 e f g h x m n o q w)

stored-little1 : (a b c d e f g h x : ℕ) (rest : List ℕ) → a < 2 ^ 8 → b < 2 ^ 8 → c < 2 ^ 8 → d < 2 ^ 8 → e < 2 ^ 8 → f < 2 ^ 8 → g < 2 ^ 8 → h < 2 ^ 8 → x < 2 ^ 32 →
    right_in Order.Little 2 (left_in Order.Little 3 (a ∷ b ∷ c ∷ d ∷ e ∷ f ∷ g ∷ h ∷ rest) 4 x) 0 x ≡ put (a ∷ b ∷ c ∷ d ∷ e ∷ f ∷ g ∷ h ∷ rest) 1 (bytes_of_word Order.Little x)
stored-little1 a b c d e f g h x rest i j k l m n o q w =
    ap (λ xs. right_in Order.Little 2 (put (a ∷ b ∷ c ∷ d ∷ e ∷ f ∷ g ∷ h ∷ rest) 4 xs) 0 x) (left-little3 e f g h x m n o q w)
    ∙ ap (λ xs. put (put (a ∷ b ∷ c ∷ d ∷ e ∷ f ∷ g ∷ h ∷ rest) 4 (x / 2 ^ 24 % 256 ∷ f ∷ g ∷ h ∷ [])) 0 xs) (right-little2 a b c d x i j k l w)

stored-little2 : (a b c d e f g h x : ℕ) (rest : List ℕ) → a < 2 ^ 8 → b < 2 ^ 8 → c < 2 ^ 8 → d < 2 ^ 8 → e < 2 ^ 8 → f < 2 ^ 8 → g < 2 ^ 8 → h < 2 ^ 8 → x < 2 ^ 32 →
    right_in Order.Little 1 (left_in Order.Little 2 (a ∷ b ∷ c ∷ d ∷ e ∷ f ∷ g ∷ h ∷ rest) 4 x) 0 x ≡ put (a ∷ b ∷ c ∷ d ∷ e ∷ f ∷ g ∷ h ∷ rest) 2 (bytes_of_word Order.Little x)
stored-little2 a b c d e f g h x rest i j k l m n o q w =
    ap (λ xs. right_in Order.Little 1 (put (a ∷ b ∷ c ∷ d ∷ e ∷ f ∷ g ∷ h ∷ rest) 4 xs) 0 x) (left-little2 e f g h x m n o q w)
    ∙ ap (λ xs. put (put (a ∷ b ∷ c ∷ d ∷ e ∷ f ∷ g ∷ h ∷ rest) 4 (x / 2 ^ 16 % 256 ∷ x / 2 ^ 24 % 256 ∷ g ∷ h ∷ [])) 0 xs) (right-little1 a b c d x i j k l w)

stored-little3 : (a b c d e f g h x : ℕ) (rest : List ℕ) → a < 2 ^ 8 → b < 2 ^ 8 → c < 2 ^ 8 → d < 2 ^ 8 → e < 2 ^ 8 → f < 2 ^ 8 → g < 2 ^ 8 → h < 2 ^ 8 → x < 2 ^ 32 →
    right_in Order.Little 0 (left_in Order.Little 1 (a ∷ b ∷ c ∷ d ∷ e ∷ f ∷ g ∷ h ∷ rest) 4 x) 0 x ≡ put (a ∷ b ∷ c ∷ d ∷ e ∷ f ∷ g ∷ h ∷ rest) 3 (bytes_of_word Order.Little x)
stored-little3 a b c d e f g h x rest i j k l m n o q w =
    ap (λ xs. right_in Order.Little 0 (put (a ∷ b ∷ c ∷ d ∷ e ∷ f ∷ g ∷ h ∷ rest) 4 xs) 0 x) (left-little1 e f g h x m n o q w)
    ∙ ap (λ xs. put (put (a ∷ b ∷ c ∷ d ∷ e ∷ f ∷ g ∷ h ∷ rest) 4 (x / 2 ^ 8 % 256 ∷ x / 2 ^ 16 % 256 ∷ x / 2 ^ 24 % 256 ∷ h ∷ [])) 0 xs) (right-little0 a b c d x i j k l w)

-- ---- loads from eight bytes, from the place r of the first on

loaded-big1 : (a b c d e f g h old : ℕ) (rest : List ℕ) → a < 2 ^ 8 → b < 2 ^ 8 → c < 2 ^ 8 → d < 2 ^ 8 → e < 2 ^ 8 → f < 2 ^ 8 → g < 2 ^ 8 → h < 2 ^ 8 →
    right_loaded 0 (word_in Order.Big (a ∷ b ∷ c ∷ d ∷ e ∷ f ∷ g ∷ h ∷ rest) 4) (left_loaded 1 (word_in Order.Big (a ∷ b ∷ c ∷ d ∷ e ∷ f ∷ g ∷ h ∷ rest) 0) old) ≡ word_in Order.Big (a ∷ b ∷ c ∷ d ∷ e ∷ f ∷ g ∷ h ∷ rest) 1
loaded-big1 a b c d e f g h old rest i j k l m n o q =
    let high : (a * 2 ^ 24 + b * 2 ^ 16 + c * 2 ^ 8 + d) * 2 ^ 8 % 2 ^ 32 ≡ b * 2 ^ 24 + c * 2 ^ 16 + d * 2 ^ 8 = omega arith in
    let low : (e * 2 ^ 24 + f * 2 ^ 16 + g * 2 ^ 8 + h) / 2 ^ 24 ≡ e = omega arith in
    omega arith

loaded-big2 : (a b c d e f g h old : ℕ) (rest : List ℕ) → a < 2 ^ 8 → b < 2 ^ 8 → c < 2 ^ 8 → d < 2 ^ 8 → e < 2 ^ 8 → f < 2 ^ 8 → g < 2 ^ 8 → h < 2 ^ 8 →
    right_loaded 1 (word_in Order.Big (a ∷ b ∷ c ∷ d ∷ e ∷ f ∷ g ∷ h ∷ rest) 4) (left_loaded 2 (word_in Order.Big (a ∷ b ∷ c ∷ d ∷ e ∷ f ∷ g ∷ h ∷ rest) 0) old) ≡ word_in Order.Big (a ∷ b ∷ c ∷ d ∷ e ∷ f ∷ g ∷ h ∷ rest) 2
loaded-big2 a b c d e f g h old rest i j k l m n o q =
    let high : (a * 2 ^ 24 + b * 2 ^ 16 + c * 2 ^ 8 + d) * 2 ^ 16 % 2 ^ 32 ≡ c * 2 ^ 24 + d * 2 ^ 16 = omega arith in
    let low : (e * 2 ^ 24 + f * 2 ^ 16 + g * 2 ^ 8 + h) / 2 ^ 16 ≡ e * 2 ^ 8 + f = omega arith in
    omega arith

loaded-big3 : (a b c d e f g h old : ℕ) (rest : List ℕ) → a < 2 ^ 8 → b < 2 ^ 8 → c < 2 ^ 8 → d < 2 ^ 8 → e < 2 ^ 8 → f < 2 ^ 8 → g < 2 ^ 8 → h < 2 ^ 8 →
    right_loaded 2 (word_in Order.Big (a ∷ b ∷ c ∷ d ∷ e ∷ f ∷ g ∷ h ∷ rest) 4) (left_loaded 3 (word_in Order.Big (a ∷ b ∷ c ∷ d ∷ e ∷ f ∷ g ∷ h ∷ rest) 0) old) ≡ word_in Order.Big (a ∷ b ∷ c ∷ d ∷ e ∷ f ∷ g ∷ h ∷ rest) 3
loaded-big3 a b c d e f g h old rest i j k l m n o q =
    let high : (a * 2 ^ 24 + b * 2 ^ 16 + c * 2 ^ 8 + d) * 2 ^ 24 % 2 ^ 32 ≡ d * 2 ^ 24 = omega arith in
    let low : (e * 2 ^ 24 + f * 2 ^ 16 + g * 2 ^ 8 + h) / 2 ^ 8 ≡ e * 2 ^ 16 + f * 2 ^ 8 + g = omega arith in
    omega arith

loaded-little1 : (a b c d e f g h old : ℕ) (rest : List ℕ) → a < 2 ^ 8 → b < 2 ^ 8 → c < 2 ^ 8 → d < 2 ^ 8 → e < 2 ^ 8 → f < 2 ^ 8 → g < 2 ^ 8 → h < 2 ^ 8 →
    right_loaded 2 (word_in Order.Little (a ∷ b ∷ c ∷ d ∷ e ∷ f ∷ g ∷ h ∷ rest) 0) (left_loaded 3 (word_in Order.Little (a ∷ b ∷ c ∷ d ∷ e ∷ f ∷ g ∷ h ∷ rest) 4) old) ≡ word_in Order.Little (a ∷ b ∷ c ∷ d ∷ e ∷ f ∷ g ∷ h ∷ rest) 1
loaded-little1 a b c d e f g h old rest i j k l m n o q =
    let high : (h * 2 ^ 24 + g * 2 ^ 16 + f * 2 ^ 8 + e) * 2 ^ 24 % 2 ^ 32 ≡ e * 2 ^ 24 = omega arith in
    let low : (d * 2 ^ 24 + c * 2 ^ 16 + b * 2 ^ 8 + a) / 2 ^ 8 ≡ d * 2 ^ 16 + c * 2 ^ 8 + b = omega arith in
    omega arith

loaded-little2 : (a b c d e f g h old : ℕ) (rest : List ℕ) → a < 2 ^ 8 → b < 2 ^ 8 → c < 2 ^ 8 → d < 2 ^ 8 → e < 2 ^ 8 → f < 2 ^ 8 → g < 2 ^ 8 → h < 2 ^ 8 →
    right_loaded 1 (word_in Order.Little (a ∷ b ∷ c ∷ d ∷ e ∷ f ∷ g ∷ h ∷ rest) 0) (left_loaded 2 (word_in Order.Little (a ∷ b ∷ c ∷ d ∷ e ∷ f ∷ g ∷ h ∷ rest) 4) old) ≡ word_in Order.Little (a ∷ b ∷ c ∷ d ∷ e ∷ f ∷ g ∷ h ∷ rest) 2
loaded-little2 a b c d e f g h old rest i j k l m n o q =
    let high : (h * 2 ^ 24 + g * 2 ^ 16 + f * 2 ^ 8 + e) * 2 ^ 16 % 2 ^ 32 ≡ f * 2 ^ 24 + e * 2 ^ 16 = omega arith in
    let low : (d * 2 ^ 24 + c * 2 ^ 16 + b * 2 ^ 8 + a) / 2 ^ 16 ≡ d * 2 ^ 8 + c = omega arith in
    omega arith

loaded-little3 : (a b c d e f g h old : ℕ) (rest : List ℕ) → a < 2 ^ 8 → b < 2 ^ 8 → c < 2 ^ 8 → d < 2 ^ 8 → e < 2 ^ 8 → f < 2 ^ 8 → g < 2 ^ 8 → h < 2 ^ 8 →
    right_loaded 0 (word_in Order.Little (a ∷ b ∷ c ∷ d ∷ e ∷ f ∷ g ∷ h ∷ rest) 0) (left_loaded 1 (word_in Order.Little (a ∷ b ∷ c ∷ d ∷ e ∷ f ∷ g ∷ h ∷ rest) 4) old) ≡ word_in Order.Little (a ∷ b ∷ c ∷ d ∷ e ∷ f ∷ g ∷ h ∷ rest) 3
loaded-little3 a b c d e f g h old rest i j k l m n o q =
    let high : (h * 2 ^ 24 + g * 2 ^ 16 + f * 2 ^ 8 + e) * 2 ^ 8 % 2 ^ 32 ≡ g * 2 ^ 24 + f * 2 ^ 16 + e * 2 ^ 8 = omega arith in
    let low : (d * 2 ^ 24 + c * 2 ^ 16 + b * 2 ^ 8 + a) / 2 ^ 24 ≡ d = omega arith in
    omega arith

-- ---- eight bytes

record Eight (xs : List ℕ) : Type 0 where
  a : ℕ
  b : ℕ
  c : ℕ
  d : ℕ
  e : ℕ
  f : ℕ
  g : ℕ
  h : ℕ
  rest : List ℕ
  is : xs ≡ a ∷ b ∷ c ∷ d ∷ e ∷ f ∷ g ∷ h ∷ rest
  i : a < 2 ^ 8
  j : b < 2 ^ 8
  k : c < 2 ^ 8
  l : d < 2 ^ 8
  m : e < 2 ^ 8
  n : f < 2 ^ 8
  o : g < 2 ^ 8
  q : h < 2 ^ 8

eight : (xs : List ℕ) → AreBytes xs → 8 ≤ length xs → Eight xs
eight [] are long = absurd (omega arith)
eight (a ∷ []) are long = absurd (omega arith)
eight (a ∷ b ∷ []) are long = absurd (omega arith)
eight (a ∷ b ∷ c ∷ []) are long = absurd (omega arith)
eight (a ∷ b ∷ c ∷ d ∷ []) are long = absurd (omega arith)
eight (a ∷ b ∷ c ∷ d ∷ e ∷ []) are long = absurd (omega arith)
eight (a ∷ b ∷ c ∷ d ∷ e ∷ f ∷ []) are long = absurd (omega arith)
eight (a ∷ b ∷ c ∷ d ∷ e ∷ f ∷ g ∷ []) are long = absurd (omega arith)
eight (a ∷ b ∷ c ∷ d ∷ e ∷ f ∷ g ∷ h ∷ rest) are long = record {
  a = a;
  b = b;
  c = c;
  d = d;
  e = e;
  f = f;
  g = g;
  h = h;
  rest = rest;
  is = refl;
  i = are 0;
  j = are 1;
  k = are 2;
  l = are 3;
  m = are 4;
  n = are 5;
  o = are 6;
  q = are 7;
}

-- ---- loads

word-below : (order : Order) (bytes : List ℕ) (at : ℕ) → AreBytes bytes → word_in order bytes at < 2 ^ 32
word-below Order.Big bytes at are =
    let each : AreBytes (take 4 (drop at bytes)) = AreBytes-take 4 (drop at bytes) (AreBytes-drop at bytes are) in
    omega (arith, each 0, each 1, each 2, each 3)
word-below Order.Little bytes at are =
    let each : AreBytes (take 4 (drop at bytes)) = AreBytes-take 4 (drop at bytes) (AreBytes-drop at bytes are) in
    omega (arith, each 0, each 1, each 2, each 3)

-- both of one aligned word
loaded-same : (word old : ℕ) → word < 2 ^ 32 → right_loaded 3 word (left_loaded 0 word old) ≡ word
loaded-same word old lt = omega arith

loaded-at : (order : Order) (bytes : List ℕ) (at old : ℕ) → AreBytes bytes →
    (left_place left_at right_place right_at : ℕ) → left_place ≡ 0 → left_at ≡ at → right_place ≡ 3 → right_at ≡ at →
    right_loaded right_place (word_in order bytes right_at) (left_loaded left_place (word_in order bytes left_at) old) ≡ word_in order bytes at
loaded-at order bytes at old are left_place left_at right_place right_at p1_is x1_is p2_is x2_is =
    rw (p1_is, x1_is, p2_is, x2_is) (loaded-same (word_in order bytes at) old (word-below order bytes at are))

word-from : (order : Order) (bytes : List ℕ) (a k : ℕ) → word_in order bytes (a + k) ≡ word_in order (drop a bytes) k
word-from order bytes a k = ap (λ xs. word_of_bytes order (take 4 xs)) (sym (drop-drop k a bytes))

loaded-from : (order : Order) (bytes : List ℕ) (a p1 k1 p2 k2 r old : ℕ) →
    right_loaded p2 (word_in order (drop a bytes) k2) (left_loaded p1 (word_in order (drop a bytes) k1) old)
    ≡ word_in order (drop a bytes) r →
    (left_place left_at right_place right_at at : ℕ) → left_place ≡ p1 → left_at ≡ a + k1 → right_place ≡ p2 → right_at ≡ a + k2 → at ≡ a + r →
    right_loaded right_place (word_in order bytes right_at) (left_loaded left_place (word_in order bytes left_at) old) ≡ word_in order bytes at
loaded-from order bytes a p1 k1 p2 k2 r old it left_place left_at right_place right_at at p1_is x1_is p2_is x2_is at_is =
    rw (p1_is, x1_is, p2_is, x2_is, at_is)
    (rw (word-from order bytes a k1, word-from order bytes a k2, word-from order bytes a r) it)

from-big1 : (xs : List ℕ) (old : ℕ) → AreBytes xs → 8 ≤ length xs →
    right_loaded 0 (word_in Order.Big xs 4) (left_loaded 1 (word_in Order.Big xs 0) old) ≡ word_in Order.Big xs 1
from-big1 xs old are long =
    let x = eight xs are long in
    rw x.is (loaded-big1 x.a x.b x.c x.d x.e x.f x.g x.h old x.rest x.i x.j x.k x.l x.m x.n x.o x.q)

from-big2 : (xs : List ℕ) (old : ℕ) → AreBytes xs → 8 ≤ length xs →
    right_loaded 1 (word_in Order.Big xs 4) (left_loaded 2 (word_in Order.Big xs 0) old) ≡ word_in Order.Big xs 2
from-big2 xs old are long =
    let x = eight xs are long in
    rw x.is (loaded-big2 x.a x.b x.c x.d x.e x.f x.g x.h old x.rest x.i x.j x.k x.l x.m x.n x.o x.q)

from-big3 : (xs : List ℕ) (old : ℕ) → AreBytes xs → 8 ≤ length xs →
    right_loaded 2 (word_in Order.Big xs 4) (left_loaded 3 (word_in Order.Big xs 0) old) ≡ word_in Order.Big xs 3
from-big3 xs old are long =
    let x = eight xs are long in
    rw x.is (loaded-big3 x.a x.b x.c x.d x.e x.f x.g x.h old x.rest x.i x.j x.k x.l x.m x.n x.o x.q)

from-little1 : (xs : List ℕ) (old : ℕ) → AreBytes xs → 8 ≤ length xs →
    right_loaded 2 (word_in Order.Little xs 0) (left_loaded 3 (word_in Order.Little xs 4) old) ≡ word_in Order.Little xs 1
from-little1 xs old are long =
    let x = eight xs are long in
    rw x.is (loaded-little1 x.a x.b x.c x.d x.e x.f x.g x.h old x.rest x.i x.j x.k x.l x.m x.n x.o x.q)

from-little2 : (xs : List ℕ) (old : ℕ) → AreBytes xs → 8 ≤ length xs →
    right_loaded 1 (word_in Order.Little xs 0) (left_loaded 2 (word_in Order.Little xs 4) old) ≡ word_in Order.Little xs 2
from-little2 xs old are long =
    let x = eight xs are long in
    rw x.is (loaded-little2 x.a x.b x.c x.d x.e x.f x.g x.h old x.rest x.i x.j x.k x.l x.m x.n x.o x.q)

from-little3 : (xs : List ℕ) (old : ℕ) → AreBytes xs → 8 ≤ length xs →
    right_loaded 0 (word_in Order.Little xs 0) (left_loaded 1 (word_in Order.Little xs 4) old) ≡ word_in Order.Little xs 3
from-little3 xs old are long =
    let x = eight xs are long in
    rw x.is (loaded-little3 x.a x.b x.c x.d x.e x.f x.g x.h old x.rest x.i x.j x.k x.l x.m x.n x.o x.q)

loaded-whole : (order : Order) (bytes : List ℕ) (address old r : ℕ) → AreBytes bytes → length bytes % 2 ^ 16 ≡ 0 →
    address % 4 ≡ r → r < 4 → base ≤ address → address + 4 ≤ base + length bytes →
    right_loaded (bytes_above order (low_end order address)) (word_in order bytes (aligned_place (low_end order address)))
    (left_loaded (bytes_above order (high_end order address)) (word_in order bytes (aligned_place (high_end order address))) old)
    ≡ word_in order bytes (address - base)
loaded-whole Order.Big bytes address old zero are whole is lt from to =
    loaded-at Order.Big bytes (address - base) old are
    (bytes_above Order.Big (high_end Order.Big address)) (aligned_place (high_end Order.Big address))
    (bytes_above Order.Big (low_end Order.Big address)) (aligned_place (low_end Order.Big address))
    (omega arith) (omega arith) (omega arith) (omega arith)
loaded-whole Order.Big bytes address old (suc zero) are whole is lt from to =
    let a : ℕ = aligned_place address in
    let long : 8 ≤ length (drop a bytes) = omega (arith, length-drop a bytes) in
    loaded-from Order.Big bytes a 1 0 0 4 1 old (from-big1 (drop a bytes) old (AreBytes-drop a bytes are) long)
    (bytes_above Order.Big (high_end Order.Big address)) (aligned_place (high_end Order.Big address))
    (bytes_above Order.Big (low_end Order.Big address)) (aligned_place (low_end Order.Big address)) (address - base)
    (omega arith) (omega arith) (omega arith) (omega arith) (omega arith)
loaded-whole Order.Big bytes address old (suc (suc zero)) are whole is lt from to =
    let a : ℕ = aligned_place address in
    let long : 8 ≤ length (drop a bytes) = omega (arith, length-drop a bytes) in
    loaded-from Order.Big bytes a 2 0 1 4 2 old (from-big2 (drop a bytes) old (AreBytes-drop a bytes are) long)
    (bytes_above Order.Big (high_end Order.Big address)) (aligned_place (high_end Order.Big address))
    (bytes_above Order.Big (low_end Order.Big address)) (aligned_place (low_end Order.Big address)) (address - base)
    (omega arith) (omega arith) (omega arith) (omega arith) (omega arith)
loaded-whole Order.Big bytes address old (suc (suc (suc zero))) are whole is lt from to =
    let a : ℕ = aligned_place address in
    let long : 8 ≤ length (drop a bytes) = omega (arith, length-drop a bytes) in
    loaded-from Order.Big bytes a 3 0 2 4 3 old (from-big3 (drop a bytes) old (AreBytes-drop a bytes are) long)
    (bytes_above Order.Big (high_end Order.Big address)) (aligned_place (high_end Order.Big address))
    (bytes_above Order.Big (low_end Order.Big address)) (aligned_place (low_end Order.Big address)) (address - base)
    (omega arith) (omega arith) (omega arith) (omega arith) (omega arith)
loaded-whole Order.Big bytes address old (suc (suc (suc (suc r)))) are whole is lt from to = absurd (omega arith)
loaded-whole Order.Little bytes address old zero are whole is lt from to =
    loaded-at Order.Little bytes (address - base) old are
    (bytes_above Order.Little (high_end Order.Little address)) (aligned_place (high_end Order.Little address))
    (bytes_above Order.Little (low_end Order.Little address)) (aligned_place (low_end Order.Little address))
    (omega arith) (omega arith) (omega arith) (omega arith)
loaded-whole Order.Little bytes address old (suc zero) are whole is lt from to =
    let a : ℕ = aligned_place address in
    let long : 8 ≤ length (drop a bytes) = omega (arith, length-drop a bytes) in
    loaded-from Order.Little bytes a 3 4 2 0 1 old (from-little1 (drop a bytes) old (AreBytes-drop a bytes are) long)
    (bytes_above Order.Little (high_end Order.Little address)) (aligned_place (high_end Order.Little address))
    (bytes_above Order.Little (low_end Order.Little address)) (aligned_place (low_end Order.Little address)) (address - base)
    (omega arith) (omega arith) (omega arith) (omega arith) (omega arith)
loaded-whole Order.Little bytes address old (suc (suc zero)) are whole is lt from to =
    let a : ℕ = aligned_place address in
    let long : 8 ≤ length (drop a bytes) = omega (arith, length-drop a bytes) in
    loaded-from Order.Little bytes a 2 4 1 0 2 old (from-little2 (drop a bytes) old (AreBytes-drop a bytes are) long)
    (bytes_above Order.Little (high_end Order.Little address)) (aligned_place (high_end Order.Little address))
    (bytes_above Order.Little (low_end Order.Little address)) (aligned_place (low_end Order.Little address)) (address - base)
    (omega arith) (omega arith) (omega arith) (omega arith) (omega arith)
loaded-whole Order.Little bytes address old (suc (suc (suc zero))) are whole is lt from to =
    let a : ℕ = aligned_place address in
    let long : 8 ≤ length (drop a bytes) = omega (arith, length-drop a bytes) in
    loaded-from Order.Little bytes a 1 4 0 0 3 old (from-little3 (drop a bytes) old (AreBytes-drop a bytes are) long)
    (bytes_above Order.Little (high_end Order.Little address)) (aligned_place (high_end Order.Little address))
    (bytes_above Order.Little (low_end Order.Little address)) (aligned_place (low_end Order.Little address)) (address - base)
    (omega arith) (omega arith) (omega arith) (omega arith) (omega arith)
loaded-whole Order.Little bytes address old (suc (suc (suc (suc r)))) are whole is lt from to = absurd (omega arith)

-- the aligned words of both ends lie in RAM
record AreInside (order : Order) (address size : ℕ) : Type 0 where
  high_from : base ≤ aligned (high_end order address)
  high_to : aligned (high_end order address) + 4 ≤ base + size
  low_from : base ≤ aligned (low_end order address)
  low_to : aligned (low_end order address) + 4 ≤ base + size

are-inside : (order : Order) (address size : ℕ) → size % 2 ^ 16 ≡ 0 → base ≤ address → address + 4 ≤ base + size →
    AreInside order address size
are-inside Order.Big address size whole from to =
    record { high_from = omega arith; high_to = omega arith; low_from = omega arith; low_to = omega arith }
are-inside Order.Little address size whole from to =
    record { high_from = omega arith; high_to = omega arith; low_from = omega arith; low_to = omega arith }

pub load-whole : (memory : Memory) (address old : ℕ) → AreBytes memory.bytes → IsRamSize (size_of memory) →
    base ≤ address → address + 4 ≤ base + size_of memory →
    IsOkAnd (loaded_left memory (high_end memory.order address) old)
    (λ part. loaded_right memory (low_end memory.order address) part ≡ Ok (word_at memory (address - base)))
load-whole memory address old are ram from to =
    let order : Order = memory.order in
    let high : ℕ = high_end order address in
    let low : ℕ = low_end order address in
    let inside : AreInside order address (size_of memory) = are-inside order address (size_of memory) ram.whole from to in
    let part : ℕ = left_loaded (bytes_above order high) (word_at memory (aligned_place high)) old in
    let joint : ℕ = right_loaded (bytes_above order low) (word_at memory (aligned_place low)) part in
    let left : loaded_left memory high old ≡ Ok part = inside-from_bounds memory high part inside.high_from inside.high_to in
    let right : loaded_right memory low part ≡ Ok joint = inside-from_bounds memory low joint inside.low_from inside.low_to in
    subst (λ r. IsOkAnd r (λ word. loaded_right memory low word ≡ Ok (word_at memory (address - base)))) (sym left)
    (right ∙ ap Ok (loaded-whole order memory.bytes address old (address % 4) are ram.whole refl (omega arith) from to))

-- ---- stores

-- both of one aligned word
stored-same : (order : Order) (bytes : List ℕ) (at x : ℕ) → AreBytes bytes → at ≤ length bytes → x < 2 ^ 32 →
    right_in order 3 (left_in order 0 bytes at x) at x ≡ put bytes at (bytes_of_word order x)
stored-same order bytes at x are fits lt =
    let below : word_in order bytes at < 2 ^ 32 = word-below order bytes at are in
    let left : left_stored 0 (word_in order bytes at) x ≡ x = omega arith in
    let right : right_stored 3 (word_in order (left_in order 0 bytes at x) at) x ≡ x = omega arith in
    ap (λ word. put (left_in order 0 bytes at x) at (bytes_of_word order word)) right
    ∙ ap (λ word. put (put bytes at (bytes_of_word order word)) at (bytes_of_word order x)) left
    ∙ put-again bytes at (bytes_of_word order x) fits

stored-at : (order : Order) (bytes : List ℕ) (at x : ℕ) → AreBytes bytes → at ≤ length bytes → x < 2 ^ 32 →
    (left_place left_at right_place right_at : ℕ) → left_place ≡ 0 → left_at ≡ at → right_place ≡ 3 → right_at ≡ at →
    right_in order right_place (left_in order left_place bytes left_at x) right_at x ≡ put bytes at (bytes_of_word order x)
stored-at order bytes at x are fits lt left_place left_at right_place right_at p1_is x1_is p2_is x2_is =
    rw (p1_is, x1_is, p2_is, x2_is) (stored-same order bytes at x are fits lt)

stored-behind : (order : Order) (front rest : List ℕ) (p1 k1 p2 k2 r x : ℕ) →
    right_in order p2 (left_in order p1 rest k1 x) k2 x ≡ put rest r (bytes_of_word order x) →
    right_in order p2 (left_in order p1 (front ++ rest) (length front + k1) x) (length front + k2) x
    ≡ put (front ++ rest) (length front + r) (bytes_of_word order x)
stored-behind order front rest p1 k1 p2 k2 r x it =
    ap (λ xs. right_in order p2 xs (length front + k2) x) (left-behind order p1 front rest k1 x)
    ∙ right-behind order p2 front (left_in order p1 rest k1 x) k2 x
    ∙ ap (λ xs. front ++ xs) it
    ∙ sym (put-behind front rest (bytes_of_word order x) r)

stored-from : (order : Order) (bytes : List ℕ) (a p1 k1 p2 k2 r x : ℕ) → a ≤ length bytes →
    right_in order p2 (left_in order p1 (drop a bytes) k1 x) k2 x ≡ put (drop a bytes) r (bytes_of_word order x) →
    (left_place left_at right_place right_at at : ℕ) → left_place ≡ p1 → left_at ≡ a + k1 → right_place ≡ p2 → right_at ≡ a + k2 → at ≡ a + r →
    right_in order right_place (left_in order left_place bytes left_at x) right_at x ≡ put bytes at (bytes_of_word order x)
stored-from order bytes a p1 k1 p2 k2 r x fits it left_place left_at right_place right_at at p1_is x1_is p2_is x2_is at_is =
    let front : List ℕ = take a bytes in
    let wide : length front ≡ a = length-take-le a bytes fits in
    let whole : front ++ drop a bytes ≡ bytes = take-append-drop a bytes in
    rw (p1_is, x1_is, p2_is, x2_is, at_is)
    (subst (λ n. right_in order p2 (left_in order p1 bytes (n + k1) x) (n + k2) x ≡ put bytes (n + r) (bytes_of_word order x)) wide
    (subst (λ xs. right_in order p2 (left_in order p1 xs (length front + k1) x) (length front + k2) x
    ≡ put xs (length front + r) (bytes_of_word order x)) whole
    (stored-behind order front (drop a bytes) p1 k1 p2 k2 r x it)))

into-big1 : (xs : List ℕ) (x : ℕ) → AreBytes xs → 8 ≤ length xs → x < 2 ^ 32 →
    right_in Order.Big 0 (left_in Order.Big 1 xs 0 x) 4 x ≡ put xs 1 (bytes_of_word Order.Big x)
into-big1 xs x are long lt =
    let b = eight xs are long in
    rw b.is (stored-big1 b.a b.b b.c b.d b.e b.f b.g b.h x b.rest b.i b.j b.k b.l b.m b.n b.o b.q lt)

into-big2 : (xs : List ℕ) (x : ℕ) → AreBytes xs → 8 ≤ length xs → x < 2 ^ 32 →
    right_in Order.Big 1 (left_in Order.Big 2 xs 0 x) 4 x ≡ put xs 2 (bytes_of_word Order.Big x)
into-big2 xs x are long lt =
    let b = eight xs are long in
    rw b.is (stored-big2 b.a b.b b.c b.d b.e b.f b.g b.h x b.rest b.i b.j b.k b.l b.m b.n b.o b.q lt)

into-big3 : (xs : List ℕ) (x : ℕ) → AreBytes xs → 8 ≤ length xs → x < 2 ^ 32 →
    right_in Order.Big 2 (left_in Order.Big 3 xs 0 x) 4 x ≡ put xs 3 (bytes_of_word Order.Big x)
into-big3 xs x are long lt =
    let b = eight xs are long in
    rw b.is (stored-big3 b.a b.b b.c b.d b.e b.f b.g b.h x b.rest b.i b.j b.k b.l b.m b.n b.o b.q lt)

into-little1 : (xs : List ℕ) (x : ℕ) → AreBytes xs → 8 ≤ length xs → x < 2 ^ 32 →
    right_in Order.Little 2 (left_in Order.Little 3 xs 4 x) 0 x ≡ put xs 1 (bytes_of_word Order.Little x)
into-little1 xs x are long lt =
    let b = eight xs are long in
    rw b.is (stored-little1 b.a b.b b.c b.d b.e b.f b.g b.h x b.rest b.i b.j b.k b.l b.m b.n b.o b.q lt)

into-little2 : (xs : List ℕ) (x : ℕ) → AreBytes xs → 8 ≤ length xs → x < 2 ^ 32 →
    right_in Order.Little 1 (left_in Order.Little 2 xs 4 x) 0 x ≡ put xs 2 (bytes_of_word Order.Little x)
into-little2 xs x are long lt =
    let b = eight xs are long in
    rw b.is (stored-little2 b.a b.b b.c b.d b.e b.f b.g b.h x b.rest b.i b.j b.k b.l b.m b.n b.o b.q lt)

into-little3 : (xs : List ℕ) (x : ℕ) → AreBytes xs → 8 ≤ length xs → x < 2 ^ 32 →
    right_in Order.Little 0 (left_in Order.Little 1 xs 4 x) 0 x ≡ put xs 3 (bytes_of_word Order.Little x)
into-little3 xs x are long lt =
    let b = eight xs are long in
    rw b.is (stored-little3 b.a b.b b.c b.d b.e b.f b.g b.h x b.rest b.i b.j b.k b.l b.m b.n b.o b.q lt)

stored-whole : (order : Order) (bytes : List ℕ) (address x r : ℕ) → AreBytes bytes → length bytes % 2 ^ 16 ≡ 0 →
    address % 4 ≡ r → r < 4 → base ≤ address → address + 4 ≤ base + length bytes → x < 2 ^ 32 →
    right_in order (bytes_above order (low_end order address))
    (left_in order (bytes_above order (high_end order address)) bytes (aligned_place (high_end order address)) x)
    (aligned_place (low_end order address)) x
    ≡ put bytes (address - base) (bytes_of_word order x)
stored-whole Order.Big bytes address x zero are whole is lt from to word =
    stored-at Order.Big bytes (address - base) x are (omega arith) word
    (bytes_above Order.Big (high_end Order.Big address)) (aligned_place (high_end Order.Big address))
    (bytes_above Order.Big (low_end Order.Big address)) (aligned_place (low_end Order.Big address))
    (omega arith) (omega arith) (omega arith) (omega arith)
stored-whole Order.Big bytes address x (suc zero) are whole is lt from to word =
    let a : ℕ = aligned_place address in
    let long : 8 ≤ length (drop a bytes) = omega (arith, length-drop a bytes) in
    stored-from Order.Big bytes a 1 0 0 4 1 x (omega arith) (into-big1 (drop a bytes) x (AreBytes-drop a bytes are) long word)
    (bytes_above Order.Big (high_end Order.Big address)) (aligned_place (high_end Order.Big address))
    (bytes_above Order.Big (low_end Order.Big address)) (aligned_place (low_end Order.Big address)) (address - base)
    (omega arith) (omega arith) (omega arith) (omega arith) (omega arith)
stored-whole Order.Big bytes address x (suc (suc zero)) are whole is lt from to word =
    let a : ℕ = aligned_place address in
    let long : 8 ≤ length (drop a bytes) = omega (arith, length-drop a bytes) in
    stored-from Order.Big bytes a 2 0 1 4 2 x (omega arith) (into-big2 (drop a bytes) x (AreBytes-drop a bytes are) long word)
    (bytes_above Order.Big (high_end Order.Big address)) (aligned_place (high_end Order.Big address))
    (bytes_above Order.Big (low_end Order.Big address)) (aligned_place (low_end Order.Big address)) (address - base)
    (omega arith) (omega arith) (omega arith) (omega arith) (omega arith)
stored-whole Order.Big bytes address x (suc (suc (suc zero))) are whole is lt from to word =
    let a : ℕ = aligned_place address in
    let long : 8 ≤ length (drop a bytes) = omega (arith, length-drop a bytes) in
    stored-from Order.Big bytes a 3 0 2 4 3 x (omega arith) (into-big3 (drop a bytes) x (AreBytes-drop a bytes are) long word)
    (bytes_above Order.Big (high_end Order.Big address)) (aligned_place (high_end Order.Big address))
    (bytes_above Order.Big (low_end Order.Big address)) (aligned_place (low_end Order.Big address)) (address - base)
    (omega arith) (omega arith) (omega arith) (omega arith) (omega arith)
stored-whole Order.Big bytes address x (suc (suc (suc (suc r)))) are whole is lt from to word = absurd (omega arith)
stored-whole Order.Little bytes address x zero are whole is lt from to word =
    stored-at Order.Little bytes (address - base) x are (omega arith) word
    (bytes_above Order.Little (high_end Order.Little address)) (aligned_place (high_end Order.Little address))
    (bytes_above Order.Little (low_end Order.Little address)) (aligned_place (low_end Order.Little address))
    (omega arith) (omega arith) (omega arith) (omega arith)
stored-whole Order.Little bytes address x (suc zero) are whole is lt from to word =
    let a : ℕ = aligned_place address in
    let long : 8 ≤ length (drop a bytes) = omega (arith, length-drop a bytes) in
    stored-from Order.Little bytes a 3 4 2 0 1 x (omega arith) (into-little1 (drop a bytes) x (AreBytes-drop a bytes are) long word)
    (bytes_above Order.Little (high_end Order.Little address)) (aligned_place (high_end Order.Little address))
    (bytes_above Order.Little (low_end Order.Little address)) (aligned_place (low_end Order.Little address)) (address - base)
    (omega arith) (omega arith) (omega arith) (omega arith) (omega arith)
stored-whole Order.Little bytes address x (suc (suc zero)) are whole is lt from to word =
    let a : ℕ = aligned_place address in
    let long : 8 ≤ length (drop a bytes) = omega (arith, length-drop a bytes) in
    stored-from Order.Little bytes a 2 4 1 0 2 x (omega arith) (into-little2 (drop a bytes) x (AreBytes-drop a bytes are) long word)
    (bytes_above Order.Little (high_end Order.Little address)) (aligned_place (high_end Order.Little address))
    (bytes_above Order.Little (low_end Order.Little address)) (aligned_place (low_end Order.Little address)) (address - base)
    (omega arith) (omega arith) (omega arith) (omega arith) (omega arith)
stored-whole Order.Little bytes address x (suc (suc (suc zero))) are whole is lt from to word =
    let a : ℕ = aligned_place address in
    let long : 8 ≤ length (drop a bytes) = omega (arith, length-drop a bytes) in
    stored-from Order.Little bytes a 1 4 0 0 3 x (omega arith) (into-little3 (drop a bytes) x (AreBytes-drop a bytes are) long word)
    (bytes_above Order.Little (high_end Order.Little address)) (aligned_place (high_end Order.Little address))
    (bytes_above Order.Little (low_end Order.Little address)) (aligned_place (low_end Order.Little address)) (address - base)
    (omega arith) (omega arith) (omega arith) (omega arith) (omega arith)
stored-whole Order.Little bytes address x (suc (suc (suc (suc r)))) are whole is lt from to word = absurd (omega arith)

pub store-whole : (memory : Memory) (address word : ℕ) → AreBytes memory.bytes → IsRamSize (size_of memory) →
    base ≤ address → address + 4 ≤ base + size_of memory → word < 2 ^ 32 →
    IsOkAnd (stored_left memory (high_end memory.order address) word)
    (λ part. stored_right part (low_end memory.order address) word ≡ Ok (copied memory address (bytes_of_word memory.order word)))
store-whole memory address word are ram from to lt =
    let order : Order = memory.order in
    let bytes : List ℕ = memory.bytes in
    let high : ℕ = high_end order address in
    let low : ℕ = low_end order address in
    let inside : AreInside order address (size_of memory) = are-inside order address (size_of memory) ram.whole from to in
    let first : List ℕ = left_in order (bytes_above order high) bytes (aligned_place high) word in
    let part : Memory = memory_of_bytes order first in
    let both : Memory = memory_of_bytes order (right_in order (bytes_above order low) first (aligned_place low) word) in
    let put_bytes : List ℕ = bytes_of_word order (left_stored (bytes_above order high) (word_in order bytes (aligned_place high)) word) in
    let four : length put_bytes ≡ 4 = four_of-word order _ in
    let size : length first ≡ length bytes = length-put bytes (aligned_place high) put_bytes (omega (arith, four, inside.high_to, inside.high_from)) in
    let left : stored_left memory high word ≡ Ok part = inside-from_bounds memory high part inside.high_from inside.high_to in
    let right : stored_right part low word ≡ Ok both =
    inside-from_bounds part low both inside.low_from (omega (arith, inside.low_to, size)) in
    subst (λ r. IsOkAnd r (λ stored. stored_right stored low word ≡ Ok (copied memory address (bytes_of_word order word)))) (sym left)
    (right
    ∙ ap (λ xs. Ok (memory_of_bytes order xs))
    (stored-whole order bytes address word (address % 4) are ram.whole refl (omega arith) from to lt))
