-- Marks on pages, and what they say of bytes that are put and of pages without a mark.
use Rattle.std.proofs.Common.{◌≡◌, ◌≢◌, ℕ, ◌+◌, ◌-◌, ◌*◌, ◌/◌, ◌%◌, ◌≤◌, ◌<◌, Bool, true, false, bytes_eq, List, ◌++◌, length, take, drop, get_or, set, replicate, subst, inl, inr, ◌⊎◌, sym, ap, ◌∙◌, arith, length-append, length-drop, length-set}
use Rattle.std.proofs.lemmas.Bool.{cases_lt, cases_eq, true≢false}
use Rattle.std.proofs.lemmas.List.{get_or-drop, get_or-take, get_or_append_left, get_or-append_right, get_or-set_same, get_or-set_other, get_or-replicate, get_or_past, take_at, append_assoc, drop-drop, length-take-le, length-replicate, ext_get_or}
use Rattle.std.proofs.lemmas.Slice.Eq.{bytes_eq-Decides}
use Rattle.brd_base.specs.Space.{IsRamSize}
use Rattle.brd_mem.specs.Pages.{page_size}
use Rattle.brd_mem.specs.Marks.{AreMarked}

-- a list of which some were replaced
abbrev pub put : {X : Type 0} → List X → ℕ → List X → List X
put xs at more = take at xs ++ more ++ drop (at + length more) xs

pub length-put : {X : Type 0} (xs : List X) (at : ℕ) (more : List X) → at + length more ≤ length xs → length (put xs at more) ≡ length xs
length-put xs at more fits = omega (
  arith,
  length-append (take at xs ++ more) (drop (at + length more) xs),
  length-append (take at xs) more,
  length-take-le at xs (omega arith),
  length-drop (at + length more) xs,
)

-- what a vector has after its part from a place on was replaced
pub part-replaced : {X : Type 0} (xs was now more : List X) (at count len : ℕ) → was ≡ xs → now ≡ more → count ≡ length more →
    at + length more ≤ length xs → length xs ≡ len →
    take len
    ((take at was ++ (now ++ drop count (drop at was))) ++ drop (length (take at was ++ (now ++ drop count (drop at was)))) xs)
    ≡ put xs at more
part-replaced {X = X} xs was now more at count len old new wide fits long =
    let whole : List X = take at was ++ (now ++ drop count (drop at was)) in
    let is : whole ≡ put xs at more =
    ap (λ them. take at them ++ (now ++ drop count (drop at them))) old
    ∙ ap (λ them. take at xs ++ (them ++ drop count (drop at xs))) new
    ∙ ap (λ rest. take at xs ++ (more ++ rest)) (drop-drop count at xs ∙ ap (λ n. drop (at + n) xs) wide)
    ∙ sym (append_assoc (take at xs) more (drop (at + length more) xs)) in
    take_at whole (drop (length whole) xs) len (ap length is ∙ length-put xs at more fits ∙ long) ∙ is

in_new : {X : Type 0} (xs : List X) (at : ℕ) (more : List X) (k : ℕ) (d : X) → at + length more ≤ length xs → at ≤ k → k < at + length more →
    get_or (put xs at more) k d ≡ get_or more (k - at) d
in_new xs at more k d fits from to =
    let front : length (take at xs) ≡ at = length-take-le at xs (omega arith) in
    get_or_append_left (take at xs ++ more) (drop (at + length more) xs) d k (omega (arith, length-append (take at xs) more))
    ∙ get_or-append_right (take at xs) more at k d front from

before_new : {X : Type 0} (xs : List X) (at : ℕ) (more : List X) (k : ℕ) (d : X) → at + length more ≤ length xs → k < at →
    get_or (put xs at more) k d ≡ get_or xs k d
before_new xs at more k d fits to =
    let front : length (take at xs) ≡ at = length-take-le at xs (omega arith) in
    get_or_append_left (take at xs ++ more) (drop (at + length more) xs) d k (omega (arith, length-append (take at xs) more))
    ∙ get_or_append_left (take at xs) more d k (omega arith)
    ∙ get_or-take at xs k d to

behind_new : {X : Type 0} (xs : List X) (at : ℕ) (more : List X) (k : ℕ) (d : X) → at + length more ≤ length xs → at + length more ≤ k →
    get_or (put xs at more) k d ≡ get_or xs k d
behind_new xs at more k d fits from =
    let front : length (take at xs) ≡ at = length-take-le at xs (omega arith) in
    let both : length (take at xs ++ more) ≡ at + length more = omega (arith, length-append (take at xs) more) in
    let place : at + length more + (k - (at + length more)) ≡ k = omega arith in
    get_or-append_right (take at xs ++ more) (drop (at + length more) xs) (at + length more) k d both from
    ∙ get_or-drop (at + length more) xs (k - (at + length more)) d
    ∙ ap (λ n. get_or xs n d) place

-- A page that still has no mark is another one, and had none.
still_clear : (marks : List Bool) (p q : ℕ) → p < length marks → get_or (set marks p true) q true ≡ false → (q ≢ p) × (get_or marks q true ≡ false)
still_clear marks p q within clear = elim (cases_eq q p) [
  | inl same ↦
      absurd (true≢false (sym (ap (λ n. get_or (set marks p true) n true) same ∙ get_or-set_same marks p true true within) ∙ clear))
  | inr other ↦ (other, sym (get_or-set_other marks p q true true other) ∙ clear)
]

all_true : (n k : ℕ) → get_or (replicate n true) k true ≡ true
all_true n k = elim (cases_lt k n) [
  | inl below ↦ get_or-replicate n k true true below
  | inr past ↦ get_or_past (replicate n true) k true (omega (arith, length-replicate n true))
]

-- likewise where many get a mark
still_clear_of_many : (marks : List Bool) (p n q : ℕ) → p + n ≤ length marks → get_or (put marks p (replicate n true)) q true ≡ false →
    ((q < p) ⊎ (p + n ≤ q)) × (get_or marks q true ≡ false)
still_clear_of_many marks p n q within clear =
    let long : length (replicate n true) ≡ n = length-replicate n true in
    elim (cases_lt q p) [
      | inl before ↦ (inl before, sym (before_new marks p (replicate n true) q true (omega arith) before) ∙ clear)
      | inr from ↦ elim (cases_lt q (p + n)) [
        | inl inside ↦
            absurd (true≢false (sym (in_new marks p (replicate n true) q true (omega arith) from (omega arith) ∙ all_true n (q - p)) ∙ clear))
        | inr behind ↦ (inr behind, sym (behind_new marks p (replicate n true) q true (omega arith) (omega arith)) ∙ clear)
      ]
    ]

-- bytes that are put before or after a place
aside : (bytes : List ℕ) (at : ℕ) (more : List ℕ) (i : ℕ) → at + length more ≤ length bytes → (i < at) ⊎ (at + length more ≤ i) →
    get_or bytes i 0 ≡ 0 → get_or (put bytes at more) i 0 ≡ 0
aside bytes at more i fits (inl before) zero = before_new bytes at more i 0 fits before ∙ zero
aside bytes at more i fits (inr behind) zero = behind_new bytes at more i 0 fits behind ∙ zero

-- Bytes are put into a page, which gets a mark.
pub put-marked : (bytes : List ℕ) (marks : List Bool) (at : ℕ) (more : List ℕ) → AreMarked bytes marks → at + length more ≤ length bytes →
    0 < length more → at % page_size + length more ≤ page_size → AreMarked (put bytes at more) (set marks (at / page_size) true)
put-marked bytes marks at more are fits some in_page = record {
  each = omega (arith, are.each, length-put bytes at more fits, length-set marks (at / page_size) true);
  zero = λ i clear.
      let still : (i / page_size ≢ at / page_size) × (get_or marks (i / page_size) true ≡ false) =
      still_clear marks (at / page_size) (i / page_size) (omega (arith, are.each)) clear in
      let out : (i < at) ⊎ (at + length more ≤ i) = elim (cases_lt i at) [
        | inl before ↦ inl before
        | inr from ↦ elim (cases_lt i (at + length more)) [
          | inl inside ↦ absurd (still.0 (omega arith))
          | inr behind ↦ inr behind
        ]
      ] in
      aside bytes at more i fits out (are.zero i still.1);
}

-- Bytes are put where they may go over many pages, which all get marks.
pub run-marked : (bytes : List ℕ) (marks : List Bool) (at : ℕ) (more : List ℕ) (p n : ℕ) → AreMarked bytes marks → at + length more ≤ length bytes →
    p ≡ at / page_size → p + n ≤ length marks → at + length more ≤ (p + n) * page_size →
    AreMarked (put bytes at more) (put marks p (replicate n true))
run-marked bytes marks at more p n are fits first within last = record {
  each = omega (
    arith,
    are.each,
    length-put bytes at more fits,
    length-put marks p (replicate n true) (omega (arith, length-replicate n true)),
  );
  zero = λ i clear.
      let still : ((i / page_size < p) ⊎ (p + n ≤ i / page_size)) × (get_or marks (i / page_size) true ≡ false) =
      still_clear_of_many marks p n (i / page_size) within clear in
      let out : (i < at) ⊎ (at + length more ≤ i) = elim still.0 [
        | inl low ↦ inl (omega arith)
        | inr high ↦ inr (omega arith)
      ] in
      aside bytes at more i fits out (are.zero i still.1);
}

-- What a RAM keeps, after a write.
pub put-kept : (bytes after : List ℕ) (marks later : List Bool) (at : ℕ) (more : List ℕ) → IsRamSize (length bytes) × AreMarked bytes marks →
    at + length more ≤ length bytes → 0 < length more → at % page_size + length more ≤ page_size →
    after ≡ put bytes at more → later ≡ set marks (at / page_size) true → IsRamSize (length after) × AreMarked after later
put-kept bytes after marks later at more old fits some in_page put_there marked = (
  subst IsRamSize (sym (ap length put_there ∙ length-put bytes at more fits)) old.0,
  subst (λ them. AreMarked after them) (sym marked)
      (subst (λ them. AreMarked them (set marks (at / page_size) true)) (sym put_there) (put-marked bytes marks at more old.1 fits some in_page)),
)

pub run-kept : (bytes after : List ℕ) (marks later : List Bool) (at : ℕ) (more : List ℕ) (p n : ℕ) →
    IsRamSize (length bytes) × AreMarked bytes marks → at + length more ≤ length bytes →
    p ≡ at / page_size → p + n ≤ length marks → at + length more ≤ (p + n) * page_size →
    after ≡ put bytes at more → later ≡ put marks p (replicate n true) → IsRamSize (length after) × AreMarked after later
run-kept bytes after marks later at more p n old fits first within last put_there marked = (
  subst IsRamSize (sym (ap length put_there ∙ length-put bytes at more fits)) old.0,
  subst (λ them. AreMarked after them) (sym marked)
      (subst (λ them. AreMarked them (put marks p (replicate n true))) (sym put_there) (run-marked bytes marks at more p n old.1 fits first within last)),
)

-- two parts that hold zeros
zeros-alike : (xs ys : List ℕ) (at n : ℕ) → at + n ≤ length xs → at + n ≤ length ys →
    ((k : ℕ) → k < n → (get_or xs (at + k) 0 ≡ 0) × (get_or ys (at + k) 0 ≡ 0)) → take n (drop at xs) ≡ take n (drop at ys)
zeros-alike xs ys at n fits also zero =
    let one : length (take n (drop at xs)) ≡ n = length-take-le n (drop at xs) (omega (arith, length-drop at xs)) in
    let other : length (take n (drop at ys)) ≡ n = length-take-le n (drop at ys) (omega (arith, length-drop at ys)) in
    ext_get_or 0 (take n (drop at xs)) (take n (drop at ys)) (one ∙ sym other) (λ k below.
    let inside : k < n = omega arith in
    get_or-take n (drop at xs) k 0 inside
    ∙ get_or-drop at xs k 0
    ∙ (zero k inside).0
    ∙ sym (zero k inside).1
    ∙ sym (get_or-drop at ys k 0)
    ∙ sym (get_or-take n (drop at ys) k 0 inside))

-- pages without a mark are alike
pub clear-alike : (xs ys : List ℕ) (marks others : List Bool) (number : ℕ) → AreMarked xs marks → AreMarked ys others →
    number * page_size + page_size ≤ length xs → number * page_size + page_size ≤ length ys →
    get_or marks number true ≡ false → get_or others number true ≡ false →
    take page_size (drop (number * page_size) xs) ≡ take page_size (drop (number * page_size) ys)
clear-alike xs ys marks others number are also fits fits_too clear clear_too =
    zeros-alike xs ys (number * page_size) page_size fits fits_too (λ k below.
    let page : number ≡ (number * page_size + k) / page_size = omega arith in (
      are.zero (number * page_size + k) (ap (λ n. get_or marks n true) (sym page) ∙ clear),
      also.zero (number * page_size + k) (ap (λ n. get_or others n true) (sym page) ∙ clear_too),
    ))

pub clear-equal : (xs ys : List ℕ) (marks others : List Bool) (number : ℕ) → AreMarked xs marks → AreMarked ys others →
    number * page_size + page_size ≤ length xs → number * page_size + page_size ≤ length ys →
    get_or marks number true ≡ false → get_or others number true ≡ false →
    true ≡ bytes_eq (take page_size (drop (number * page_size) xs)) (take page_size (drop (number * page_size) ys))
clear-equal xs ys marks others number are also fits fits_too clear clear_too =
    sym ((bytes_eq-Decides (take page_size (drop (number * page_size) xs)) (take page_size (drop (number * page_size) ys))).1
    (clear-alike xs ys marks others number are also fits fits_too clear clear_too))
