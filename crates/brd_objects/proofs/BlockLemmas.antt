-- Where the blocks of a pool lie, and that none is handed out twice.
use Rattle.std.proofs.Common.{◌≡◌, ◌≢◌, ◌<◌, ◌≤◌, ℕ, zero, suc, ◌+◌, ◌*◌, ◌%◌, ◌^◌, List, [], ◌∷◌, map, refl, sym, subst, arith}
use Rattle.std.specs.Prelude.{Bool, true, false, not, ◌&&◌, ◌==◌, if◌then◌else◌, find, Option, None, Some, All, AllPairs}
use Rattle.std.specs.List.{list_any}
use Rattle.std.specs.Option.{option_map}
use Rattle.std.proofs.lemmas.Bool.Decides.{nat_tests}
use Rattle.std.proofs.lemmas.List.Elements.{All-nil, All-cons}
use Rattle.std.proofs.lemmas.List.Kept.{AllPairs-cons}
use Rattle.brd_queue.specs.Queue.{Plain}
use Rattle.brd_objects.specs.declared.block.Block.{Block}
use Rattle.brd_objects.specs.Pools.{PoolState, laid, marked, is_out, free_block, block_for, without_block, handed_out, back_to, given_back}

-- ---- where they lie

-- a number below 2 ^ 32 is its own remainder
small-word : (n : ℕ) → n < 2 ^ 32 → n % 2 ^ 32 ≡ n
small-word n small = omega (arith, small)

-- the block after the next one begins within the addresses
next-start : (n distance start : ℕ) → 0 < distance → start + suc (suc n) * distance ≤ 2 ^ 32 → (start + distance) % 2 ^ 32 ≡ start + distance
next-start n distance start some fits =
    let two : suc (suc n) * distance ≡ distance + distance + n * distance = omega arith in
    small-word (start + distance) (omega (arith, some, fits, two))

abbrev LiesIn : ℕ → ℕ → ℕ → Block → Type 0
LiesIn distance low high b = (low ≤ b.address) × (b.address + distance ≤ high)

pub laid-within : (count distance start low high : ℕ) → 0 < distance → low ≤ start → start + count * distance ≤ high → high ≤ 2 ^ 32 → All (LiesIn distance low high) (laid count distance start)
laid-within zero distance start low high some above fits small = All-nil (LiesIn distance low high)
laid-within (suc zero) distance start low high some above fits small =
    All-cons (LiesIn distance low high) (record { address = start; out = false }) [] (above, omega (arith, fits)) (All-nil (LiesIn distance low high))
laid-within (suc (suc n)) distance start low high some above fits small =
    let next = next-start n distance start some (omega (arith, fits, small)) in
    let more : suc (suc n) * distance ≡ distance + suc n * distance = omega arith in
    let rest : All (LiesIn distance low high) (laid (suc n) distance (start + distance)) = laid-within (suc n) distance (start + distance) low high some (omega (arith, above)) (omega (arith, fits, more)) small in
    All-cons (LiesIn distance low high) (record { address = start; out = false }) (laid (suc n) distance ((start + distance) % 2 ^ 32)) (above, omega (arith, fits, more))
    (subst (λ (a : ℕ). All (LiesIn distance low high) (laid (suc n) distance a)) (sym next) rest)

abbrev IsBefore : ℕ → Block → Block → Type 0
IsBefore distance x y = x.address + distance ≤ y.address

pub laid-apart : (count distance start : ℕ) → 0 < distance → start + count * distance ≤ 2 ^ 32 → AllPairs (IsBefore distance) (laid count distance start)
laid-apart zero distance start some fits = λ i j d lt within. absurd (omega (arith, within))
laid-apart (suc zero) distance start some fits = AllPairs-cons (IsBefore distance) (record { address = start; out = false }) [] (All-nil (IsBefore distance (record { address = start; out = false }))) (λ i j d lt within. absurd (omega (arith, within)))
laid-apart (suc (suc n)) distance start some fits =
    let next = next-start n distance start some fits in
    let more : suc (suc n) * distance ≡ distance + suc n * distance = omega arith in
    let rest : AllPairs (IsBefore distance) (laid (suc n) distance (start + distance)) = laid-apart (suc n) distance (start + distance) some (omega (arith, fits, more)) in
    let behind : All (LiesIn distance (start + distance) (2 ^ 32)) (laid (suc n) distance (start + distance)) = laid-within (suc n) distance (start + distance) (start + distance) (2 ^ 32) some (omega arith) (omega (arith, fits, more)) (omega arith) in
    AllPairs-cons (IsBefore distance) (record { address = start; out = false }) (laid (suc n) distance ((start + distance) % 2 ^ 32))
    (subst (λ (a : ℕ). All (IsBefore distance (record { address = start; out = false })) (laid (suc n) distance a)) (sym next) (λ k d within. (behind k d within).0))
    (subst (λ (a : ℕ). AllPairs (IsBefore distance) (laid (suc n) distance a)) (sym next) rest)

one-mark : (test out : Bool) (b : Block) → (if test then record b { out = out } else b).address ≡ b.address
one-mark true out b = refl
one-mark false out b = refl

pub marks-stay : (out : Bool) (a : ℕ) (bs : List Block) → map (λ b. b.address) (map (marked out a) bs) ≡ map (λ b. b.address) bs
marks-stay out a [] = refl
marks-stay out a (b ∷ bs) = rw (one-mark (b.address == a) out b, marks-stay out a bs) refl

handed-stay-by : (p : PoolState) (found : Option ℕ) → map (λ b. b.address) (without_block p found).blocks ≡ map (λ b. b.address) p.blocks
handed-stay-by p None = refl
handed-stay-by p (Some a) = marks-stay true a p.blocks

pub handed-stay : (p : PoolState) → map (λ b. b.address) (handed_out p).blocks ≡ map (λ b. b.address) p.blocks
handed-stay p = handed-stay-by p (block_for p)

back-to-stay : (p : PoolState) (waiters : List Plain) (a : ℕ) → map (λ b. b.address) (back_to a p waiters).blocks ≡ map (λ b. b.address) p.blocks
back-to-stay p [] a = marks-stay false a p.blocks
back-to-stay p (first ∷ others) a = refl

back-stay-by : (p : PoolState) (test : Bool) (a : ℕ) → map (λ b. b.address) (if test then back_to a p p.waiters else p).blocks ≡ map (λ b. b.address) p.blocks
back-stay-by p true a = back-to-stay p p.waiters a
back-stay-by p false a = refl

pub back-stay : (p : PoolState) (a : ℕ) → map (λ b. b.address) (given_back a p).blocks ≡ map (λ b. b.address) p.blocks
back-stay p a = back-stay-by p (is_out a p) a

-- ---- none is handed out twice

-- the block at an address is out, of these
abbrev out-of : ℕ → List Block → Bool
out-of address blocks = list_any (λ b. b.out && (b.address == address)) blocks

-- two blocks begin at two addresses
abbrev pub Differ : Block → Block → Type 0
Differ x y = x.address ≢ y.address

rest-differ : (b : Block) (bs : List Block) → AllPairs Differ (b ∷ bs) → AllPairs Differ bs
rest-differ b bs h = λ i j d lt within. h (suc i) (suc j) d (omega (arith, lt)) (omega (arith, within))

first-differs : (b : Block) (bs : List Block) → AllPairs Differ (b ∷ bs) → All (λ y. b.address ≢ y.address) bs
first-differs b bs h = λ j d within. h 0 (suc j) d (omega arith) (omega (arith, within))

rest-all : (P : Block → Type 0) (b : Block) (bs : List Block) → All P (b ∷ bs) → All P bs
rest-all P b bs h = λ k d within. h (suc k) d (omega (arith, within))

one-other : (n : ℕ) (b : Block) → n ≢ b.address → (b.out && (b.address == n)) ≡ false
one-other n b other = let no : (b.address == n) ≡ false = grind (arith, nat_tests, other) in grind (arith, no)

none-of-others : (n : ℕ) (bs : List Block) → All (λ y. n ≢ y.address) bs → out-of n bs ≡ false
none-of-others n [] h = refl
none-of-others n (b ∷ bs) h =
    rw (one-other n b (h 0 b (omega arith)), none-of-others n bs (rest-all (λ y. n ≢ y.address) b bs h)) refl

free-other-by : (test : Bool) (n a : ℕ) (b : Block) (bs : List Block) → n ≢ b.address → (free_block bs ≡ Some a → n ≢ a) → option_map (λ x. x.address) (if test then Some b else find (λ x. not x.out) bs) ≡ Some a → n ≢ a
free-other-by true n a b bs other rest is = let same : b.address ≡ a = cc in subst (λ (m : ℕ). n ≢ m) same other
free-other-by false n a b bs other rest is = rest is

free-other : (n a : ℕ) (bs : List Block) → All (λ y. n ≢ y.address) bs → free_block bs ≡ Some a → n ≢ a
free-other n a [] h is = let wrong : ⊥ = cc in absurd wrong
free-other n a (b ∷ bs) h is =
    free-other-by (not b.out) n a b bs (h 0 b (omega arith)) (free-other n a bs (rest-all (λ y. n ≢ y.address) b bs h)) is

there-by : (out : Bool) (a : ℕ) (b : Block) (bs : List Block) → b.out ≡ out → All (λ y. b.address ≢ y.address) bs → (free_block bs ≡ Some a → out-of a bs ≡ false)
    → option_map (λ x. x.address) (if not out then Some b else find (λ x. not x.out) bs) ≡ Some a → out-of a (b ∷ bs) ≡ false
there-by false a b bs is others rest found =
    let same : b.address ≡ a = cc in
    let none : out-of a bs ≡ false = none-of-others a bs (subst (λ (n : ℕ). All (λ y. n ≢ y.address) bs) same others) in
    rw (is, none) refl
there-by true a b bs is others rest found =
    let other : a ≢ b.address = λ e. free-other b.address a bs others found (sym e) in
    rw (one-other a b other, rest found) refl

there-of : (a : ℕ) (bs : List Block) → AllPairs Differ bs → free_block bs ≡ Some a → out-of a bs ≡ false
there-of a [] h found = refl
there-of a (b ∷ bs) h found =
    there-by b.out a b bs refl (first-differs b bs h) (there-of a bs (rest-differ b bs h)) found

pub was-there : (p : PoolState) (a : ℕ) → AllPairs (λ x y. x.address ≢ y.address) p.blocks → block_for p ≡ Some a → is_out a p ≡ false
was-there p a apart found = there-of a p.blocks apart found

all-out-by : (out : Bool) (b : Block) (bs : List Block) → b.out ≡ out → (free_block bs ≡ None → All (λ x. x.out ≡ true) bs)
    → option_map (λ x. x.address) (if not out then Some b else find (λ x. not x.out) bs) ≡ None → All (λ x. x.out ≡ true) (b ∷ bs)
all-out-by false b bs is rest none = let wrong : ⊥ = cc in absurd wrong
all-out-by true b bs is rest none = All-cons (λ x. x.out ≡ true) b bs is (rest none)

all-out : (bs : List Block) → free_block bs ≡ None → All (λ x. x.out ≡ true) bs
all-out [] none = All-nil (λ x. x.out ≡ true)
all-out (b ∷ bs) none = all-out-by b.out b bs refl (all-out bs) none

pub all-are-out : (p : PoolState) → block_for p ≡ None → All (λ b. b.out ≡ true) p.blocks
all-are-out p none = all-out p.blocks none

none-free : (bs : List Block) → All (λ x. x.out ≡ true) bs → free_block bs ≡ None
none-free [] h = refl
none-free (b ∷ bs) h =
    let out : b.out ≡ true = h 0 b (omega arith) in
    rw out (none-free bs (rest-all (λ x. x.out ≡ true) b bs h))

pub none-is-there : (p : PoolState) → All (λ b. b.out ≡ true) p.blocks → block_for p ≡ None
none-is-there p all = none-free p.blocks all
