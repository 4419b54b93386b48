-- The blocks of a pool as they are laid, and one after the other, as loops pass them.
use Rattle.std.proofs.Common.{◌≡◌, ◌≢◌, ◌<◌, ◌≤◌, ℕ, zero, suc, ◌+◌, ◌-◌, ◌%◌, ◌^◌, List, [], ◌∷◌, ◌++◌, length, map, refl, ap, ◌∙◌, append_assoc, length-append, arith}
use Rattle.std.specs.Prelude.{Bool, true, false, not, ◌&&◌, ◌==◌, if◌then◌else◌, find, Option, None, Some}
use Rattle.std.specs.List.{list_any}
use Rattle.std.specs.Option.{option_map}
use Rattle.std.proofs.lemmas.Bool.Decides.{nat_tests}
use Rattle.brd_queue.specs.Queue.{Plain}
use Rattle.brd_objects.specs.declared.block.Block.{Block}
use Rattle.brd_objects.specs.Waiters.{first_in}
use Rattle.brd_objects.specs.Pools.{PoolState, laid, marked, is_out, free_block, block_for, without_block, handed_out, back_to, given_back, next_holder}

pub laid_long : (count distance address : ℕ) → length (laid count distance address) ≡ count
laid_long zero distance address = refl
laid_long (suc count) distance address = ap suc (laid_long count distance ((address + distance) % 2 ^ 32))

-- the next block, and those behind it
pub laid_more : (count i distance address : ℕ) → i < count → laid (count - i) distance address ≡ record { address = address; out = false } ∷ laid (count - (i + 1)) distance ((address + distance) % 2 ^ 32)
laid_more count i distance address lt =
    let left : count - i ≡ suc (count - (i + 1)) = omega (arith, lt) in
    rw left refl

-- one more block is laid
pub laid-next : (whole done more : List Block) (count i distance address next : ℕ) → whole ≡ done ++ laid (count - i) distance address → i < count → more ≡ done ++ record { address = address; out = false } ∷ [] → next ≡ (address + distance) % 2 ^ 32
    → whole ≡ more ++ laid (count - (i + 1)) distance next
laid-next whole done more count i distance address next is lt pushed behind =
    rw (pushed, behind, append_assoc) (is ∙ ap (λ (bs : List Block). done ++ bs) (laid_more count i distance address lt))

-- there are no more blocks than are to be laid
pub laid-few : (done : List Block) (count i distance start address : ℕ) → laid count distance start ≡ done ++ laid (count - i) distance address → count ≤ 65535 → length done ≤ 65535
laid-few done count i distance start address is few =
    let all : length (laid count distance start) ≡ length done + length (laid (count - i) distance address) = ap length is ∙ length-append done (laid (count - i) distance address) in
    omega (arith, all, laid_long count distance start, few)

-- Which blocks are out.

-- the block at an address is out, of these
abbrev out-of : ℕ → List Block → Bool
out-of address blocks = list_any (λ b. b.out && (b.address == address)) blocks

one-stays : (test out : Bool) (a n : ℕ) (b : Block) → (b.address == a) ≡ test → n ≢ a → (if test then record b { out = out } else b).out && ((if test then record b { out = out } else b).address == n) ≡ b.out && (b.address == n)
one-stays true out a n b is other = let no : (b.address == n) ≡ false = grind (arith, nat_tests, is, other) in grind (arith, no)
one-stays false out a n b is other = refl

-- the other blocks stay as they are
pub others-stay : (out : Bool) (a n : ℕ) (bs : List Block) → n ≢ a → out-of n (map (marked out a) bs) ≡ out-of n bs
others-stay out a n [] other = refl
others-stay out a n (b ∷ bs) other = grind (arith, one-stays (b.address == a) out a n b refl other, others-stay out a n bs other)

one-back : (test : Bool) (a : ℕ) (b : Block) → (b.address == a) ≡ test → (if test then record b { out = false } else b).out && ((if test then record b { out = false } else b).address == a) ≡ false
one-back true a b is = refl
one-back false a b is = grind (arith, is)

pub none-back : (a : ℕ) (bs : List Block) → out-of a (map (marked false a) bs) ≡ false
none-back a [] = refl
none-back a (b ∷ bs) = grind (arith, one-back (b.address == a) a b refl, none-back a bs)

one-out : (test : Bool) (a : ℕ) (b : Block) → (b.address == a) ≡ test → test ≡ true → (if test then record b { out = true } else b).out && ((if test then record b { out = true } else b).address == a) ≡ true
one-out true a b is there = is
one-out false a b is there = let wrong : ⊥ = cc in absurd wrong

found-out : (holds : Bool) (a : ℕ) (b : Block) (bs : List Block) → not b.out ≡ holds → option_map (λ x. x.address) (if holds then Some b else find (λ x. not x.out) bs) ≡ Some a
    → (option_map (λ x. x.address) (find (λ x. not x.out) bs) ≡ Some a → out-of a (map (marked true a) bs) ≡ true) → out-of a (map (marked true a) (b ∷ bs)) ≡ true
found-out true a b bs test is rest =
    let same : b.address ≡ a = cc in
    let there : (b.address == a) ≡ true = grind (arith, nat_tests, same) in
    grind (arith, one-out (b.address == a) a b refl there)
found-out false a b bs test is rest = grind (arith, rest is)

pub handed : (a : ℕ) (bs : List Block) → free_block bs ≡ Some a → out-of a (map (marked true a) bs) ≡ true
handed a [] is = let wrong : ⊥ = cc in absurd wrong
handed a (b ∷ bs) is = found-out (not b.out) a b bs refl is (handed a bs)

out-by : (p : PoolState) (found : Option ℕ) (a : ℕ) → found ≡ Some a → free_block p.blocks ≡ Some a → is_out a (without_block p found) ≡ true
out-by p None a is free = let wrong : ⊥ = cc in absurd wrong
out-by p (Some n) a is free =
    let same : n ≡ a = cc in
    rw same (handed a p.blocks free)

pub handed-is-out : (p : PoolState) (a : ℕ) → block_for p ≡ Some a → is_out a (handed_out p) ≡ true
handed-is-out p a is = out-by p (block_for p) a is is

stays-by : (p : PoolState) (found : Option ℕ) (a n : ℕ) → found ≡ Some a → n ≢ a → is_out n (without_block p found) ≡ is_out n p
stays-by p None a n is other = refl
stays-by p (Some m) a n is other =
    let same : m ≡ a = cc in
    rw same (others-stay true a n p.blocks other)

pub handed-others : (p : PoolState) (a n : ℕ) → block_for p ≡ Some a → n ≢ a → is_out n (handed_out p) ≡ is_out n p
handed-others p a n is other = stays-by p (block_for p) a n is other

back-by : (p : PoolState) (test : Bool) (a : ℕ) → is_out a p ≡ test → p.waiters ≡ [] → is_out a (if test then back_to a p p.waiters else p) ≡ false
back-by p true a is nobody = rw nobody (none-back a p.blocks)
back-by p false a is nobody = is

pub back-is-there : (p : PoolState) (a : ℕ) → p.waiters ≡ [] → is_out a (given_back a p) ≡ false
back-is-there p a nobody = back-by p (is_out a p) a refl nobody

back-to-others : (p : PoolState) (waiters : List Plain) (a n : ℕ) → n ≢ a → is_out n (back_to a p waiters) ≡ is_out n p
back-to-others p [] a n other = others-stay false a n p.blocks other
back-to-others p (first ∷ others) a n other = refl

back-others-by : (p : PoolState) (test : Bool) (a n : ℕ) → n ≢ a → is_out n (if test then back_to a p p.waiters else p) ≡ is_out n p
back-others-by p true a n other = back-to-others p p.waiters a n other
back-others-by p false a n other = refl

pub back-others : (p : PoolState) (a n : ℕ) → n ≢ a → is_out n (given_back a p) ≡ is_out n p
back-others p a n other = back-others-by p (is_out a p) a n other

passed-to : (p : PoolState) (waiters : List Plain) (a id : ℕ) → first_in waiters ≡ Some id → (back_to a p waiters).blocks ≡ p.blocks
passed-to p [] a id is = let wrong : ⊥ = cc in absurd wrong
passed-to p (first ∷ others) a id is = refl

passed-by : (p : PoolState) (test : Bool) (a id : ℕ) → (if test then first_in p.waiters else None) ≡ Some id → (if test then back_to a p p.waiters else p).blocks ≡ p.blocks
passed-by p true a id is = passed-to p p.waiters a id is
passed-by p false a id is = refl

pub passed : (p : PoolState) (a id : ℕ) → next_holder a p ≡ Some id → (given_back a p).blocks ≡ p.blocks
passed p a id is = passed-by p (is_out a p) a id is
