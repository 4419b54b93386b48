-- From memory and links along moves to memory and links: who is linked, and which words are kept.
use Rattle.std.proofs.Common.{◌≡◌, ◌⊎◌, inl, inr, ℕ, List, [], ◌∷◌, ◌++◌, refl, sym, ap, subst, ◌∙◌, arith}
use Rattle.std.specs.Prelude.{Bool, true, false, not, ◌==◌, ◌&&◌, ◌||◌, if◌then◌else◌, Ok}
use Rattle.std.proofs.lemmas.Bool.Decides.{nat_tests}
use Rattle.brd_mem.specs.Memory.{Memory}
use Rattle.brd_mem.specs.Access.{loaded32}
use Rattle.brd_link.specs.LinkSet.{LinkSet, is_linked, is_same_block, without}
use Rattle.brd_link.proofs.LinkLemmas.{is_linked-without, is_linked-after_store, is_linked-with_link}
use Rattle.brd_exec.specs.Did.{Did, LoadedLinked, StoredAt, Conditional, Passed, Ended}
use Rattle.brd_exec.proofs.StepLemmas.{Moved}
use Rattle.brd_board.specs.History.{Move, ends_if, Kept, IsReserved, HasReserved, does_store, Untouched}

abbrev pub Run : Memory → LinkSet → List Move → Memory → LinkSet → Type 0
Run memory links [] stored left = (stored ≡ memory) × (left ≡ links)
Run memory links (move ∷ moves) stored left =
    (then_stored : Memory) × (then_left : LinkSet) × Moved memory links move.processor move.did then_stored then_left
    × Run then_stored then_left moves stored left

pub run-join : (memory : Memory) (links : LinkSet) (first second : List Move) (there : Memory) (left : LinkSet) (stored : Memory) (ended : LinkSet) →
    Run memory links first there left → Run there left second stored ended → Run memory links (first ++ second) stored ended
run-join memory links [] second there left stored ended one other =
    subst (λ l. Run memory l second stored ended) one.1 (subst (λ m. Run m left second stored ended) one.0 other)
run-join memory links (move ∷ moves) second there left stored ended one other =
    (one.0, one.1, one.2, run-join one.0 one.1 moves second there left stored ended one.3 other)

-- where a run along two lists is between them
abbrev Between : Memory → LinkSet → List Move → List Move → Memory → LinkSet → Type 0
Between memory links first second stored left = (there : Memory) × (then_left : LinkSet) × Run memory links first there then_left
    × Run there then_left second stored left

run-split : (memory : Memory) (links : LinkSet) (first second : List Move) (stored : Memory) (left : LinkSet) →
    Run memory links (first ++ second) stored left → Between memory links first second stored left
run-split memory links [] second stored left run = (memory, links, (refl, refl), run)
run-split memory links (move ∷ moves) second stored left run =
    let rest : Between run.0 run.1 moves second stored left = run-split run.0 run.1 moves second stored left run.3 in
    (rest.0, rest.1, (run.0, run.1, run.2, rest.2), rest.3)

-- One move.

abbrev WasLinked : LinkSet → ℕ → ℕ → ℕ → Did → Type 0
WasLinked links cpu address by what = (is_linked links cpu address ≡ true) × (ends_if cpu address by what ≡ false)

-- it was an LL of the processor of this word
abbrev DidLink : ℕ → ℕ → ℕ → Did → Type 0
DidLink cpu address by what = (by ≡ cpu) × (word : ℕ) × (what ≡ LoadedLinked address word)

link-back : (own : Bool) (links : LinkSet) (cpu address by other word : ℕ) → (cpu == by) ≡ own →
    (if own then other == address else is_linked links cpu address) ≡ true →
    DidLink cpu address by (LoadedLinked other word) ⊎ WasLinked links cpu address by (LoadedLinked other word)
link-back true links cpu address by other word test is =
    let who : by ≡ cpu = grind (arith, nat_tests, test) in
    let where_at : other ≡ address = grind (arith, nat_tests, is) in
    inl (who, word, ap (λ a. LoadedLinked a word) where_at)
link-back false links cpu address by other word test is = inr (is, grind (arith, nat_tests, test))

move-back : (memory : Memory) (links : LinkSet) (cpu address by : ℕ) (what : Did) (stored : Memory) (left : LinkSet) →
    Moved memory links by what stored left →
    is_linked left cpu address ≡ true → DidLink cpu address by what ⊎ WasLinked links cpu address by what
move-back memory links cpu address by (LoadedLinked other word) stored left moved is =
    link-back (cpu == by) links cpu address by other word refl
    (sym (is_linked-with_link links by other cpu address) ∙ sym (ap (λ l. is_linked l cpu address) moved.2) ∙ is)
move-back memory links cpu address by (StoredAt other) stored left moved is =
    let was : ((cpu == by || not (is_same_block address other)) && is_linked links cpu address) ≡ true =
    sym (is_linked-after_store links by other cpu address) ∙ sym (ap (λ l. is_linked l cpu address) moved.1) ∙ is in
    inr (grind (arith, nat_tests, was), grind (arith, nat_tests, was))
move-back memory links cpu address by (Conditional other true) stored left moved is =
    let was : ((cpu == by || not (is_same_block address other)) && is_linked (without links by) cpu address) ≡ true =
    sym (is_linked-after_store (without links by) by other cpu address) ∙ sym (ap (λ l. is_linked l cpu address) moved.2) ∙ is in
    let own = is_linked-without links by cpu address in
    inr (grind (arith, nat_tests, was, own), grind (arith, nat_tests, was, own))
move-back memory links cpu address by (Conditional other false) stored left moved is =
    let was : (not (cpu == by) && is_linked links cpu address) ≡ true =
    sym (is_linked-without links by cpu address) ∙ sym (ap (λ l. is_linked l cpu address) moved.1) ∙ is in
    inr (grind (arith, nat_tests, was), grind (arith, nat_tests, was))
move-back memory links cpu address by Passed stored left moved is = inr (sym (ap (λ l. is_linked l cpu address) moved.1) ∙ is, refl)
move-back memory links cpu address by Ended stored left moved is =
    let was : (not (cpu == by) && is_linked links cpu address) ≡ true =
    sym (is_linked-without links by cpu address) ∙ sym (ap (λ l. is_linked l cpu address) moved.1) ∙ is in
    inr (grind (arith, nat_tests, was), grind (arith, nat_tests, was))

-- a link that a move doesn't end
move-on : (memory : Memory) (links : LinkSet) (cpu address by : ℕ) (what : Did) (stored : Memory) (left : LinkSet) →
    Moved memory links by what stored left →
    is_linked links cpu address ≡ true → ends_if cpu address by what ≡ false → is_linked left cpu address ≡ true
move-on memory links cpu address by (LoadedLinked other word) stored left moved is kept =
    let now = is_linked-with_link links by other cpu address in
    ap (λ l. is_linked l cpu address) moved.2 ∙ grind (arith, nat_tests, now, is, kept)
move-on memory links cpu address by (StoredAt other) stored left moved is kept =
    let now = is_linked-after_store links by other cpu address in
    ap (λ l. is_linked l cpu address) moved.1 ∙ grind (arith, nat_tests, now, is, kept)
move-on memory links cpu address by (Conditional other true) stored left moved is kept =
    let now = is_linked-after_store (without links by) by other cpu address in
    let own = is_linked-without links by cpu address in
    ap (λ l. is_linked l cpu address) moved.2 ∙ grind (arith, nat_tests, now, own, is, kept)
move-on memory links cpu address by (Conditional other false) stored left moved is kept =
    let now = is_linked-without links by cpu address in
    ap (λ l. is_linked l cpu address) moved.1 ∙ grind (arith, nat_tests, now, is, kept)
move-on memory links cpu address by Passed stored left moved is kept = ap (λ l. is_linked l cpu address) moved.1 ∙ is
move-on memory links cpu address by Ended stored left moved is kept =
    let now = is_linked-without links by cpu address in
    ap (λ l. is_linked l cpu address) moved.1 ∙ grind (arith, nat_tests, now, is, kept)

-- a word that a move doesn't store into
move-word : (memory : Memory) (links : LinkSet) (cpu address by : ℕ) (what : Did) (stored : Memory) (left : LinkSet) →
    Moved memory links by what stored left →
    ends_if cpu address by what ≡ false → (by == cpu && does_store address what) ≡ false → loaded32 stored address ≡ loaded32 memory address
move-word memory links cpu address by (LoadedLinked other word) stored left moved kept untouched = ap (λ m. loaded32 m address) moved.1
move-word memory links cpu address by (StoredAt other) stored left moved kept untouched = moved.0 address (grind (arith, nat_tests, kept, untouched))
move-word memory links cpu address by (Conditional other true) stored left moved kept untouched = moved.1 address (grind (arith, nat_tests, kept))
move-word memory links cpu address by (Conditional other false) stored left moved kept untouched = ap (λ m. loaded32 m address) moved.0
move-word memory links cpu address by Passed stored left moved kept untouched = ap (λ m. loaded32 m address) moved.0
move-word memory links cpu address by Ended stored left moved kept untouched = ap (λ m. loaded32 m address) moved.0

-- Runs.

abbrev pub FromStart : LinkSet → ℕ → ℕ → List Move → Type 0
FromStart links cpu address moves = (is_linked links cpu address ≡ true) × Kept cpu address moves

back-move : (links : LinkSet) (cpu address : ℕ) (move : Move) (moves : List Move) → Kept cpu address moves →
    DidLink cpu address move.processor move.did ⊎ WasLinked links cpu address move.processor move.did →
    HasReserved cpu address (move ∷ moves) ⊎ FromStart links cpu address (move ∷ moves)
back-move links cpu address move moves kept (inl did) =
    inl (did.1, record { before = []; between = moves; split = λ i. (record { processor = did.0 i; did = did.2 i }) ∷ moves; kept = kept })
back-move links cpu address move moves kept (inr was) = inr (was.0, (was.1, kept))

back-moves : (memory : Memory) (links : LinkSet) (cpu address : ℕ) (move : Move) (moves : List Move) (there : Memory) (left : LinkSet) →
    Moved memory links move.processor move.did there left →
    HasReserved cpu address moves ⊎ FromStart left cpu address moves →
    HasReserved cpu address (move ∷ moves) ⊎ FromStart links cpu address (move ∷ moves)
back-moves memory links cpu address move moves there left moved (inl reserved) =
    inl (
      reserved.0,
      record {
        before = move ∷ reserved.1.before;
        between = reserved.1.between;
        split = ap (λ ms. move ∷ ms) reserved.1.split;
        kept = reserved.1.kept;
      },
    )
back-moves memory links cpu address move moves there left moved (inr from) =
    back-move links cpu address move moves from.1 (move-back memory links cpu address move.processor move.did there left moved from.0)

-- who is linked after a run has a reservation in it, or was linked before it, and it kept that
pub linked-back : (memory : Memory) (links : LinkSet) (moves : List Move) (stored : Memory) (left : LinkSet) (cpu address : ℕ) →
    Run memory links moves stored left →
    is_linked left cpu address ≡ true → HasReserved cpu address moves ⊎ FromStart links cpu address moves
linked-back memory links [] stored left cpu address run is = inr (sym (ap (λ l. is_linked l cpu address) run.1) ∙ is, tt)
linked-back memory links (move ∷ moves) stored left cpu address run is =
    back-moves memory links cpu address move moves run.0 run.1 run.2 (linked-back run.0 run.1 moves stored left cpu address run.3 is)

linked-on : (memory : Memory) (links : LinkSet) (moves : List Move) (stored : Memory) (left : LinkSet) (cpu address : ℕ) →
    Run memory links moves stored left →
    is_linked links cpu address ≡ true → Kept cpu address moves → is_linked left cpu address ≡ true
linked-on memory links [] stored left cpu address run is kept = ap (λ l. is_linked l cpu address) run.1 ∙ is
linked-on memory links (move ∷ moves) stored left cpu address run is kept =
    linked-on run.0 run.1 moves stored left cpu address run.3
    (move-on memory links cpu address move.processor move.did run.0 run.1 run.2 is kept.0) kept.1

word-on : (memory : Memory) (links : LinkSet) (moves : List Move) (stored : Memory) (left : LinkSet) (cpu address : ℕ) →
    Run memory links moves stored left →
    Kept cpu address moves → Untouched cpu address moves → loaded32 stored address ≡ loaded32 memory address
word-on memory links [] stored left cpu address run kept untouched = ap (λ m. loaded32 m address) run.0
word-on memory links (move ∷ moves) stored left cpu address run kept untouched =
    word-on run.0 run.1 moves stored left cpu address run.3 kept.1 untouched.1
    ∙ move-word memory links cpu address move.processor move.did run.0 run.1 run.2 kept.0 untouched.0

-- a reservation's run, from its LL on
abbrev FromLink : ℕ → ℕ → ℕ → List Move → Memory → LinkSet → Type 0
FromLink cpu address word between stored left =
    (memory : Memory) × (links : LinkSet) × Run memory links ((record { processor = cpu; did = LoadedLinked address word }) ∷ between) stored left

from-link : (memory : Memory) (links : LinkSet) (moves : List Move) (stored : Memory) (left : LinkSet) (cpu address word : ℕ) →
    Run memory links moves stored left →
    (reserved : IsReserved cpu address word moves) → FromLink cpu address word reserved.between stored left
from-link memory links moves stored left cpu address word run reserved =
    let parts = run-split memory links reserved.before ((record { processor = cpu; did = LoadedLinked address word }) ∷ reserved.between) stored left
    (subst (λ ms. Run memory links ms stored left) reserved.split run) in
    (parts.0, parts.1, parts.3)

-- who has a reservation is linked
pub linked-reserved : (memory : Memory) (links : LinkSet) (moves : List Move) (stored : Memory) (left : LinkSet) (cpu address word : ℕ) →
    Run memory links moves stored left →
    IsReserved cpu address word moves → is_linked left cpu address ≡ true
linked-reserved memory links moves stored left cpu address word run reserved =
    let from : FromLink cpu address word reserved.between stored left = from-link memory links moves stored left cpu address word run reserved in
    let run : Run from.0 from.1 ((record { processor = cpu; did = LoadedLinked address word }) ∷ reserved.between) stored left = from.2 in
    let now = is_linked-with_link from.1 cpu address cpu address in
    let linked : is_linked run.1 cpu address ≡ true = ap (λ l. is_linked l cpu address) run.2.2 ∙ grind (arith, nat_tests, now) in
    linked-on run.0 run.1 reserved.between stored left cpu address run.3 linked reserved.kept

-- the word of a reservation is the one that its LL loaded
pub word-reserved : (memory : Memory) (links : LinkSet) (moves : List Move) (stored : Memory) (left : LinkSet) (cpu address word : ℕ) →
    Run memory links moves stored left →
    (reserved : IsReserved cpu address word moves) → Untouched cpu address reserved.between → loaded32 stored address ≡ Ok word
word-reserved memory links moves stored left cpu address word run reserved untouched =
    let from : FromLink cpu address word reserved.between stored left = from-link memory links moves stored left cpu address word run reserved in
    let run : Run from.0 from.1 ((record { processor = cpu; did = LoadedLinked address word }) ∷ reserved.between) stored left = from.2 in
    word-on run.0 run.1 reserved.between stored left cpu address run.3 reserved.kept untouched
    ∙ ap (λ m. loaded32 m address) run.2.1 ∙ run.2.0
