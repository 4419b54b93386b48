-- The links of processors whose running task has become another.
use Rattle.std.proofs.Common.{◌≡◌, ◌<◌, ℕ, suc, ◌+◌, ◌-◌, List, [], ◌∷◌, refl, sym, ap, ◌∙◌, arith}
use Rattle.std.specs.Prelude.{Bool, true, false, ◌==◌, if◌then◌else◌, filter}
use Rattle.std.specs.List.{range_with_len}
use Rattle.std.specs.Int.{bit_at}
use Rattle.brd_kernel.specs.Kernel.{KernelState}
use Rattle.brd_kernel.specs.Dispatch.{dispatched, has_changed, changed_processors}
use Rattle.brd_board.specs.Board.{BoardState, dispatched_board}
use Rattle.brd_link.specs.LinkSet.{LinkSet, without, without_all}

pub next-number : (c : ℕ) → c < 9 → range_with_len c (9 - c) ≡ c ∷ range_with_len (c + 1) (9 - (c + 1))
next-number c small =
    let more : 9 - c ≡ suc (9 - (c + 1)) = omega (arith, small) in
    ap (range_with_len c) more

-- a number that is tested, and those after it
pub filter-next : (p : ℕ → Bool) (c : ℕ) → c < 9 → filter p (range_with_len c (9 - c)) ≡ (if p c then c ∷ filter p (range_with_len (c + 1) (9 - (c + 1))) else filter p (range_with_len (c + 1) (9 - (c + 1))))
filter-next p c small = ap (filter p) (next-number c small)

ended-by : (tested : Bool) (p : ℕ → Bool) (c : ℕ) (links new target : LinkSet) → p c ≡ tested → c < 9 → new ≡ (if p c then without links c else links) →
    without_all links (filter p (range_with_len c (9 - c))) ≡ target → without_all new (filter p (range_with_len (c + 1) (9 - (c + 1)))) ≡ target
ended-by true p c links new target test small is goes =
    let rest : List ℕ = filter p (range_with_len (c + 1) (9 - (c + 1))) in
    let split : filter p (range_with_len c (9 - c)) ≡ c ∷ rest = filter-next p c small ∙ ap (λ t. if t then c ∷ rest else rest) test in
    ap (λ l. without_all l rest) (is ∙ ap (λ t. if t then without links c else links) test) ∙ sym (ap (without_all links) split) ∙ goes
ended-by false p c links new target test small is goes =
    let rest : List ℕ = filter p (range_with_len (c + 1) (9 - (c + 1))) in
    let split : filter p (range_with_len c (9 - c)) ≡ rest = filter-next p c small ∙ ap (λ t. if t then c ∷ rest else rest) test in
    ap (λ l. without_all l rest) (is ∙ ap (λ t. if t then without links c else links) test) ∙ sym (ap (without_all links) split) ∙ goes

pub ended-next : (p : ℕ → Bool) (c : ℕ) (links new target : LinkSet) → c < 9 → new ≡ (if p c then without links c else links) →
    without_all links (filter p (range_with_len c (9 - c))) ≡ target → without_all new (filter p (range_with_len (c + 1) (9 - (c + 1)))) ≡ target
ended-next p c links new target small is goes = ended-by (p c) p c links new target refl small is goes

-- two tests that agree on each processor
pub filter-same : (p q : ℕ → Bool) → ((j : ℕ) → j < 8 → p (j + 1) ≡ q (j + 1)) →
    filter p (1 ∷ 2 ∷ 3 ∷ 4 ∷ 5 ∷ 6 ∷ 7 ∷ 8 ∷ []) ≡ filter q (1 ∷ 2 ∷ 3 ∷ 4 ∷ 5 ∷ 6 ∷ 7 ∷ 8 ∷ [])
filter-same p q same =
    rw (same 0 (omega arith), same 1 (omega arith), same 2 (omega arith), same 3 (omega arith), same 4 (omega arith), same 5 (omega arith), same 6 (omega arith), same 7 (omega arith)) refl

bit-test : (b : Bool) → ((if b then 1 else 0) == 1) ≡ b
bit-test true = refl
bit-test false = refl

changed-bit : (changed j : ℕ) (b : Bool) → bit_at changed j ≡ (if b then 1 else 0) → (bit_at changed (j + 1 - 1) == 1) ≡ b
changed-bit changed j b is =
    let at : j + 1 - 1 ≡ j = omega arith in
    ap (λ i. bit_at changed i == 1) at ∙ ap (λ n. n == 1) is ∙ bit-test b

pub board-dispatched : (b : BoardState) (kernel : KernelState) (links : LinkSet) (changed : ℕ) → kernel ≡ dispatched b.kernel →
    links ≡ without_all b.links (filter (λ cpu. bit_at changed (cpu - 1) == 1) (1 ∷ 2 ∷ 3 ∷ 4 ∷ 5 ∷ 6 ∷ 7 ∷ 8 ∷ [])) →
    ((j : ℕ) → j < 8 → bit_at changed j ≡ (if has_changed b.kernel (dispatched b.kernel) (j + 1) then 1 else 0)) →
    record b { kernel = kernel; links = links } ≡ dispatched_board b
board-dispatched b kernel links changed kernel_is links_are bits =
    let same : filter (λ cpu. bit_at changed (cpu - 1) == 1) (1 ∷ 2 ∷ 3 ∷ 4 ∷ 5 ∷ 6 ∷ 7 ∷ 8 ∷ []) ≡ changed_processors b.kernel (dispatched b.kernel) =
    filter-same (λ cpu. bit_at changed (cpu - 1) == 1) (has_changed b.kernel (dispatched b.kernel))
    (λ j small. changed-bit changed j (has_changed b.kernel (dispatched b.kernel) (j + 1)) (bits j small)) in
    ap (λ k. record b { kernel = k; links = links }) kernel_is
    ∙ ap (λ l. record b { kernel = dispatched b.kernel; links = l }) (links_are ∙ ap (without_all b.links) same)
