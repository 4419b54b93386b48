-- Snapshots that are kept.
use Rattle.std.proofs.Common.{◌≡◌, ℕ, suc, ◌-◌, ◌*◌, ◌%◌, ◌<◌, ◌≤◌, List, [], ◌∷◌, length, take, get_or, refl, ap, ◌∙◌, inl, inr, arith}
use Rattle.std.specs.Prelude.{Bool, true, false, if◌then◌else◌, ◌==◌, nat_lt, filter, map}
use Rattle.std.proofs.lemmas.Bool.Decides.{nat_tests}
use Rattle.std.proofs.lemmas.List.{length-map}
use Rattle.std.proofs.Math.Nat.{mod-eq_of_lt}
use Rattle.std.proofs.lemmas.Bool.{cases_lt}
use Rattle.brd_mem.specs.Memory.{size_of}
use Rattle.brd_board.specs.declared.event.Event.{Event}
use Rattle.brd_board.specs.Board.{BoardState}
use Rattle.brd_debug.specs.declared.snapshots.Kept.{Kept}
use Rattle.brd_board.proofs.FormLemmas.{size-after, order-after}
use Rattle.brd_journal.specs.declared.playback.Playback.{Playback}
use Rattle.brd_journal.specs.Playing.{IsPlayed}
use Rattle.brd_debug.specs.Kept.{AreKept, DoFit, SnapshotsState, plan_of, last_of, noted}

pub size-played : (boot : BoardState) (events : List Event) (p : Playback) → IsPlayed boot events p → size_of p.board.memory ≡ size_of boot.memory
size-played boot events p is = ap (λ (b : BoardState). size_of b.memory) is.board ∙ size-after boot (take p.at events)

pub order-played : (boot : BoardState) (events : List Event) (p : Playback) → IsPlayed boot events p → p.board.memory.order ≡ boot.memory.order
order-played boot events p is = ap (λ (b : BoardState). b.memory.order) is.board ∙ order-after boot (take p.at events)

-- a multiple after 0
pub least-multiple : (n at : ℕ) → at % n ≡ 0 → 0 < at → n ≤ at
least-multiple n at multiple some = elim (cases_lt at n) [
  | inl lt ↦ absurd (omega (arith, mod-eq_of_lt lt, multiple, some))
  | inr ge ↦ ge
]

thinned-one : (test : Bool) (one : Kept) (left kept : List Kept) → length left ≤ length kept → length (if test then one ∷ left else left) ≤ length (one ∷ kept)
thinned-one true one left kept fewer = omega (arith, fewer)
thinned-one false one left kept fewer = omega (arith, fewer)

pub length-thinned : (p : Kept → Bool) (kept : List Kept) → length (filter p kept) ≤ length kept
length-thinned p [] = omega arith
length-thinned p (one ∷ kept) = thinned-one (p one) one (filter p kept) kept (length-thinned p kept)

-- the position of the last snapshot
pub last-is : (kept : List Kept) (d : Kept) → 0 < length kept → (get_or kept (length kept - 1) d).at ≡ last_of (map (λ one. one.at) kept)
last-is [] d some = absurd (omega (arith, some))
last-is (one ∷ []) d some = refl
last-is (one ∷ next ∷ kept) d some =
    let less : length (one ∷ next ∷ kept) - 1 ≡ suc (length (next ∷ kept) - 1) = omega arith in
    ap (λ k. (get_or (one ∷ next ∷ kept) k d).at) less ∙ last-is (next ∷ kept) d (omega arith)

-- Where there are as many snapshots as there may be, the plan gives some up.

filtered-one : (test : Bool) (at : ℕ) (one : Kept) (left : List Kept) (positions : List ℕ) → map (λ k. k.at) left ≡ positions → one.at ≡ at →
    map (λ k. k.at) (if test then one ∷ left else left) ≡ (if test then at ∷ positions else positions)
filtered-one true at one left positions same is = rw (same, is) refl
filtered-one false at one left positions same is = same

filtered : (p : ℕ → Bool) (kept : List Kept) → map (λ k. k.at) (filter (λ k. p k.at) kept) ≡ filter p (map (λ k. k.at) kept)
filtered p [] = refl
filtered p (one ∷ kept) = filtered-one (p one.at) one.at one (filter (λ k. p k.at) kept) (filter p (map (λ k. k.at) kept)) (filtered p kept) refl

pub thinned-plan : (s : SnapshotsState) (kept : List Kept) (at : ℕ) → last_of (map (λ k. k.at) s.kept) < at → at % s.interval ≡ 0 → 1024 ≤ length s.kept →
    kept ≡ filter (λ k. k.at % (s.interval * 2) == 0) s.kept → plan_of (record { interval = s.interval * 2; kept = kept }) ≡ noted (plan_of s) at
thinned-plan s kept at behind multiple full is =
    let positions : List ℕ = map (λ k. k.at) s.kept in
    let first : nat_lt (last_of positions) at ≡ true = grind (arith, nat_tests, behind) in
    let second : (at % s.interval == 0) ≡ true = grind (arith, nat_tests, multiple) in
    let third : nat_lt (length positions) 1024 ≡ false = grind (arith, nat_tests, length-map s.kept (λ (k : Kept). k.at), full) in
    rw (first, second, third)
    (ap (λ (ks : List Kept). record { interval = s.interval * 2; positions = map (λ k. k.at) ks }) is
    ∙ ap (λ ps. record { interval = s.interval * 2; positions = ps }) (filtered (λ position. position % (s.interval * 2) == 0) s.kept))
