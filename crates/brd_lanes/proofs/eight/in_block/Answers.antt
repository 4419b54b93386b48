use Rattle.std.proofs.Common.{◌≡◌, ℕ, ◌/◌, ◌%◌, ◌-◌, ◌^◌, List, eqb, map, length, replicate, get_or, refl, ◌∙◌, arith}
use lib.Lanes.{zip2, mask_l, top}
use Rattle.brd_lanes.specs.Scan.{is_in_block}
use Rattle.brd_lanes.proofs.LaneLemmas.{HasLanes, IsMaskOf, splatted, combined, eq_lane, masked, top_of_mask}
use Rattle.brd_lanes.proofs.eight.in_block.Goals as goal

-- one lane of `>>`
abbrev shr_lane : ℕ → ℕ → ℕ
shr_lane a k = a / 2 ^ k

-- the words of a block have its number
same_block : (block word : ℕ) → block % 16 ≡ 0 → eqb (word / 16) (block / 16) ≡ is_in_block block word
same_block block word aligned = grind (arith)

block_mask : (words : List ℕ) (block : ℕ) → length words ≡ 8 → block % 16 ≡ 0 → IsMaskOf (λ k. is_in_block block (get_or words k 0)) (mask_l (map (top 31) (zip2 eq_lane (zip2 shr_lane words (replicate 8 4)) (replicate 8 (block / 16)))) % 2 ^ 64)
block_mask words block long aligned =
    let whole : HasLanes words (λ k. get_or words k 0) = record { eight = long; lane = λ k lt. refl } in
    masked 31 (λ k. is_in_block block (get_or words k 0)) _ (combined eq_lane _ _ (combined shr_lane _ _ whole (splatted 4)) (splatted (block / 16))) (λ k lt. top_of_mask 31 (2 ^ 32 - 1) refl refl _ ∙ same_block block (get_or words k 0) aligned)

pub overflow_cast-result : goal.overflow_cast-result
overflow_cast-result c = record { fits = (block_mask c.args.words.now c.args.block c.told-words c.requires).few }

pub returns : goal.returns
returns c = (block_mask c.args.words.now c.args.block c.told-words c.requires).bits
