use Rattle.std.proofs.Common.{ℕ, ◌+◌, ◌-◌, ◌%◌, ◌^◌, ◌≤◌, List, cond, leb, map, length, replicate, refl}
use lib.Lanes.{chunk, zip2, mask_l, top}
use Rattle.brd_lanes.proofs.LaneLemmas.{IsMaskOf, loaded, splatted, combined, masked, top_of_mask, least_from_mask}
use Rattle.brd_lanes.specs.Scan.{is_due_at}
use Rattle.brd_lanes.proofs.eight.first_due.Goals as goal

abbrev all_ones : ℕ
all_ones = 2 ^ 64 - 1

-- one lane of `simd_le`
abbrev due_lane : ℕ → ℕ → ℕ
due_lane due now = cond (leb due now) all_ones 0

due_mask : (dues : List ℕ) (now at : ℕ) → at + 8 ≤ length dues → IsMaskOf (λ k. is_due_at dues now (at + k)) (mask_l (map (top 63) (zip2 due_lane (chunk at 8 dues) (replicate 8 now))) % 2 ^ 64)
due_mask dues now at room = masked 63 (λ k. is_due_at dues now (at + k)) _ (combined due_lane _ _ (loaded dues at room) (splatted now)) (λ k lt. top_of_mask 63 all_ones refl refl (is_due_at dues now (at + k)))

pub first_lane-requires-clause-eight : goal.first_lane-requires-clause-eight
first_lane-requires-clause-eight c = (due_mask c.args.dues.now c.args.now c.args.at c.requires).few

pub returns : goal.returns
returns c = least_from_mask (is_due_at c.args.dues.now c.args.now) c.args.at _ (due_mask c.args.dues.now c.args.now c.args.at c.requires) c.first_lane.result c.first_lane.ensures
