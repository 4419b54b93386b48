use Rattle.std.proofs.Common.{◌≡◌, ℕ, ◌+◌, ◌-◌, ◌%◌, ◌^◌, ◌≤◌, Bool, true, false, not, List, cond, eqb, map, length, replicate, get_or, refl}
use lib.Bits.{bit_and, bit_or}
use lib.Lanes.{chunk, zip2, mask_l, top}
use Rattle.brd_lanes.proofs.LaneLemmas.{IsMaskOf, loaded, splatted, combined, eq_lane, ne_lane, masked, least_from_mask}
use Rattle.brd_lanes.specs.Scan.{is_satisfied, is_satisfied_at}
use Rattle.brd_lanes.proofs.eight.first_satisfied.Goals as goal

-- a lane of a mask
abbrev ones_if : Bool → ℕ
ones_if b = cond b (2 ^ 32 - 1) 0

-- one lane of the result: all bits in mode 0, and some bit in the others
chosen : (mode0 all none : Bool)
    → top 31 (bit_or (bit_and (ones_if mode0) (ones_if all)) (bit_and (ones_if (not mode0)) (ones_if (not none)))) ≡ cond mode0 all (not none)
chosen true true true = refl
chosen true true false = refl
chosen true false true = refl
chosen true false false = refl
chosen false true true = refl
chosen false true false = refl
chosen false false true = refl
chosen false false false = refl

lane_is : (current mode wanted : ℕ)
    → top 31 (bit_or (bit_and (eq_lane mode 0) (eq_lane (bit_and current wanted) wanted)) (bit_and (ne_lane mode 0) (ne_lane (bit_and current wanted) 0))) ≡ is_satisfied current mode wanted
unfolding is_satisfied
lane_is current mode wanted = chosen (eqb mode 0) (eqb (bit_and current wanted) wanted) (eqb (bit_and current wanted) 0)

-- the vectors of the code, and the mask that they end in
abbrev shared_lanes : List ℕ → ℕ → List ℕ
shared_lanes wanted current = zip2 bit_and (replicate 8 current) wanted

abbrev all_set_lanes : List ℕ → List ℕ → ℕ → List ℕ
all_set_lanes wanted modes current =
    zip2 bit_and (zip2 eq_lane modes (replicate 8 0)) (zip2 eq_lane (shared_lanes wanted current) wanted)

abbrev some_set_lanes : List ℕ → List ℕ → ℕ → List ℕ
some_set_lanes wanted modes current =
    zip2 bit_and (zip2 ne_lane modes (replicate 8 0)) (zip2 ne_lane (shared_lanes wanted current) (replicate 8 0))

abbrev mask_of : List ℕ → List ℕ → ℕ → ℕ
mask_of wanted modes current =
    mask_l (map (top 31) (zip2 bit_or (all_set_lanes wanted modes current) (some_set_lanes wanted modes current))) % 2 ^ 64

satisfied_mask : (patterns modes : List ℕ) (current at : ℕ) → at + 8 ≤ length patterns → at + 8 ≤ length modes
    → IsMaskOf (λ k. is_satisfied_at patterns modes current (at + k)) (mask_of (chunk at 8 patterns) (chunk at 8 modes) current)
satisfied_mask patterns modes current at room more_room =
    let wanted = loaded patterns at room in
    let mode = loaded modes at more_room in
    let shared = combined bit_and _ _ (splatted current) wanted in
    let all_set = combined bit_and _ _ (combined eq_lane _ _ mode (splatted 0)) (combined eq_lane _ _ shared wanted) in
    let some_set = combined bit_and _ _ (combined ne_lane _ _ mode (splatted 0)) (combined ne_lane _ _ shared (splatted 0)) in
    masked 31 (λ k. is_satisfied_at patterns modes current (at + k)) _ (combined bit_or _ _ all_set some_set) (λ k lt. lane_is current (get_or modes (at + k) 0) (get_or patterns (at + k) 0))

pub first_lane-requires-clause-eight : goal.first_lane-requires-clause-eight
first_lane-requires-clause-eight c = (satisfied_mask c.args.pats.now c.args.or_modes.now c.args.current c.args.at c.requires.patterns c.requires.modes).few

pub returns : goal.returns
returns c = least_from_mask (is_satisfied_at c.args.pats.now c.args.or_modes.now c.args.current) c.args.at _ (satisfied_mask c.args.pats.now c.args.or_modes.now c.args.current c.args.at c.requires.patterns c.requires.modes) c.first_lane.result c.first_lane.ensures
