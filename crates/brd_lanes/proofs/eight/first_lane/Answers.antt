use Rattle.std.proofs.Common.{◌≡◌, ◌+◌, ◌-◌, eqb, ap, ◌∙◌, arith, w64}
use Rattle.std.specs.Int.{bit_at, trailing_zeros}
use Rattle.brd_lanes.proofs.LaneLemmas.{lowest}
use Rattle.brd_lanes.proofs.eight.first_lane.Goals as goal

pub overflow_add-result : goal.overflow_add-result
overflow_add-result c =
    let low = lowest c.args.mask (omega arith) c.requires.eight in
    omega arith

pub returns-else-mask-eq0 : goal.returns-else-mask-eq0
returns-else-mask-eq0 c =
    let at = c.args.at in
    let low = lowest c.args.mask (omega arith) c.requires.eight in
    let back : (at + trailing_zeros w64 c.args.mask) - at ≡ trailing_zeros w64 c.args.mask = omega arith in
    record {
      started = omega arith;
      within = omega arith;
      holds = ap (λ i. eqb (bit_at c.args.mask i) 1) back ∙ ap (λ b. eqb b 1) low.set;
      none_before = λ k from to. ap (λ b. eqb b 1) (low.clear (k - at) (omega arith));
    }
