use Rattle.std.proofs.Common.{◌≡◌, sym, ◌∙◌, eqb}
use Rattle.std.specs.Cmp.Lexicographic.{pointwise}
use Rattle.brd_time.proofs.TimeLemmas.{same_dues}
use Rattle.brd_time.proofs.timeouts.Timeouts.same.Goals as goal

pub returns-then-self-other : goal.returns-then-self-other
returns-then-self-other c =
    same_dues c.args.self.now c.args.other.now c.self.inside.count c.other.inside.count c.self.inside.dues.items c.other.inside.dues.items c.eq.result
    (sym c.self.view_is) (sym c.other.view_is) c.if-self-other.true
    (c.eq.ensures ∙ (λ i. pointwise eqb (c.as_slice.ensures.value i) (c.as_slice-then-self-other.ensures.value i)))
