use Rattle.std.proofs.Common.{◌≡◌, Contains, arith, inl, inr, rules, subst}
use Rattle.std.proofs.lemmas.Bool.{cases_lt}
use Rattle.brd_crew.proofs.crew.are_all.Goals as goal

pub loop-part-preserved : goal.loop-part-preserved
loop-part-preserved c = λ part below. elim (cases_lt part c.loop-part.part) [
  | inl before ↦ c.loop-part.invariant part before
  | inr not ↦
      let same : c.loop-part.part ≡ part = omega (arith, below, not) in
      subst (Contains c.args.done.now) same (c.is_among.ensures (search rules))
]
