use Rattle.std.proofs.Common.{◌+◌, ◌≤◌, List, sym, subst, ◌∙◌, arith}
use Rattle.brd_stub.specs.declared.points.Point.{Point}
use Rattle.brd_stub.specs.Points.{places, weight, taken, AreSet}
use Rattle.brd_stub.proofs.SetLemmas.{push-set}
use Rattle.brd_stub.proofs.points.Points.set.Goals as goal

pub invariant_of-self-2 : goal.invariant_of-self-2
invariant_of-self-2 c =
    subst (λ (points : List Point). AreSet points) (sym c.in_ok-push.ensures.items)
    (push-set c.self.inside.points.items c.args.point c.self.invariant (sym c.fits.ensures ∙ c.if-not-fits.false)
    (subst (λ (points : List Point). taken c.args.point.kind points + weight c.args.point ≤ places c.args.point.kind)
    c.deref-2.ensures.value
    (omega (arith, c.taken.ensures, c.weight.ensures, c.places.ensures, c.if-taken-weight.false))))
