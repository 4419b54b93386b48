use Rattle.std.proofs.Common.{List, sym, subst}
use Rattle.brd_stub.specs.declared.points.Point.{Point}
use Rattle.brd_stub.specs.Points.{AreSet}
use Rattle.brd_stub.proofs.SetLemmas.{without-set}
use Rattle.brd_stub.proofs.points.Points.clear.Goals as goal

pub invariant_of-self : goal.invariant_of-self
invariant_of-self c =
    subst (λ (points : List Point). AreSet points) (sym c.remove.ensures)
    (without-set c.self.inside.points.items c.args.point c.self.invariant)
