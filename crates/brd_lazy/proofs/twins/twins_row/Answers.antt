use Rattle.std.proofs.Common.{All, List, sym, ap, subst, ◌∙◌, Vec, Global}
use Rattle.std.specs.Prelude.{IfSome}
use Rattle.std.proofs.lemmas.List.Elements.{All-push}
use Rattle.brd_lazy.specs.declared.twins.Twin.{Twin}
use Rattle.brd_lazy.specs.Finds.{IsTwin}
use Rattle.brd_lazy.proofs.twins.twins_row.Goals as goal
use Rattle.brd_lazy.proofs.twins.twins_row.Goals.{in-Some+in_ok-push, in_default}

pub loop-at-preserved : goal.loop-at-preserved
loop-at-preserved c = elim c.match-branch-2.branch [
  | in-Some+in_ok-push w ↦
      subst (λ (ts : List Twin). All (IsTwin c.args.spots.now c.args.finds.now) ts)
      (sym (ap (λ (v : Vec Twin Global). v.items) w.twins-is ∙ w.in_ok-push.ensures.items))
      (All-push (IsTwin c.args.spots.now c.args.finds.now) c.loop-at.twins.items w.in-Some.twin c.loop-at.invariant
      (subst (λ twin. IfSome twin (IsTwin c.args.spots.now c.args.finds.now)) w.in-Some.is c.in_ok-twin.ensures))
  | in_default w ↦
      subst (λ (ts : List Twin). All (IsTwin c.args.spots.now c.args.finds.now) ts) (sym (ap (λ (v : Vec Twin Global). v.items) w.twins-is))
      c.loop-at.invariant
]
