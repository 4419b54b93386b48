use Rattle.std.proofs.Common.{◌≡◌, None, refl, sym, subst, ◌∙◌}
use Rattle.std.specs.Prelude.{All}
use Rattle.std.proofs.lemmas.List.{take_all}
use Rattle.brd_objects.proofs.RowLemmas.{one_more, not_some}
use Rattle.brd_objects.proofs.objects.are_empty.Goals as goal

pub loop-row-preserved : goal.loop-row-preserved
loop-row-preserved g c =
    one_more c.args.rows.now c.loop-row.row-index c.row-item.result c.loop-row-test.true c.loop-row.invariant
    (not_some c.row-item.result (sym c.is_some.ensures ∙ c.if-is_some.false)) c.row-item.is

pub returns : goal.returns
returns g c =
    (λ yes. subst (All (λ row. row ≡ None)) (take_all c.loop-row.row-index c.args.rows.now c.loop-row-test.false) c.loop-row.invariant, λ all. refl)
