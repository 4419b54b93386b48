use Rattle.std.proofs.Common.{ap, ◌∙◌, sym, get_or, ◌++◌, rules}
use Rattle.std.specs.Prelude.{pos, ℤ}
use Rattle.std.specs.Int.{w64, w128}
use mir.Val.{SFits}
use Rattle.std.proofs.lemmas.Int.{to_z-of_z}
use Rattle.std.proofs.lemmas.Result.{err_from_is_err_and}
use Rattle.brd_asm.specs.Values.{within}
use Rattle.brd_asm.specs.Meaning.{least_of, greatest_of, bytes_of, data_of}
use Rattle.brd_asm.proofs.OutputLemmas.{data_more, data_fails}
use Rattle.brd_asm.proofs.output.data_of.Goals as goal

pub loop-value-preserved : goal.loop-value-preserved
loop-value-preserved c =
    let fits : SFits w128 (get_or c.args.values.now c.loop-value.value-index (pos 0)) = search rules in
    let same = to_z-of_z w128 (get_or c.args.values.now c.loop-value.value-index (pos 0)) fits in
    let value_fits : SFits w64 c.in_ok-value.value = search rules in
    data_more c.args.order c.args.line c.args.width c.args.values.now c.loop-value.value-index c.in_ok-value.value c.loop-value.data c.put_value.new.output (data_of c.args.order c.args.line c.args.width c.args.values.now) c.loop-value-test.true
    (ap (λ (v : ℤ). within c.args.line (least_of c.args.width) (greatest_of c.args.width) v) (sym same) ∙ c.in_ok-value.ensures)
    (c.in_ok-put_value.ensures ∙ ap (λ (v : ℤ). c.loop-value.data ++ bytes_of c.args.order c.args.width v) (to_z-of_z w64 c.in_ok-value.value value_fits)) c.loop-value.invariant

pub returns-in_err-value : goal.returns-in_err-value
returns-in_err-value c =
    let fits : SFits w128 (get_or c.args.values.now c.loop-value.value-index (pos 0)) = search rules in
    let same = to_z-of_z w128 (get_or c.args.values.now c.loop-value.value-index (pos 0)) fits in
    let p = err_from_is_err_and c.from_residual.result c.from_residual.ensures.1 in
    rw (p.1, p.2) (data_fails c.args.order c.args.line c.args.width c.args.values.now c.loop-value.value-index c.in_err-value.field-0.0 c.loop-value.data (data_of c.args.order c.args.line c.args.width c.args.values.now) c.loop-value-test.true (rw same at c.in_err-value.ensures) c.loop-value.invariant)
