use Rattle.std.proofs.Common.{◌∙◌, ◌≡◌, ◌<◌, ◌≤◌, length, sym, arith}
use Rattle.std.proofs.lemmas.Bool.{eqb-false, eqb-true}
use Rattle.brd_gdb.proofs.OutputLemmas.{at_first, at_last, one_part_more}
use Rattle.brd_gdb.proofs.packet.put_output.Goals as goal

pub loop-left-init : goal.loop-left-init
loop-left-init c = at_first c.args.text.now c.args.out.now.items

pub loop-left-preserved : goal.loop-left-preserved
loop-left-preserved c =
    let left = eqb-false (length c.loop-left.left.now) 0 (sym c.is_empty.ensures ∙ c.loop-left-test.true) in
    let some : 0 < length c.split_at.result.0.now = omega (arith, left, c.split_at.ensures.front_len, c.min.ensures) in
    let few : length c.split_at.result.0.now ≤ 8191 = omega (arith, c.split_at.ensures.front_len, c.min.ensures) in
    one_part_more c.args.text.now c.loop-left.left.now c.args.out.now.items c.loop-left.out.items c.put_shown.new.out.items
    c.split_at.result.0.now c.split_at.result.1.now c.loop-left.invariant c.split_at.ensures.by_index.0 some few
    c.in_ok-put_shown.ensures

pub returns : goal.returns
returns c =
    at_last c.args.text.now c.loop-left.left.now c.args.out.now.items c.loop-left.out.items c.loop-left.invariant
    (eqb-true (length c.loop-left.left.now) 0 (sym c.is_empty.ensures ∙ c.loop-left-test.false))
