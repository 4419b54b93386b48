use Rattle.std.proofs.Common.{◌<◌, ◌^◌, rules}
use Rattle.std.specs.Prelude.{slice_index_or}
use Rattle.brd_tasks.proofs.MarkLemmas.{word-first}
use Rattle.brd_tasks.proofs.marks.first_mark.Goals as goal

pub returns-then-word-ne0-clause-some : goal.returns-then-word-ne0-clause-some
returns-then-word-ne0-clause-some c =
    let small : slice_index_or c.args.marks.now c.place.result 0 < 2 ^ 64 = search rules in
    let some : 0 < slice_index_or c.args.marks.now c.place.result 0 = search rules in
    word-first c.args.marks.now c.args.cpu c.loop-i.i c.place.result c.place.ensures c.loop-i-test.true some small c.loop-i.invariant
