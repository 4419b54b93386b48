use Rattle.std.proofs.Common.{arith, ◌≤◌}
use Rattle.std.proofs.lemmas.Result.{err_from_is_err_and}
use Rattle.brd_journal.specs.Runs.{most_count}
use Rattle.brd_journal.proofs.KeptLemmas.{kept_few, kept_more, appended_ok, appended_fails}
use Rattle.brd_journal.proofs.journal.Journal.push_run.Goals as goal

pub add-requires-clause-few : goal.add-requires-clause-few
add-requires-clause-few c = omega (arith, kept_few c.self.inside.limit c.self.inside.runs c.self.inside.len c.self.invariant)

pub returns-in_err-add-clause-appended : goal.returns-in_err-add-clause-appended
returns-in_err-add-clause-appended c =
    let small : c.args.count ≤ most_count = omega arith in
    let p = err_from_is_err_and c.from_residual.result c.from_residual.ensures.1 in
    rw (p.1, p.2, ← c.self.view_is) (appended_fails c.self.inside.limit c.self.inside.order c.self.inside.runs c.args.event c.args.count _ c.self.invariant.cut small c.in_err-add.ensures.added)

pub overflow_add-self : goal.overflow_add-self
overflow_add-self c = omega (arith, kept_few c.self.inside.limit c.self.inside.runs c.self.inside.len c.self.invariant)

pub invariant_of-self-2 : goal.invariant_of-self-2
invariant_of-self-2 c =
    let small : c.args.count ≤ most_count = omega arith in
    kept_more c.self.inside.limit c.self.inside.runs c.add.new.self c.self.inside.len c.args.event c.args.count c.self.invariant small c.in_ok-add.ensures.added

pub returns-clause-appended : goal.returns-clause-appended
returns-clause-appended c =
    let small : c.args.count ≤ most_count = omega arith in
    rw (← c.self.view_is) (appended_ok c.self.inside.limit c.self.inside.order c.self.inside.runs c.add.new.self c.args.event c.args.count c.self.invariant.cut small c.in_ok-add.ensures.added)
