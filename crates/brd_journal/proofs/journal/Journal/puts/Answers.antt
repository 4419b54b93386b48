use Rattle.std.proofs.Common.{arith, ◌≤◌, refl}
use Rattle.brd_journal.specs.Runs.{most_count}
use Rattle.brd_journal.proofs.KeptLemmas.{kept_few, kept_more, appended_ok}
use Rattle.brd_journal.proofs.journal.Journal.puts.Goals as goal

pub overflow_add-self : goal.overflow_add-self
overflow_add-self c = omega (arith, kept_few c.self.inside.limit c.self.inside.runs c.self.inside.len c.self.invariant)

pub invariant_of-self-2 : goal.invariant_of-self-2
invariant_of-self-2 c =
    let small : c.args.count ≤ most_count = omega arith in
    kept_more c.self.inside.limit c.self.inside.runs c.puts.new.self c.self.inside.len c.args.event c.args.count c.self.invariant small (c.if-not-puts.ensures.added refl)

pub returns-clause-appended : goal.returns-clause-appended
returns-clause-appended c = λ did.
    let small : c.args.count ≤ most_count = omega arith in
    rw (← c.self.view_is) (appended_ok c.self.inside.limit c.self.inside.order c.self.inside.runs c.puts.new.self c.args.event c.args.count c.self.invariant.cut small (c.if-not-puts.ensures.added refl))
