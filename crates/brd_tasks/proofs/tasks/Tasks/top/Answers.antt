use Rattle.std.proofs.Common.{◌≡◌, ◌<◌, subst, rules}
use Rattle.std.specs.Prelude.{Some}
use Rattle.brd_tasks.specs.Ready.{IsConsistent}
use Rattle.brd_tasks.specs.Tasks.{top_of}
use Rattle.brd_tasks.proofs.Consistency.{top-past}
use Rattle.brd_tasks.proofs.ThereLemmas.{top-there}
use Rattle.brd_tasks.proofs.tasks.Tasks.top.Goals as goal

pub returns-then-cpu-gt8-clause-is : goal.returns-then-cpu-gt8-clause-is
returns-then-cpu-gt8-clause-is c =
    let past : 8 < c.args.cpu = search rules in
    top-past c.args.self.now c.args.cpu (subst IsConsistent c.self.view_is c.self.invariant) past

pub returns-clause-there : goal.returns-clause-there
returns-clause-there c =
    let first : top_of c.args.self.now c.args.cpu ≡ Some c.in_ok-first.field-0 = search rules in
    top-there c.args.self.now c.args.cpu (Some c.in_ok-first.field-0) (subst IsConsistent c.self.view_is c.self.invariant) first
