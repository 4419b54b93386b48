-- The steps that are done lead from the first machine to this one.
use Rattle.std.proofs.Common.{◌≡◌, ◌≤◌}
use Rattle.std.specs.Prelude.{Some}
use Rattle.brd_exec.specs.Went.{went}
use Rattle.brd_fast.proofs.steps.go.Given as goal

abbrev pub invariant-passes : goal.invariant-passes
invariant-passes l = record {
  few : l.done ≤ l.count;
  leads : went l.cpu l.done (record { state = l.fn.context; memory = l.fn.ram; links = l.fn.links })
      ≡ Some (record { state = l.context; memory = l.ram; links = l.links });
}
