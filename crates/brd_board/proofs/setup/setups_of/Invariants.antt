-- What there is of the tasks so far, with what the others come to, is what all of them come to.
use Rattle.std.proofs.Common.{◌≡◌, drop}
use Rattle.std.specs.Prelude.{All}
use Rattle.brd_tasks.specs.Ready.{IsSetup}
use Rattle.brd_mem.specs.Memory.{size_of}
use Rattle.brd_board.specs.Setup.{setups_from, setups_of}
use Rattle.brd_board.proofs.SetupLemmas.{behind}
use Rattle.brd_board.proofs.setup.setups_of.Given as goal

abbrev pub invariant-loop-task : goal.invariant-loop-task
invariant-loop-task l = record {
  is : behind l.setups (setups_from (size_of l.ram) l.symbols l.free (drop l.task-index l.tasks)) ≡ setups_of (size_of l.ram) l.symbols l.tasks;
  well : All IsSetup l.setups;
}
