-- What those so far are.
use Rattle.std.specs.Prelude.{◌≡◌, take}
use Rattle.brd_running.specs.ExploreCommand.{endings_of}
use Rattle.brd_running.proofs.explore_command.endings_of.Given as goal

abbrev pub invariant-loop-each : goal.invariant-loop-each
invariant-loop-each l = l.endings ≡ endings_of (take l.each-index l.finals)
