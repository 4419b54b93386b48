-- The count so far and that of the rest are the whole.
use Rattle.std.specs.Prelude.{◌≡◌, ◌≤◌, drop, max}
use Rattle.brd_tasks.specs.Tasks.{ids_of}
use Rattle.brd_tasks.proofs.making.ids_of.Given as goal

abbrev pub invariant-loop-setup : goal.invariant-loop-setup
invariant-loop-setup l = record {
  all : max l.count (ids_of (drop l.setup-index l.setups)) ≡ ids_of l.setups;
  few : l.count ≤ 65536;
}
