-- n events so far, which are those of the plan; the byte order; how many of them are steps, and who takes the next one.
use Rattle.std.proofs.Common.{◌≡◌, ◌≤◌, length}
use Rattle.brd_journal.specs.Journal.{most_runs}
use Rattle.brd_schedule.specs.Schedule.{ArePlanned, made, steps_among}
use Rattle.brd_schedule.specs.Steps.{IsBefore}
use Rattle.brd_schedule.proofs.making.make.Given as goal

abbrev pub invariant-loop-before : goal.invariant-loop-before
invariant-loop-before l = record {
  len : length l.journal.events ≡ l.before;
  planned : ArePlanned l.plan 1 l.journal.events;
  order : l.journal.order ≡ l.fn.order;
  limit : l.journal.limit ≡ most_runs;
  exact : l.journal.events ≡ made l.plan l.before;
  steps : l.steps ≡ steps_among l.plan l.before;
  few : l.steps ≤ l.before;
  chooser : IsBefore l.plan l.steps l.chooser;
}
