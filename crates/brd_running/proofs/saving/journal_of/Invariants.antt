-- the events so far
use Rattle.std.proofs.Common.{◌≡◌, take}
use Rattle.brd_journal.specs.Journal.{most_runs}
use Rattle.brd_running.proofs.saving.journal_of.Given as goal

abbrev pub invariant-loop-event : goal.invariant-loop-event
invariant-loop-event l = record {
  events : l.journal.events ≡ take l.event-index l.events;
  order : l.journal.order ≡ l.fn.order;
  limit : l.journal.limit ≡ most_runs;
}
