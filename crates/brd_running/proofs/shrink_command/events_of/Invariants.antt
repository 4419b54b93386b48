-- the events so far
use Rattle.std.proofs.Common.{◌≡◌, ◌-◌, length, take}
use Rattle.brd_running.proofs.shrink_command.events_of.Given as goal

abbrev pub invariant-events : goal.invariant-events
invariant-events l = l.events.items ≡ take (length l.events.items) l.journal.events

abbrev pub decreases-events : goal.decreases-events
decreases-events l = length l.journal.events - length l.events.items
