use Rattle.brd_happening.proofs.TickLemmas.{a-tick-counts, a-line-rings, a-timer-goes-on, a-device-stays, plain-stays, over-stays}
use Rattle.brd_happening.proofs.laws.a_tick_rings_who_is_due.Goals as goal

pub returns-clause-count : goal.returns-clause-count
returns-clause-count c = a-tick-counts

pub returns-clause-line : goal.returns-clause-line
returns-clause-line c = a-line-rings

pub returns-clause-timer : goal.returns-clause-timer
returns-clause-timer c = a-timer-goes-on

pub returns-clause-device : goal.returns-clause-device
returns-clause-device c = a-device-stays

pub returns-clause-plain : goal.returns-clause-plain
returns-clause-plain c = plain-stays

pub returns-clause-last : goal.returns-clause-last
returns-clause-last c = over-stays
