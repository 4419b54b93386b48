use Rattle.brd_timers.proofs.TimesLemmas.{cyclic-due}
use Rattle.brd_timers.proofs.laws.a_cyclic_handler_is_due_at_its_times.Goals as goal

pub returns-clause-times : goal.returns-clause-times
returns-clause-times c = cyclic-due
