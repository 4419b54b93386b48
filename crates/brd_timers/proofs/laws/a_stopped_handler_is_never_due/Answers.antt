use Rattle.brd_timers.proofs.TimesLemmas.{never-due}
use Rattle.brd_timers.proofs.laws.a_stopped_handler_is_never_due.Goals as goal

pub returns-clause-stopped : goal.returns-clause-stopped
returns-clause-stopped c = never-due
