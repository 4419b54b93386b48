use Rattle.brd_timers.proofs.TimesLemmas.{alarm-due}
use Rattle.brd_timers.proofs.laws.an_alarm_handler_is_due_once.Goals as goal

pub returns : goal.returns
returns c = alarm-due
