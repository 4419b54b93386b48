use Rattle.brd_timers.proofs.TimesLemmas.{next-is}
use Rattle.brd_timers.proofs.laws.the_next_time_is_the_first_after_now.Goals as goal

pub returns : goal.returns
returns c = next-is
