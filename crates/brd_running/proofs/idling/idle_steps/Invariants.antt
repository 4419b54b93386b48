-- how many events are left
use Rattle.std.proofs.Common.{◌-◌, length}
use Rattle.brd_running.proofs.idling.idle_steps.Given as goal

abbrev pub decreases-loop-playback : goal.decreases-loop-playback
decreases-loop-playback l = length l.journal.events - l.playback.at
