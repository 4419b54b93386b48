-- The board has played the first events, as many as it says.
use Rattle.std.proofs.Common.{◌-◌, length}
use Rattle.brd_journal.specs.Playing.{IsPlayed}
use Rattle.brd_running.proofs.progress.replay.Given as goal

abbrev pub invariant-loop-playback : goal.invariant-loop-playback
invariant-loop-playback g l = IsPlayed l.fn.board l.journal.events l.playback

abbrev pub decreases-loop-playback : goal.decreases-loop-playback
decreases-loop-playback g l = length l.journal.events - l.playback.at
