-- What was passed isn't raised at this event.
use Rattle.std.proofs.Common.{◌≡◌, drop}
use Rattle.brd_schedule.specs.Schedule.{raised}
use Rattle.brd_schedule.proofs.making.raised_line.Given as goal

abbrev pub invariant-loop-raise : goal.invariant-loop-raise
invariant-loop-raise l = raised (drop l.raise-index l.raises) l.number ≡ raised l.raises l.number
