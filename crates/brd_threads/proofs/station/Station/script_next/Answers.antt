use Rattle.std.proofs.Common.{ap, refl}
use Rattle.std.specs.Prelude.{Some}
use Rattle.brd_threads.proofs.station.Station.script_next.Goals as goal

pub returns-in_default : goal.returns-in_default
returns-in_default g c = rw (← c.in_default.ensures) (refl, refl)

pub returns-in-Ok : goal.returns-in-Ok
returns-in-Ok g c = rw (← c.in-Some.ensures) (ap Some c.in-Ok.ensures.report, c.in-Ok.ensures.ok, c.in-Ok.ensures.room)

pub returns-in-Err : goal.returns-in-Err
returns-in-Err g c = rw (← c.in-Some.ensures) (c.in-Err.ensures.err, c.in-Err.ensures.room)
