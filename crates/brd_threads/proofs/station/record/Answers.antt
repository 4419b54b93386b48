use Rattle.std.proofs.Common.{replicate}
use Rattle.brd_journal.specs.Runs.{copies}
use Rattle.brd_threads.proofs.RoomLemmas.{room_of_ok, room_of_fault}
use Rattle.brd_threads.proofs.station.record.Goals as goal

pub returns-in-Ok-clause-room : goal.returns-in-Ok-clause-room
unfolding copies
returns-in-Ok-clause-room c = (room_of_ok c.args.journal.now c.push_run.new.self (replicate c.args.count c.args.event) c.in-Ok.ensures.appended).0

pub returns-in-Ok-clause-ok : goal.returns-in-Ok-clause-ok
unfolding copies
returns-in-Ok-clause-ok c = (room_of_ok c.args.journal.now c.push_run.new.self (replicate c.args.count c.args.event) c.in-Ok.ensures.appended).1

pub returns-in-Err : goal.returns-in-Err
unfolding copies
returns-in-Err c = record {
  room = rw c.fault_of.ensures (room_of_fault c.args.journal.now (replicate c.args.count c.args.event) c.in-Err.fault c.in-Err.ensures.appended);
  ok = tt;
  err = c.in-Err.ensures.err;
}
