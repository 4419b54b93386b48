use Rattle.brd_places.proofs.StepLemmas.{alike_place}
use Rattle.brd_places.proofs.kept.keep.Goals as goal

pub snapshot_of-requires : goal.snapshot_of-requires
snapshot_of-requires c = record { alike = alike_place c.args.start.now c.put_back.new.board c.args.entries.now c.args.i c.in_ok-put_back.ensures.ok }

pub returns-in_err-snapshot-clause-alike : goal.returns-in_err-snapshot-clause-alike
returns-in_err-snapshot-clause-alike c = alike_place c.args.start.now c.put_back.new.board c.args.entries.now c.args.i c.in_ok-put_back.ensures.ok

pub returns-in_err-push-clause-alike : goal.returns-in_err-push-clause-alike
returns-in_err-push-clause-alike c = alike_place c.args.start.now c.put_back.new.board c.args.entries.now c.args.i c.in_ok-put_back.ensures.ok

pub returns-clause-alike : goal.returns-clause-alike
returns-clause-alike c = alike_place c.args.start.now c.put_back.new.board c.args.entries.now c.args.i c.in_ok-put_back.ensures.ok
