use Rattle.std.proofs.Common.{◌≡◌, arith}
use Rattle.std.specs.Prelude.{slice_get, Some}
use Rattle.brd_places.proofs.StepLemmas.{came_earlier, came_other}
use Rattle.brd_places.proofs.kept.+put_back.Goals as goal

pub restore-requires-clause-fits : goal.restore-requires-clause-fits
restore-requires-clause-fits t c = (c.in-Some-snapshot_at.ensures c.args.start.now c.args.entries.now c.requires.kept).fits

pub returns-then-parent-i-clause-ok : goal.returns-then-parent-i-clause-ok
returns-then-parent-i-clause-ok t c =
    let has : Some c.in-Some.entry ≡ slice_get c.args.entries.now c.args.i = cc c.in-Some.ensures in
    came_other c.args.start.now c.copy_from-then-parent-i.new.self c.repeat.new.self c.args.entries.now c.args.i c.in-Some.entry has (omega arith)
    c.in_ok-copy_from-2.ensures.ok c.repeat.ensures

pub returns-clause-ok : goal.returns-clause-ok
returns-clause-ok t c =
    let has : Some c.in-Some.entry ≡ slice_get c.args.entries.now c.args.i = cc c.in-Some.ensures in
    came_earlier c.args.start.now c.put_back.new.board c.repeat-2.new.self c.args.entries.now c.args.i c.in-Some.entry has (omega arith)
    c.in_ok-put_back.ensures.ok c.repeat-2.ensures
