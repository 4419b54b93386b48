use Rattle.std.proofs.Common.{◌≡◌, ◌∙◌, arith}
use Rattle.std.specs.Prelude.{slice_get, Some}
use Rattle.brd_places.proofs.StepLemmas.{came_earlier, came_other}
use Rattle.brd_places.proofs.kept.+made.Goals as goal
use Rattle.brd_places.proofs.kept.+made.Goals.{then-parent-i+in_ok-board, else-parent-i+in_ok-board-2}

pub from_snapshot-requires : goal.from_snapshot-requires
from_snapshot-requires t c = record { fits = (c.in-Some-snapshot_at.ensures c.args.start.now c.args.entries.now c.requires).fits }

pub returns : goal.returns
returns t c =
    let has : Some c.in-Some.entry ≡ slice_get c.args.entries.now c.args.i = cc c.in-Some.ensures in
    elim c.if-parent-i.branch [
      | then-parent-i+in_ok-board w ↦
          came_earlier c.args.start.now c.if-parent-i.board c.repeat.new.self c.args.entries.now c.args.i c.in-Some.entry has
          (omega (arith, w.if-parent-i.true)) (w.board-is ∙ w.in_ok-board.ensures) c.repeat.ensures
      | else-parent-i+in_ok-board-2 w ↦
          came_other c.args.start.now c.if-parent-i.board c.repeat.new.self c.args.entries.now c.args.i c.in-Some.entry has
          (omega (arith, w.if-parent-i.false)) (w.board-is ∙ w.in_ok-board-2.ensures) c.repeat.ensures
    ]
