-- The parts so far are one, and the others are as all of them are.
use Rattle.std.proofs.Common.{All, IfOk, List}
use Rattle.brd_board.specs.declared.event.Event.{Event}
use Rattle.brd_explore.specs.Schedules.{Place}
use Rattle.brd_explore.specs.declared.wanted.Wanted.{Wanted}
use Rattle.brd_frames.specs.Lagging.{Sharing}
use Rattle.brd_lazy.specs.Finds.{PartSo}
use Rattle.brd_lazy.proofs.part.in_one.Given as goal

abbrev pub invariant-loop-part : goal.invariant-loop-part
invariant-loop-part l =
    (by : Sharing) (among : List Event) (wanted : Wanted) (spots : List Place) →
    All (λ part. IfOk part (PartSo by among wanted spots)) l.fn.parts.items →
    All (λ part. IfOk part (PartSo by among wanted spots)) l.part-iterator.rest.items × PartSo by among wanted spots l.one
