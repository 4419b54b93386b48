use Rattle.std.proofs.Common.{subst}
use Rattle.std.specs.Prelude.{OnOk}
use Rattle.brd_spots.specs.declared.spots.Margin.{Margin}
use Rattle.brd_spots.specs.Spots.{IsKnown}
use Rattle.brd_lazy.specs.Finds.{with_finds}
use Rattle.brd_lazy.proofs.FindLemmas.{one-is}
use Rattle.brd_lazy.proofs.visit.note_one.Goals as goal

pub returns-clause-known : goal.returns-clause-known
returns-clause-known c = λ p there here is.
    let rest : Margin = record { left = c.spent.result; last = c.stepper.result } in
    subst (λ q. OnOk c.note.result (IsKnown (with_finds c.args.spots.now c.note.new.finds.items) q))
    (one-is p c.args.event c.args.board.now c.args.margin rest here is c.spent.ensures c.stepper.ensures)
    (c.note.ensures.known p there is)
