use Rattle.std.proofs.Common.{◌≡◌, ◌+◌, refl, ap, subst, ◌∙◌, arith}
use Rattle.std.specs.Prelude.{suc, ◌-◌, OnOk}
use Rattle.brd_spots.specs.declared.spots.Margin.{Margin}
use Rattle.brd_spots.specs.Spots.{IsKnown}
use Rattle.brd_lazy.specs.Blocks.{after_steps}
use Rattle.brd_lazy.specs.Finds.{with_finds}
use Rattle.brd_lazy.proofs.FindLemmas.{block-is}
use Rattle.brd_lazy.proofs.visit.note_block.Goals as goal

pub returns-clause-known : goal.returns-clause-known
returns-clause-known c = λ p there here is.
    let one = c.spent-one.result in
    let rest : Margin = record { left = record one { events = c.args.margin.left.events - c.args.count - 1 }; last = c.stepper.result } in
    let more : suc c.args.count ≡ c.args.count + 1 = omega arith in
    subst (λ q. OnOk c.note.result (IsKnown (with_finds c.args.spots.now c.note.new.finds.items) q))
    (block-is p c.args.cpu c.args.count c.args.board.now c.args.margin rest one here is c.spent-one.ensures refl c.stepper.ensures)
    (c.note.ensures.known p there (is ∙ ap (after_steps p.board c.args.cpu) more))
