use Rattle.std.proofs.Common.{refl, ap, ◌∙◌}
use Rattle.std.specs.Prelude.{not}
use Rattle.brd_board.specs.declared.event.Event.TheVariants.{Step}
use Rattle.brd_spots.proofs.PlayLemmas.{done-nothing}
use Rattle.brd_lazy.proofs.visit.does_nothing.Goals as goal

pub returns : goal.returns
returns c = λ nothing.
    done-nothing c.args.board.now c.args.board.now (Step c.args.cpu) (record { board = c.event_apart.new.self; report = c.event_apart.result })
    c.did_nothing.result c.event_apart.ensures refl c.did_nothing.ensures ∙ ap not nothing
