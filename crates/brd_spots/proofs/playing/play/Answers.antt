use Rattle.std.proofs.Common.{refl, sym, ap, ◌∙◌}
use Rattle.std.specs.Prelude.{not}
use Rattle.brd_board.specs.Board.{Happened}
use Rattle.brd_spots.specs.Spots.{spot_of}
use Rattle.brd_spots.proofs.PlayLemmas.{done-nothing, played-so}
use Rattle.brd_spots.proofs.playing.play.Goals as goal

pub returns : goal.returns
returns c =
    played-so c.args.among.now (spot_of c.args.board.now c.args.margin) c.args.event c.event_apart.new.self
    c.spent-left.result c.stepper.result (c.is_among.ensures c.if-not-is_among.false)
    (sym c.affords.ensures ∙ c.if-not-affords.false)
    (done-nothing c.args.board.now c.args.board.now c.args.event
    (record { board = c.event_apart.new.self; report = c.event_apart.result }) c.did_nothing.result
    c.event_apart.ensures refl c.did_nothing.ensures ∙ ap not c.if-did_nothing.false)
    (ap (λ (done : Happened). done.board) c.event_apart.ensures) c.spent-left.ensures c.stepper.ensures
