use Rattle.std.proofs.Common.{◌∙◌, ap}
use Rattle.brd_board.specs.Board.{BoardState, dispatched_board}
use Rattle.brd_board.proofs.LinkLemmas.{board-dispatched}
use Rattle.brd_board.proofs.board.Board.dispatch.Goals as goal

pub returns : goal.returns
returns c =
    let b : BoardState = record { kernel = c.self.inside.kernel; memory = c.self.inside.ram; links = c.self.inside.links; faults = c.self.inside.faults.items } in
    board-dispatched b c.dispatch-changed.new.self c.end_links.new.links c.dispatch-changed.result c.dispatch-changed.ensures.is c.end_links.ensures c.dispatch-changed.ensures.changed
    ∙ ap dispatched_board c.self.view_is
