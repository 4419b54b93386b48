use Rattle.std.proofs.Common.{◌≡◌, List, sym, subst}
use Rattle.std.specs.Prelude.{slice_get, Some, IfOk}
use Rattle.brd_explore.specs.Schedules.{Place}
use Rattle.brd_spots.proofs.SpotLemmas.{parts}
use Rattle.brd_spots.proofs.spots.Spots.board.Goals as goal

pub returns : goal.returns
returns c = λ p is.
    let it = parts c.self.inside.boards c.self.inside.margins.items c.args.i p
    (subst (λ (ps : List Place). slice_get ps c.args.i ≡ Some p) (sym c.self.view_is) is) in
    subst (λ (q : Place). IfOk c.board.result (λ board. board ≡ q.board)) it.is
    (c.board.ensures it.place it.board_there)
