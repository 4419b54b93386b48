use Rattle.std.proofs.Common.{List, ap, ◌∙◌}
use Rattle.brd_places.specs.declared.entry.Entry.{Entry}
use Rattle.brd_places.specs.Places.{board_at, places_of}
use Rattle.brd_places.proofs.ModelLemmas.{place_board}
use Rattle.brd_places.proofs.places.Places.board.Goals as goal

pub returns : goal.returns
returns c = λ place is.
    place_board c.self.inside.start c.in_ok-board.board c.self.inside.entries.items c.args.self.now c.args.i place c.self.view_is is
    (c.in_ok-board.ensures
    ∙ ap (λ (es : List Entry). board_at c.self.inside.start (places_of c.self.inside.start es) c.args.i) c.as_slice.ensures.value)
