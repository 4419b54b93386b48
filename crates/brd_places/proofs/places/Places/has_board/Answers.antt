use Rattle.std.proofs.Common.{List, ap, ◌∙◌}
use Rattle.brd_places.specs.declared.entry.Entry.{Entry}
use Rattle.brd_places.specs.Places.{board_at, places_of}
use Rattle.brd_places.proofs.StepLemmas.{alike_place}
use Rattle.brd_places.proofs.ModelLemmas.{board_same}
use Rattle.brd_places.proofs.places.Places.has_board.Goals as goal

pub invariant_of-self-2 : goal.invariant_of-self-2
invariant_of-self-2 c = (
  c.self.invariant.0,
  alike_place c.self.inside.start c.put_back.new.board c.self.inside.entries.items c.args.i
      (c.in_ok-put_back.ensures.ok
      ∙ ap (λ (es : List Entry). board_at c.self.inside.start (places_of c.self.inside.start es) c.args.i) c.as_slice.ensures.value),
  c.self.invariant.2,
)

pub returns-clause-is : goal.returns-clause-is
returns-clause-is c = λ place there same.
    board_same c.self.inside.start c.put_back.new.board c.args.board.now c.self.inside.entries.items c.args.self.now c.args.i place
    c.same.result c.self.view_is there
    (c.in_ok-put_back.ensures.ok
    ∙ ap (λ (es : List Entry). board_at c.self.inside.start (places_of c.self.inside.start es) c.args.i) c.as_slice.ensures.value)
    c.same.ensures same
