use Rattle.std.proofs.Common.{List, ap, ◌∙◌}
use Rattle.brd_places.specs.declared.entry.Entry.{Entry}
use Rattle.brd_places.specs.Places.{board_at, places_of}
use Rattle.brd_places.proofs.ModelLemmas.{way_to}
use Rattle.brd_places.proofs.places.Places.path.Goals as goal

pub returns : goal.returns
returns c = λ first last at_first at_last.
    way_to c.self.inside.start c.self.inside.entries.items c.args.self.now c.args.i first last c.in_ok-events.events c.self.view_is
    c.self.invariant.0
    (c.in_ok-events.ensures c.self.inside.start
    ∙ ap (λ (es : List Entry). board_at c.self.inside.start (places_of c.self.inside.start es) c.args.i) c.as_slice.ensures.value)
    at_first at_last
