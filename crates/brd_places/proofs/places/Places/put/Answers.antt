use Rattle.std.proofs.Common.{◌≡◌, List, subst}
use Rattle.std.specs.Prelude.{OnOk}
use Rattle.brd_places.specs.declared.entry.Entry.{Entry}
use Rattle.brd_places.specs.Places.{board_at, places_of}
use Rattle.brd_places.proofs.ModelLemmas.{place_put}
use Rattle.brd_places.proofs.places.Places.put.Goals as goal

pub returns : goal.returns
returns c = λ place is.
    place_put c.self.inside.start c.put_in.new.board c.self.inside.entries.items c.args.self.now c.args.i place c.put_in.result
    c.self.view_is is
    (subst (λ (es : List Entry). OnOk c.put_in.result (c.put_in.new.board ≡ board_at c.self.inside.start (places_of c.self.inside.start es) c.args.i))
    c.as_slice.ensures.value c.put_in.ensures)
