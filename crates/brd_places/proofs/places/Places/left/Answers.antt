use Rattle.std.proofs.Common.{◌≡◌, List, sym, subst}
use Rattle.std.specs.Prelude.{slice_get, Some, None}
use Rattle.brd_places.specs.Places.{Place}
use Rattle.brd_places.proofs.PlaceLemmas.{left-is, none-there}
use Rattle.brd_places.proofs.places.Places.left.Goals as goal

pub returns : goal.returns
returns c = λ place is.
    let has : slice_get c.self.inside.entries.items c.args.i ≡ Some c.in-Some.entry = cc c.in-Some.ensures in
    left-is c.self.inside.start c.self.inside.entries.items c.args.i c.in-Some.entry place has
    (subst (λ (ps : List Place). slice_get ps c.args.i ≡ Some place) (sym c.self.view_is) is)

pub returns-in_default : goal.returns-in_default
returns-in_default c = λ place is.
    let none : slice_get c.self.inside.entries.items c.args.i ≡ None = cc c.in_default.ensures in
    absurd (none-there c.self.inside.start c.self.inside.entries.items c.args.i place none
    (subst (λ (ps : List Place). slice_get ps c.args.i ≡ Some place) (sym c.self.view_is) is))
