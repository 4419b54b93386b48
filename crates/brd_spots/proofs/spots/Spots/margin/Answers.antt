use Rattle.std.proofs.Common.{◌≡◌, List, sym, subst, ◌∙◌}
use Rattle.std.specs.Prelude.{slice_get, Some}
use Rattle.std.proofs.lemmas.Option.{get_or_from_slice_get}
use Rattle.brd_explore.specs.Schedules.{Place}
use Rattle.brd_spots.proofs.SpotLemmas.{margin-is, parts}
use Rattle.brd_spots.proofs.spots.Spots.margin.Goals as goal

pub returns-then-i-len : goal.returns-then-i-len
returns-then-i-len c = λ p is.
    let it = parts c.self.inside.boards c.self.inside.margins.items c.args.i p
    (subst (λ (ps : List Place). slice_get ps c.args.i ≡ Some p) (sym c.self.view_is) is) in
    margin-is p it.place it.margin c.index.result.now it.is
    (c.index.ensures ∙ get_or_from_slice_get c.self.inside.margins.items c.args.i it.margin _ it.margin_there)
