use Rattle.std.proofs.Common.{◌≡◌, rules}
use Rattle.std.specs.Prelude.{slice_get, Some}
use Rattle.brd_places.proofs.ModelLemmas.{there_same}
use Rattle.brd_places.proofs.places.Places.is_at.Goals as goal

pub returns-clause-is : goal.returns-clause-is
returns-clause-is c =
    let has : Some c.in-Some.entry ≡ slice_get c.self.inside.entries.items c.args.i = cc c.in-Some.ensures in
    let lefts : c.in-Some.entry.left ≡ c.args.left = search rules in
    there_same c.self.inside.start c.args.board.now c.self.inside.entries.items c.args.self.now c.args.i c.in-Some.entry
    c.args.left c.has_board.result c.self.view_is has lefts c.has_board.ensures.is
