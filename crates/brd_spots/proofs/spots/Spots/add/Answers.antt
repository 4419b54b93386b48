use Rattle.std.proofs.Common.{◌<◌, List, length, ap, arith}
use Rattle.brd_explore.specs.Schedules.{Place}
use Rattle.brd_places.specs.Places.{place_after}
use Rattle.brd_places.specs.Places as kept
use Rattle.brd_places.specs.declared.left.Left.{Left}
use Rattle.brd_spots.proofs.SpotLemmas.{longer, one-more, spots-length}
use Rattle.brd_spots.proofs.spots.Spots.add.Goals as goal

abbrev nothing : Left
nothing = record { ticks = 0; raises = 0; owed = 0 }

pub invariant_of-self-else-is_err : goal.invariant_of-self-else-is_err
invariant_of-self-else-is_err c =
    let long = spots-length c.self.inside.boards c.self.inside.margins.items c.self.invariant in
    let same = ap (λ (ps : List Place). length ps) c.self.view_is in
    let within : c.args.from < length c.self.inside.boards = omega (arith, c.requires, long, same, c.self.invariant) in
    longer c.self.inside.boards c.add.new.self c.self.inside.margins.items c.push.new.self.items c.args.margin
    c.args.from (λ (place : kept.Place). place_after place.board c.args.event c.args.count nothing) c.add.result
    c.is_err.result c.self.invariant within c.in_ok-push.ensures.items c.add.ensures.ok c.is_err.ensures.value
    c.if-is_err.false

pub returns-clause-ok : goal.returns-clause-ok
returns-clause-ok c = λ p there.
    one-more c.self.inside.boards c.add.new.self c.self.inside.margins.items c.push.new.self.items c.args.self.now
    c.args.margin c.args.from (λ b. place_after b c.args.event c.args.count nothing) c.add.result c.is_err.result p
    c.self.view_is c.self.invariant c.in_ok-push.ensures.items c.add.ensures.ok c.is_err.ensures.value
    c.if-is_err.false there
