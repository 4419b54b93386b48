use Rattle.std.proofs.Common.{arith}
use Rattle.brd_spots.proofs.SpotLemmas.{spots-length}
use Rattle.brd_spots.proofs.spots.Spots.len.Goals as goal

pub returns : goal.returns
returns c =
    rw (← c.self.view_is)
    (omega (arith, spots-length c.self.inside.boards c.self.inside.margins.items c.self.invariant))
