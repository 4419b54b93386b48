use Rattle.std.proofs.Common.{arith}
use Rattle.brd_places.proofs.PlaceLemmas.{length-of}
use Rattle.brd_places.proofs.places.Places.len.Goals as goal

pub returns : goal.returns
returns c = rw (← c.self.view_is) (omega (arith, length-of c.self.inside.start c.self.inside.entries.items))
