use Rattle.brd_stub.proofs.HitLemmas.{place-of, stop-at}
use Rattle.brd_stub.proofs.laws.moves_stop_at_points.Goals as goal

pub returns : goal.returns
returns c = λ points it boot events position set.
    (place-of points it boot events position set, stop-at points it boot events position set)
