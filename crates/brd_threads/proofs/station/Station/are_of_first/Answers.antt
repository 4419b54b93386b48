use Rattle.std.proofs.Common.{subst}
use Rattle.std.specs.Prelude.{Decides}
use Rattle.brd_threads.specs.Station.{StationState, AreOfFirst}
use Rattle.brd_threads.proofs.StationLemmas.{own_steps}
use Rattle.brd_threads.proofs.station.Station.are_of_first.Goals as goal

pub returns : goal.returns
returns g c =
    subst (λ (station : StationState). Decides c.are_of_first.result (AreOfFirst c.args.processors station)) c.self.view_is
    (own_steps c.self.inside.books c.self.inside.journal.events c.args.processors c.are_of_first.result c.self.invariant.counted c.are_of_first.ensures)
