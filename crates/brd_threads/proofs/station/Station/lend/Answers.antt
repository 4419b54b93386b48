use Rattle.brd_threads.proofs.LeaseLemmas.{lent_is_new}
use Rattle.brd_threads.proofs.station.Station.lend.Goals as goal

pub returns-clause-new : goal.returns-clause-new
returns-clause-new g c = lent_is_new c.self.inside.board c.args.cpu c.lend.result c.lend.ensures
