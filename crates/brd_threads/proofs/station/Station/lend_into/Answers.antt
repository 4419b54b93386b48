use Rattle.brd_threads.proofs.LeaseLemmas.{lent_new}
use Rattle.brd_threads.proofs.station.Station.lend_into.Goals as goal

pub returns-clause-new : goal.returns-clause-new
returns-clause-new g c lends = lent_new c.self.inside.board c.args.cpu c.lend_into.new.lease (c.lend_into.ensures.lent lends)
