use Rattle.brd_gdb.proofs.StreamLemmas.{one_arrives, outside_after, payload_after}
use Rattle.brd_gdb.proofs.laws.packets_arrive.Goals as goal

pub returns-clause-arrives : goal.returns-clause-arrives
returns-clause-arrives c = one_arrives

pub returns-clause-payload : goal.returns-clause-payload
returns-clause-payload c = payload_after

pub returns-clause-outside : goal.returns-clause-outside
returns-clause-outside c = outside_after
