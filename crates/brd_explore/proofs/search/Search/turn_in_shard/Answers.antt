use Rattle.brd_explore.proofs.KnownLemmas.{leaves-same, less-left}
use Rattle.brd_explore.proofs.ShardLemmas.{leads-same, leaves-here}
use Rattle.brd_explore.proofs.search.Search.turn_in_shard.Goals as goal

pub returns-in_ok-count_for_all-in-None-clause-out : goal.returns-in_ok-count_for_all-in-None-clause-out
returns-in_ok-count_for_all-in-None-clause-out g c = leaves-here c.args.wanted.now c.args.deal c.args.among.now c.args.self.now
    c.turn_from.new.self c.turn_from.result c.in-None.ensures.none
    (leaves-same c.args.self.now c.count_for_all.new.self c.turn_from.new.self c.turn_from.result c.count_for_all.ensures.rest.saved
    c.count_for_all.ensures.rest.path c.turn_from.ensures.is)

pub returns-in_ok-count_for_all-in-None-clause-on : goal.returns-in_ok-count_for_all-in-None-clause-on
returns-in_ok-count_for_all-in-None-clause-on g c = λ from on. leads-same c.args.wanted.now c.args.among.now from c.args.self.now
    c.count_for_all.new.self c.turn_from.new.self c.turn_from.result c.count_for_all.ensures.rest c.turn_from.ensures.is on

pub returns-in_ok-count_for_all-in-None-clause-falls : goal.returns-in_ok-count_for_all-in-None-clause-falls
returns-in_ok-count_for_all-in-None-clause-falls g c = less-left c.args.among.now c.args.self.now c.turn_from.new.self c.turn_from.result
    (leaves-same c.args.self.now c.count_for_all.new.self c.turn_from.new.self c.turn_from.result c.count_for_all.ensures.rest.saved
    c.count_for_all.ensures.rest.path c.turn_from.ensures.is)
