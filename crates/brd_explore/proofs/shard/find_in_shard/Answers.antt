use Rattle.std.proofs.Common.{subst, sym, ◌∙◌, Vec, Global}
use Rattle.std.specs.Prelude.{option_map}
use Rattle.brd_board.specs.declared.event.Event.{Event}
use Rattle.brd_explore.specs.Schedules.{start}
use Rattle.brd_explore.specs.Shards.{AnswersInShard}
use Rattle.brd_explore.proofs.ShardLemmas.{finds-in-shard, in-one}
use Rattle.brd_explore.proofs.shard.find_in_shard.Goals as goal

pub returns-then-shard-eq1-clause-is : goal.returns-then-shard-eq1-clause-is
returns-then-shard-eq1-clause-is g c = in-one c.args.wanted.now c.args.shard c.args.among.now (start c.args.board.now c.args.bounds)
    c.find.result c.find.ensures.is

pub returns-clause-is : goal.returns-clause-is
returns-clause-is g c =
    let found = option_map (λ (v : Vec Event Global). v.items) c.into_found.result.schedule in
    let from = start c.args.board.now c.args.bounds in
    subst (λ shard. AnswersInShard c.args.wanted.now shard c.args.among.now from found) c.new-deal.ensures.shard
    (finds-in-shard c.args.wanted.now c.new-deal.result c.args.among.now from c.in_ok-search.search c.run_in_shard.new.self
    c.in_ok-found.found found
    c.in_ok-search.ensures.begins (sym c.in_ok-fails_at.ensures ∙ c.if-branch.false) c.new-deal.ensures.least c.in_ok-found.ensures.out c.in_ok-found.ensures.on
    c.into_found.ensures)
