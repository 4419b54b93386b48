use Rattle.std.proofs.Common.{refl}
use Rattle.std.specs.Prelude.{is_ok}
use Rattle.brd_explore.proofs.ShardLemmas.{sized-kept}
use Rattle.brd_explore.proofs.search.Search.keep.Goals as goal

pub returns-then-is_alike-clause-sized : goal.returns-then-is_alike-clause-sized
returns-then-is_alike-clause-sized c = sized-kept c.args.self.now _ c.args.board (is_ok c.push.result) c.requires
    (record { size = c.is_alike.ensures.sizes c.if-is_alike.true; order = c.is_alike.ensures.orders c.if-is_alike.true })
    refl refl c.push.ensures.items
