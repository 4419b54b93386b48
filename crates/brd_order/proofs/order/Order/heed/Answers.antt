use Rattle.std.proofs.Common.{refl}
use Rattle.brd_order.specs.Tables.{counts_at, counts_of}
use Rattle.brd_order.proofs.AfterLemmas.{after-heed}
use Rattle.brd_order.proofs.order.Order.heed.Goals as goal

pub returns-clause-after : goal.returns-clause-after
returns-clause-after c = λ deeds after. after-heed deeds c.args.deed c.args.self.now _
    (counts_at c.extend.new.self.clocks.items)
    (counts_at c.join.new.self.clocks.items) (counts_of c.clock-heard.result.now) after c.requires.act
    c.in_ok-extend.ensures.same
    c.in_ok-join.ensures.joins c.in_ok-join.ensures.others
    (record { puts = c.in_ok-put.ensures.puts; others = c.in_ok-put.ensures.others })
    c.in_ok-extend-2.ensures.same c.clock-heard.ensures refl refl (record { marks = refl; races = refl; words = refl })
