use Rattle.std.proofs.Common.{refl}
use Rattle.brd_order.specs.Tables.{counts_at}
use Rattle.brd_order.proofs.AfterLemmas.{after-acquire}
use Rattle.brd_order.proofs.order.Order.acquire.Goals as goal

pub returns-clause-after : goal.returns-clause-after
returns-clause-after c = λ deeds after. after-acquire deeds c.args.deed c.args.thing c.args.self.now _
    (counts_at c.extend.new.self.clocks.items)
    (counts_at c.acquire.new.self.clocks.items) after c.requires.act c.in_ok-extend.ensures.same
    c.in_ok-acquire.ensures.joins
    c.in_ok-acquire.ensures.others
    (record { puts = c.in_ok-put.ensures.puts; others = c.in_ok-put.ensures.others })
    refl refl refl
    (record { marks = refl; races = refl; words = refl })
