use Rattle.std.proofs.Common.{refl}
use Rattle.brd_order.specs.Tables.{counts_at}
use Rattle.brd_order.proofs.AfterLemmas.{after-hear}
use Rattle.brd_order.proofs.order.Order.hear.Goals as goal

pub returns-clause-after : goal.returns-clause-after
returns-clause-after c = λ deeds after. after-hear deeds c.args.deed c.args.thing c.args.self.now _
    (counts_at c.extend.new.self.clocks.items)
    (counts_at c.extend-2.new.self.clocks.items) after c.requires.act c.in_ok-extend.ensures.same
    (record { puts = c.in_ok-put.ensures.puts; others = c.in_ok-put.ensures.others })
    c.in_ok-extend-2.ensures.same
    c.in_ok-hear.ensures.hears c.in_ok-hear.ensures.others refl refl
    (record { marks = refl; races = refl; words = refl })
