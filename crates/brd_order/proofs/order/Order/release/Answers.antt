use Rattle.std.proofs.Common.{refl}
use Rattle.std.proofs.lemmas.Result.{on_ok_weaker}
use Rattle.brd_order.specs.Tables.{counts_of, counts_at}
use Rattle.brd_order.proofs.AfterLemmas.{after-release}
use Rattle.brd_order.proofs.order.Order.release.Goals as goal

pub returns-clause-after : goal.returns-clause-after
returns-clause-after c = λ deeds after. on_ok_weaker c.give.result
    (λ gives. after-release deeds c.args.deed c.args.thing c.args.self.now _ (counts_at c.extend.new.self.clocks.items)
    (counts_of c.clock.result.now) after
    c.requires.act c.in_ok-extend.ensures.same
    (record { puts = c.in_ok-put.ensures.puts; others = c.in_ok-put.ensures.others })
    c.clock.ensures gives
    refl refl (record { marks = refl; races = refl; words = refl }))
    c.give.ensures.gives
