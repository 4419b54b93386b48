use Rattle.std.proofs.Common.{refl}
use Rattle.std.proofs.lemmas.Result.{on_ok_weaker}
use Rattle.brd_order.specs.Tables.{counts_of, counts_at}
use Rattle.brd_order.proofs.AfterLemmas.{after-touch}
use Rattle.brd_order.proofs.order.Order.touch.Goals as goal

pub returns-clause-after : goal.returns-clause-after
returns-clause-after c = λ deeds after. on_ok_weaker c.put-2.result
    (λ comes. after-touch deeds c.args.new c.args.self.now _ (counts_at c.extend.new.self.clocks.items)
    (counts_of c.clock.result.now) c.last_unknown-found.result
    after c.requires.at c.in_ok-extend.ensures.same
    (record { puts = c.in_ok-put.ensures.puts; others = c.in_ok-put.ensures.others })
    c.clock.ensures
    c.last_unknown-found.ensures (c.in_ok-tell.ensures.tells after.words) (c.in_ok-tell.ensures.words after.words) comes
    refl refl refl)
    c.put-2.ensures.comes
