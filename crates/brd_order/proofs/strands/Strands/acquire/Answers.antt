use Rattle.std.proofs.lemmas.Result.{on_ok_weaker}
use Rattle.brd_order.specs.Tables.{counts_given}
use Rattle.brd_order.proofs.TableLemmas.{joins-at, counts-elsewhere}
use Rattle.brd_order.proofs.strands.Strands.acquire.Goals as goal

pub returns-clause-joins : goal.returns-clause-joins
returns-clause-joins c = on_ok_weaker c.put_into.result
    (λ joins. joins-at c.args.self.now.clocks.items c.args.strand c.index_mut.result.now c.put_into.new.clock
    (counts_given c.args.things.now.given.entries c.args.thing)
    c.requires c.index_mut.ensures.value joins)
    c.put_into.ensures

pub returns-clause-others : goal.returns-clause-others
returns-clause-others c = on_ok_weaker c.put_into.result
    (λ joins other n t. counts-elsewhere c.args.self.now.clocks.items c.args.strand c.put_into.new.clock other t n)
    c.put_into.ensures
