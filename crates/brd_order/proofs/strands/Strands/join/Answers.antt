use Rattle.std.proofs.lemmas.Result.{on_ok_weaker}
use Rattle.brd_order.specs.Tables.{counts_of}
use Rattle.brd_order.proofs.TableLemmas.{joins-at, counts-elsewhere}
use Rattle.brd_order.proofs.strands.Strands.join.Goals as goal

pub returns-clause-joins : goal.returns-clause-joins
returns-clause-joins c = on_ok_weaker c.join.result
    (λ joins. joins-at c.args.self.now.clocks.items c.args.strand c.index_mut.result.now c.join.new.self
    (counts_of c.args.clock.now)
    c.requires c.index_mut.ensures.value joins)
    c.join.ensures

pub returns-clause-others : goal.returns-clause-others
returns-clause-others c = on_ok_weaker c.join.result
    (λ joins other n t. counts-elsewhere c.args.self.now.clocks.items c.args.strand c.join.new.self other t n)
    c.join.ensures
