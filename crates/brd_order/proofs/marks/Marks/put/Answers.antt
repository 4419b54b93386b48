use Rattle.std.proofs.Common.{arith, sym}
use Rattle.brd_order.proofs.TableLemmas.{comes-in}
use Rattle.brd_order.proofs.marks.Marks.put.Goals as goal

pub returns-then-branch-clause-comes : goal.returns-then-branch-clause-comes
returns-then-branch-clause-comes c = comes-in c.args.self.now.shares.items c.args.mark c.share_of-share.result
    c.index_mut.result.now c.put.new.self
    (sym c.share_of-share.ensures) (omega arith) c.index_mut.ensures.value c.in_ok-put.ensures

pub returns-else-branch-clause-comes : goal.returns-else-branch-clause-comes
returns-else-branch-clause-comes c = comes-in c.args.self.now.shares.items c.args.mark c.share_of-share.result
    c.index_mut.result.now c.put.new.self
    (sym c.share_of-share.ensures) (omega arith) c.index_mut.ensures.value c.in_ok-put.ensures
