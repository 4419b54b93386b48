use Rattle.std.proofs.Common.{length, sym, ap, subst}
use Rattle.brd_explore.specs.Knowing.{AreOver}
use Rattle.brd_explore.proofs.SearchLemmas.{none-over}
use Rattle.brd_explore.proofs.KnownLemmas.{knows-left, over-from, leaves-out, leaves-same, leads-left, less-left}
use Rattle.brd_explore.proofs.search.Search.turn_back.Goals as goal

pub returns-clause-out : goal.returns-clause-out
returns-clause-out c = leaves-out c.args.wanted.now c.args.among.now c.args.self.now c.leave.new.self c.leave.result
    (none-over c.args.wanted.now c.args.among.now c.args.self.now c.requires.rest)
    (leaves-same c.args.self.now c.count.new.self c.leave.new.self c.leave.result c.count.ensures.rest.saved c.count.ensures.rest.path c.leave.ensures.is)

pub returns-clause-on : goal.returns-clause-on
returns-clause-on c = λ from on. leads-left c.args.wanted.now c.args.among.now from c.args.self.now c.leave.new.self c.leave.result
    (leaves-same c.args.self.now c.count.new.self c.leave.new.self c.leave.result c.count.ensures.rest.saved c.count.ensures.rest.path c.leave.ensures.is) on

pub returns-clause-known : goal.returns-clause-known
returns-clause-known c =
    let here = none-over c.args.wanted.now c.args.among.now c.args.self.now c.requires.rest in
    let over = over-from c.args.wanted.now c.args.among.now c.args.self.now c.args.known.now here c.requires.known.pending in
    knows-left c.args.wanted.now c.args.among.now c.args.self.now c.leave.new.self c.leave.new.known c.leave.result here
    (leaves-same c.args.self.now c.count.new.self c.leave.new.self c.leave.result c.count.ensures.rest.saved c.count.ensures.rest.path c.leave.ensures.is)
    (c.leave.ensures.done c.args.wanted.now c.args.among.now c.requires.known.done
    (subst (λ height. AreOver c.args.wanted.now c.args.among.now height c.args.known.now) (sym (ap length c.count.ensures.rest.saved)) over))
    (c.leave.ensures.pending c.args.wanted.now c.args.among.now c.args.self.now c.requires.known.pending)

pub returns-clause-falls : goal.returns-clause-falls
returns-clause-falls c = less-left c.args.among.now c.args.self.now c.leave.new.self c.leave.result
    (leaves-same c.args.self.now c.count.new.self c.leave.new.self c.leave.result c.count.ensures.rest.saved c.count.ensures.rest.path c.leave.ensures.is)
