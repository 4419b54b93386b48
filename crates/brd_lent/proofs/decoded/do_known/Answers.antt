use Rattle.std.proofs.Common.{subst}
use Rattle.brd_lent.specs.Plans.{planned, Acts}
use Rattle.brd_lent.proofs.PlanLemmas.{entry-led}
use Rattle.brd_lent.proofs.decoded.do_known.Goals as goal

pub returns-then-act : goal.returns-then-act
returns-then-act c =
    let known = c.args.known.now in
    let s = c.args.context.now in
    entry-led known.entry s known.word c.act.new.context c.requires.right
    (subst (λ done. Acts (planned known.entry s) s done c.act.new.context) c.if-act.true c.act.ensures)
