use Rattle.std.proofs.Common.{arith}
use Rattle.brd_lazy.proofs.FoundLemmas.{alike-so}
use Rattle.brd_lazy.proofs.twins.lead_alike.Goals as goal

pub returns : goal.returns
returns c = λ yes p there.
    alike-so c.args.spots.now c.args.one c.args.other c.lead.new.board c.lead-2.new.board (omega (arith, c.if-one-len.false, c.len.ensures))
    c.in_ok-lead.ensures c.in_ok-lead-2.ensures (c.same.ensures.0 yes) p there
