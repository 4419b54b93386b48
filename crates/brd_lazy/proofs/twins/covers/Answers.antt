use Rattle.brd_lazy.proofs.FoundLemmas.{covers-so}
use Rattle.brd_lazy.proofs.twins.covers.Goals as goal

pub returns : goal.returns
returns c =
    covers-so c.args.spots.now c.args.one c.args.other c.lead_alike.result c.lead_alike.ensures (c.is_enough.ensures c.if-not-is_enough.false)
