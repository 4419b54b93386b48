use Rattle.brd_rings.proofs.RingLemmas.{Holds, turns-as}
use Rattle.brd_rings.proofs.rings.Rings.rotate.Goals as goal

pub invariant_of-self : goal.invariant_of-self
invariant_of-self c =
    let held : Holds c.self.inside.heads.items c.self.inside.links.items c.args.self.now = record { linked = c.self.invariant; is = c.self.view_is } in
    (turns-as c.self.inside.heads.items c.self.inside.links.items c.args.self.now c.args.ring c.in-From.head c.index.result.now c.index-2.result.now
    held c.requires c.index.ensures c.in-From.is c.index-2.ensures).linked

pub returns : goal.returns
returns c =
    let held : Holds c.self.inside.heads.items c.self.inside.links.items c.args.self.now = record { linked = c.self.invariant; is = c.self.view_is } in
    (turns-as c.self.inside.heads.items c.self.inside.links.items c.args.self.now c.args.ring c.in-From.head c.index.result.now c.index-2.result.now
    held c.requires c.index.ensures c.in-From.is c.index-2.ensures).is
