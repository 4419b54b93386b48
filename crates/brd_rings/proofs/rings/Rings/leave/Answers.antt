use Rattle.brd_rings.proofs.RingLemmas.{Holds, leaves-as}
use Rattle.brd_rings.proofs.rings.Rings.leave.Goals as goal

pub invariant_of-self : goal.invariant_of-self
invariant_of-self c =
    let held : Holds c.self.inside.heads.items c.self.inside.links.items c.args.self.now = record { linked = c.self.invariant; is = c.self.view_is } in
    (leaves-as c.self.inside.heads.items c.self.inside.links.items c.args.self.now c.args.ring c.args.node c.index.result.now c.head_without.result c.index-2.result.now c.unlink.new.links.items
    held c.requires c.ranges.node.fits c.index.ensures c.index-2.ensures c.head_without.ensures c.unlink.ensures).linked

pub returns : goal.returns
returns c =
    let held : Holds c.self.inside.heads.items c.self.inside.links.items c.args.self.now = record { linked = c.self.invariant; is = c.self.view_is } in
    (leaves-as c.self.inside.heads.items c.self.inside.links.items c.args.self.now c.args.ring c.args.node c.index.result.now c.head_without.result c.index-2.result.now c.unlink.new.links.items
    held c.requires c.ranges.node.fits c.index.ensures c.index-2.ensures c.head_without.ensures c.unlink.ensures).is
