use Rattle.std.proofs.Common.{◌≡◌, ◌<◌, sym, subst, ◌∙◌, arith}
use Rattle.brd_rings.proofs.RingLemmas.{Holds, enters-alone, enters-behind, read-head}
use Rattle.brd_rings.proofs.rings.Rings.enter.Goals as goal

pub invariant_of-self : goal.invariant_of-self
invariant_of-self c =
    let held : Holds c.self.inside.heads.items c.self.inside.links.items c.args.self.now = record { linked = c.self.invariant; is = c.self.view_is } in
    (enters-alone c.self.inside.heads.items c.self.inside.links.items c.args.self.now c.args.ring c.args.node held c.requires.within c.ranges.node.fits c.requires.new
    (read-head c.self.inside.heads.items c.self.inside.links.items c.args.self.now c.args.ring _ _ held c.requires.within c.index.ensures c.in-Empty.is)).linked

pub invariant_of-self-in-From : goal.invariant_of-self-in-From
invariant_of-self-in-From c =
    let held : Holds c.self.inside.heads.items c.self.inside.links.items c.args.self.now = record { linked = c.self.invariant; is = c.self.view_is } in
    rw c.link_before.ensures
    (enters-behind c.self.inside.heads.items c.self.inside.links.items c.args.self.now c.args.ring c.args.node c.in-From.head held c.requires.within c.ranges.node.fits c.requires.new
    (read-head c.self.inside.heads.items c.self.inside.links.items c.args.self.now c.args.ring _ _ held c.requires.within c.index.ensures c.in-From.is)).linked

pub returns-in-Empty : goal.returns-in-Empty
returns-in-Empty c =
    let held : Holds c.self.inside.heads.items c.self.inside.links.items c.args.self.now = record { linked = c.self.invariant; is = c.self.view_is } in
    (enters-alone c.self.inside.heads.items c.self.inside.links.items c.args.self.now c.args.ring c.args.node held c.requires.within c.ranges.node.fits c.requires.new
    (read-head c.self.inside.heads.items c.self.inside.links.items c.args.self.now c.args.ring _ _ held c.requires.within c.index.ensures c.in-Empty.is)).is

pub returns-in-From : goal.returns-in-From
returns-in-From c =
    let held : Holds c.self.inside.heads.items c.self.inside.links.items c.args.self.now = record { linked = c.self.invariant; is = c.self.view_is } in
    rw c.link_before.ensures
    (enters-behind c.self.inside.heads.items c.self.inside.links.items c.args.self.now c.args.ring c.args.node c.in-From.head held c.requires.within c.ranges.node.fits c.requires.new
    (read-head c.self.inside.heads.items c.self.inside.links.items c.args.self.now c.args.ring _ _ held c.requires.within c.index.ensures c.in-From.is)).is
