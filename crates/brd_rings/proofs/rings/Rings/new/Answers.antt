use Rattle.brd_rings.proofs.RingLemmas.{holds-new-as}
use Rattle.brd_rings.proofs.rings.Rings.new.Goals as goal

pub invariant_of-result : goal.invariant_of-result
invariant_of-result c =
    (holds-new-as c.args.count c.in_ok-empty_rings.field-0.items c.in_ok-no_links.field-0.items c.in_ok-empty_rings.ensures c.in_ok-no_links.ensures).linked

pub returns : goal.returns
returns c =
    (holds-new-as c.args.count c.in_ok-empty_rings.field-0.items c.in_ok-no_links.field-0.items c.in_ok-empty_rings.ensures c.in_ok-no_links.ensures).is
