use Rattle.std.proofs.Common.{ap, ◌∙◌}
use Rattle.brd_link.specs.LinkSet.{with_link}
use Rattle.brd_link.proofs.LayoutLemmas.{layout-set, links_of-set}
use Rattle.brd_link.proofs.LinkLemmas.{with_link_own, with_link_others}
use Rattle.brd_link.proofs.Links.set.Goals as goal

pub invariant_of-self : goal.invariant_of-self
invariant_of-self c =
    layout-set c.self.inside.addresses c.self.inside.mask c.args.cpu c.args.address c.self.invariant c.requires.0 c.requires.1

pub returns-clause-links : goal.returns-clause-links
returns-clause-links c =
    links_of-set c.self.inside.addresses c.self.inside.mask c.args.cpu c.args.address c.self.invariant.eight c.requires.0 c.requires.1 ∙ ap (λ links. with_link links c.args.cpu c.args.address) c.self.view_is

pub returns-clause-own : goal.returns-clause-own
returns-clause-own c = with_link_own _ _ c.args.cpu c.args.address (returns-clause-links c)

pub returns-clause-others : goal.returns-clause-others
returns-clause-others c = with_link_others _ _ c.args.cpu c.args.address (returns-clause-links c)
