use Rattle.std.proofs.Common.{rules, ap, ◌∙◌}
use Rattle.brd_link.specs.LinkSet.{without}
use Rattle.brd_link.proofs.LayoutLemmas.{layout-end, links_of-end}
use Rattle.brd_link.proofs.LinkLemmas.{without_own, without_others}
use Rattle.brd_link.proofs.Links.end.Goals as goal

pub invariant_of-self : goal.invariant_of-self
invariant_of-self c =
    layout-end c.self.inside.addresses c.self.inside.mask c.args.cpu c.self.invariant c.requires.0 c.requires.1 (search rules)

pub returns-clause-links : goal.returns-clause-links
returns-clause-links c =
    links_of-end c.self.inside.addresses c.self.inside.mask c.args.cpu c.self.invariant.eight c.requires.0 c.requires.1 ∙ ap (λ links. without links c.args.cpu) c.self.view_is

pub returns-clause-own : goal.returns-clause-own
returns-clause-own c = without_own _ _ c.args.cpu (returns-clause-links c)

pub returns-clause-others : goal.returns-clause-others
returns-clause-others c = without_others _ _ c.args.cpu (returns-clause-links c)
