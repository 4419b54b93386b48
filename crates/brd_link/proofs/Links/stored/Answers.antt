use Rattle.std.proofs.Common.{rules, ◌≡◌, sym, ap, subst, ◌∙◌, []}
use Rattle.brd_link.specs.LinkSet.{IsLinkSet, after_store}
use Rattle.brd_link.specs.Layout.{links_of}
use Rattle.brd_link.proofs.LayoutLemmas.{IsErased, is_link_set, erased_already, links_of-stored, no_links}
use Rattle.brd_link.proofs.LinkLemmas.{after_store_own, after_store_others}
use Rattle.brd_link.proofs.Links.stored.Goals as goal

-- no links
pub returns-then-self-eq0-clause-links : goal.returns-then-self-eq0-clause-links
returns-then-self-eq0-clause-links c =
    let none : c.args.self.now ≡ [] = sym c.self.view_is ∙ ap (links_of c.self.inside.addresses) c.if-self-eq0.true ∙ no_links c.self.inside.addresses in
    none ∙ ap (λ links. after_store links c.args.cpu c.args.address) (sym none)

pub returns-then-self-eq0-clause-others : goal.returns-then-self-eq0-clause-others
returns-then-self-eq0-clause-others c =
    after_store_others _ _ c.args.cpu c.args.address (subst IsLinkSet c.self.view_is (is_link_set c.self.inside.addresses c.self.inside.mask c.self.invariant.eight)) (returns-then-self-eq0-clause-links c)

-- nothing to erase
pub returns-then-kept-self-clause-links : goal.returns-then-kept-self-clause-links
returns-then-kept-self-clause-links c =
    let same : c.self.inside.mask ≡ c.break_links-kept.result = sym c.if-kept-self.true in
    sym c.self.view_is
    ∙ ap (links_of c.self.inside.addresses) same
    ∙ links_of-stored c.self.inside.addresses c.self.inside.mask c.args.cpu c.args.address c.self.inside.addresses c.break_links-kept.result c.self.invariant.eight c.self.invariant.eight c.requires.0 c.requires.1 c.break_links-kept.ensures (subst (λ mask. IsErased c.self.inside.addresses mask c.self.inside.addresses) same (erased_already c.self.inside.addresses c.self.inside.mask c.self.invariant))
    ∙ ap (λ links. after_store links c.args.cpu c.args.address) c.self.view_is

pub returns-then-kept-self-clause-others : goal.returns-then-kept-self-clause-others
returns-then-kept-self-clause-others c =
    after_store_others _ _ c.args.cpu c.args.address (subst IsLinkSet c.self.view_is (is_link_set c.self.inside.addresses c.self.inside.mask c.self.invariant.eight)) (returns-then-kept-self-clause-links c)

pub returns-clause-links : goal.returns-clause-links
returns-clause-links c =
    links_of-stored c.self.inside.addresses c.self.inside.mask c.args.cpu c.args.address c.erase_unless.new.addresses c.break_links-kept.result c.self.invariant.eight (search rules) c.requires.0 c.requires.1 c.break_links-kept.ensures (record { address = c.erase_unless.ensures })
    ∙ ap (λ links. after_store links c.args.cpu c.args.address) c.self.view_is

pub returns-clause-own : goal.returns-clause-own
returns-clause-own c =
    after_store_own _ _ c.args.cpu c.args.address (subst IsLinkSet c.self.view_is (is_link_set c.self.inside.addresses c.self.inside.mask c.self.invariant.eight)) (returns-clause-links c)

pub returns-clause-others : goal.returns-clause-others
returns-clause-others c =
    after_store_others _ _ c.args.cpu c.args.address (subst IsLinkSet c.self.view_is (is_link_set c.self.inside.addresses c.self.inside.mask c.self.invariant.eight)) (returns-clause-links c)
