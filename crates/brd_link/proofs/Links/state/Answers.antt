use Rattle.std.proofs.Common.{sym, ap, subst, ◌∙◌}
use Rattle.brd_link.specs.LinkSet.{IsLinkSet, linked_address}
use Rattle.brd_link.proofs.LayoutLemmas.{is_link_set, none_at, some_at}
use Rattle.brd_link.proofs.LinkLemmas.{pairs_of_state}
use Rattle.brd_link.proofs.Links.state.Goals as goal

pub returns-then-self-index-eq0-clause-address : goal.returns-then-self-index-eq0-clause-address
returns-then-self-index-eq0-clause-address c =
    sym (none_at c.self.inside.addresses c.self.inside.mask c.args.cpu c.self.invariant.eight c.requires.0 c.requires.1 c.if-self-index-eq0.true) ∙ ap (λ links. linked_address links c.args.cpu) c.self.view_is

pub returns-then-self-index-eq0-clause-ordered : goal.returns-then-self-index-eq0-clause-ordered
returns-then-self-index-eq0-clause-ordered c =
    subst IsLinkSet c.self.view_is (is_link_set c.self.inside.addresses c.self.inside.mask c.self.invariant.eight)

pub returns-then-self-index-eq0-clause-pair : goal.returns-then-self-index-eq0-clause-pair
returns-then-self-index-eq0-clause-pair c =
    pairs_of_state c.args.self.now c.args.cpu _ (returns-then-self-index-eq0-clause-ordered c) (returns-then-self-index-eq0-clause-address c)

pub returns-clause-address : goal.returns-clause-address
returns-clause-address c =
    sym (some_at c.self.inside.addresses c.self.inside.mask c.args.cpu c.self.invariant.eight c.requires.0 c.requires.1 c.if-self-index-eq0.false) ∙ ap (λ links. linked_address links c.args.cpu) c.self.view_is

pub returns-clause-ordered : goal.returns-clause-ordered
returns-clause-ordered c =
    subst IsLinkSet c.self.view_is (is_link_set c.self.inside.addresses c.self.inside.mask c.self.invariant.eight)

pub returns-clause-pair : goal.returns-clause-pair
returns-clause-pair c =
    pairs_of_state c.args.self.now c.args.cpu _ (returns-clause-ordered c) (returns-clause-address c)
