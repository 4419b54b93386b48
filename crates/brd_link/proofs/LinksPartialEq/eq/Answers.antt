use Rattle.std.proofs.Common.{subst}
use Rattle.brd_link.specs.LinkSet.{IsLinkSet}
use Rattle.brd_link.proofs.LayoutLemmas.{is_link_set}
use Rattle.brd_link.proofs.EqLemmas.{as_pointwise, as_states, by_addresses, by_masks}
use Rattle.brd_link.proofs.LinksPartialEq.eq.Goals as goal

pub returns-then-self-other-clause-same : goal.returns-then-self-other-clause-same
returns-then-self-other-clause-same c =
    by_addresses c.self.inside.addresses c.other.inside.addresses c.self.inside.mask c.other.inside.mask _ _ c.eq.result c.self.invariant c.other.invariant c.self.view_is c.other.view_is c.if-self-other.true c.eq.ensures

pub returns-then-self-other-clause-value : goal.returns-then-self-other-clause-value
returns-then-self-other-clause-value c =
    as_pointwise _ _ _ (returns-then-self-other-clause-same c)

pub returns-then-self-other-clause-by_state : goal.returns-then-self-other-clause-by_state
returns-then-self-other-clause-by_state c =
    as_states _ _ _ (subst IsLinkSet c.self.view_is (is_link_set c.self.inside.addresses c.self.inside.mask c.self.invariant.eight)) (subst IsLinkSet c.other.view_is (is_link_set c.other.inside.addresses c.other.inside.mask c.other.invariant.eight)) (returns-then-self-other-clause-same c)

pub returns-else-self-other-clause-same : goal.returns-else-self-other-clause-same
returns-else-self-other-clause-same c =
    by_masks c.self.inside.addresses c.other.inside.addresses c.self.inside.mask c.other.inside.mask _ _ c.self.invariant c.other.invariant c.self.view_is c.other.view_is c.if-self-other.false

pub returns-else-self-other-clause-value : goal.returns-else-self-other-clause-value
returns-else-self-other-clause-value c =
    as_pointwise _ _ _ (returns-else-self-other-clause-same c)

pub returns-else-self-other-clause-by_state : goal.returns-else-self-other-clause-by_state
returns-else-self-other-clause-by_state c =
    as_states _ _ _ (subst IsLinkSet c.self.view_is (is_link_set c.self.inside.addresses c.self.inside.mask c.self.invariant.eight)) (subst IsLinkSet c.other.view_is (is_link_set c.other.inside.addresses c.other.inside.mask c.other.invariant.eight)) (returns-else-self-other-clause-same c)
