use Rattle.std.proofs.Common.{arith}
use Rattle.std.proofs.lemmas.Option.{slice_get-get_or}
use Rattle.brd_lazy.proofs.FoundLemmas.{settled-next, settled-twin}
use Rattle.brd_lazy.proofs.settle.settle_next.Goals as goal

pub returns-then-next-twins-clause-known : goal.returns-then-next-twins-clause-known
returns-then-next-twins-clause-known c = λ early begun twins settled.
    settled-next early c.args.finds.now c.args.at _ c.args.spots.now c.add_find.new.spots begun c.add_find.ensures.more
    (slice_get-get_or c.args.finds.now c.args.at _ c.requires) settled (λ p there. c.in_ok-add_find.ensures.known p there)

pub returns-then-twins-next-clause-known : goal.returns-then-twins-next-clause-known
returns-then-twins-next-clause-known c = λ early begun twins settled.
    settled-twin early c.args.finds.now c.args.at c.args.spots.now _ c.if-twins-next.true
    (twins c.args.next _ (omega (arith, c.if-next-twins.false))) settled

pub returns-clause-known : goal.returns-clause-known
returns-clause-known c = λ early begun twins settled.
    settled-next early c.args.finds.now c.args.at _ c.args.spots.now c.add_find-2.new.spots begun c.add_find-2.ensures.more
    (slice_get-get_or c.args.finds.now c.args.at _ c.requires) settled (λ p there. c.in_ok-add_find-2.ensures.known p there)
