use Rattle.std.proofs.Common.{◌≡◌, sym, ap, subst, ◌∙◌}
use Rattle.std.specs.Prelude.{IfOk, Some}
use Rattle.brd_reach.specs.Rounds.{sharing_for}
use Rattle.brd_spots.specs.Spots.{spot_of}
use Rattle.brd_lazy.specs.Finding.{VisitedSo}
use Rattle.brd_lazy.specs.Finds.{with_finds}
use Rattle.brd_lazy.proofs.FoundLemmas.{visited}
use Rattle.brd_lazy.proofs.visit.visit.Goals as goal

pub returns-clause-so : goal.returns-clause-so
returns-clause-so c = λ p is.
    let by = sharing_for c.args.sharing.now c.args.wanted.now in
    let seen = with_finds c.args.spots.now c.try_all.new.finds.items in
    let same : spot_of c.put.new.board c.in-Some.margin ≡ p = ap (λ b. spot_of b c.in-Some.margin) (c.in_ok-put.ensures p is) ∙ c.in-Some.ensures p is in
    subst (λ q. IfOk c.try_all.result (VisitedSo by c.args.among.now c.args.wanted.now seen q)) same
    (visited by c.args.among.now c.args.wanted.now seen (spot_of c.put.new.board c.in-Some.margin) c.try_all.result
    (sym c.in_ok-fails_at.ensures ∙ c.if-branch.false)
    (c.try_all.ensures.so (is ∙ ap Some (sym same))))
