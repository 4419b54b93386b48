use Rattle.std.proofs.Common.{◌≡◌, subst, arith}
use Rattle.std.specs.Prelude.{replicate}
use Rattle.brd_link.specs.LinkSet.{IsLinkSet}
use Rattle.brd_board.specs.declared.event.Event.TheVariants.{Step}
use Rattle.brd_board.specs.Board.{BoardState, after}
use Rattle.brd_reach.specs.Rounds.{LeadsTo, WentBy, sharing_for}
use Rattle.brd_reach.proofs.RoundLemmas.{leads-tried}
use Rattle.brd_reach.proofs.visit.try_step.Goals as goal

pub returns-in-Stays-clause-so : goal.returns-in-Stays-clause-so
returns-in-Stays-clause-so c = λ among at set.
    let led = subst (λ (b : BoardState). IsLinkSet b.links → LeadsTo (sharing_for c.args.sharing.now c.args.wanted.now) b c.args.cpu b) c.in_ok-copy_over.ensures
    (λ those. subst (WentBy (sharing_for c.args.sharing.now c.args.wanted.now) c.copy_over.new.board c.args.cpu c.go.new.board) c.in-Stays.is (c.in_ok-go.ensures those)) in
    leads-tried (sharing_for c.args.sharing.now c.args.wanted.now) among c.args.places.now c.args.left c.args.board.now c.args.cpu c.args.board.now
    (omega (arith, c.if-cpu-eq0.false)) (omega (arith, c.if-cpu-gt8.false)) (led set) (c.args.at, at)

pub returns-in_ok-note-in-Leads-clause-so : goal.returns-in_ok-note-in-Leads-clause-so
returns-in_ok-note-in-Leads-clause-so c = λ among at set.
    let went = subst (λ (b : BoardState). IsLinkSet b.links → (c.go.new.board ≡ after b (replicate c.in-Leads.count (Step c.args.cpu)))
    × LeadsTo (sharing_for c.args.sharing.now c.args.wanted.now) b c.args.cpu c.go.new.board) c.in_ok-copy_over.ensures
    (λ those. subst (WentBy (sharing_for c.args.sharing.now c.args.wanted.now) c.copy_over.new.board c.args.cpu c.go.new.board) c.in-Leads.is (c.in_ok-go.ensures those)) set in
    leads-tried (sharing_for c.args.sharing.now c.args.wanted.now) among c.note.new.places c.args.left c.args.board.now c.args.cpu c.go.new.board
    (omega (arith, c.if-cpu-eq0.false)) (omega (arith, c.if-cpu-gt8.false)) went.1
    (c.in_ok-note-in-Leads.ensures.there (record { left = c.args.left; board = c.args.board.now }) at went.0)
