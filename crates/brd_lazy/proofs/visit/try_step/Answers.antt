use Rattle.std.proofs.Common.{◌≡◌, ◌⊎◌, inl, inr, true, false, refl, sym, ap, subst, ◌∙◌, arith}
use Rattle.std.specs.Prelude.{suc}
use Rattle.brd_link.specs.LinkSet.{IsLinkSet}
use Rattle.brd_board.specs.declared.event.Event.TheVariants.{Step}
use Rattle.brd_board.specs.Board.{BoardState, happens}
use Rattle.brd_explore.specs.Schedules.{does}
use Rattle.brd_frames.specs.Reducing.{IsQuiet}
use Rattle.brd_reach.specs.Rounds.{sharing_for}
use Rattle.brd_spots.specs.Spots.{spot_of}
use Rattle.brd_lazy.specs.Blocks.{after_steps, AreHidden, IsBlock}
use Rattle.brd_lazy.specs.Finding.{EndsWithin, WentSo}
use Rattle.brd_lazy.specs.Finds.{with_finds}
use Rattle.brd_lazy.proofs.FindLemmas.{block-leads}
use Rattle.brd_lazy.proofs.visit.try_step.Goals as goal

pub note_block-requires : goal.note_block-requires
note_block-requires c = subst (EndsWithin c.args.margin.left.events) c.in-Ends.is c.in_ok-go.ensures.few

pub returns-then-does_nothing-clause-so : goal.returns-then-does_nothing-clause-so
returns-then-does_nothing-clause-so c = λ here set.
    let by = sharing_for c.args.sharing.now c.args.wanted.now in
    let same = c.in_ok-copy_over.ensures in
    let there = subst (λ (b : BoardState). IsLinkSet b.links) (sym same) set in
    let went = subst (WentSo by c.copy_over.new.board c.args.cpu c.args.margin.left.events c.go.new.board) c.in-Idle.is (c.in_ok-go.ensures.is there) in (
      omega (arith, c.if-cpu-eq0.false),
      omega (arith, c.if-cpu-gt8.false),
      c.stands_well.ensures.well c.if-not-stands_well.false,
      inl (
        subst (λ (b : BoardState). does b (Step c.args.cpu) ≡ false) (went.1 ∙ same) (c.does_nothing.ensures c.if-does_nothing.true),
        subst (λ (b : BoardState). (b.kernel.off ≡ true) ⊎ IsQuiet b (Step c.args.cpu)) same went.0,
      ),
    )

pub returns-in_ok-note_one-in-Alone-clause-so : goal.returns-in_ok-note_one-in-Alone-clause-so
returns-in_ok-note_one-in-Alone-clause-so c = λ here set.
    let by = sharing_for c.args.sharing.now c.args.wanted.now in
    let same = c.in_ok-copy_over.ensures in
    let there = subst (λ (b : BoardState). IsLinkSet b.links) (sym same) set in
    let went = subst (WentSo by c.copy_over.new.board c.args.cpu c.args.margin.left.events c.go.new.board) c.in-Alone.is (c.in_ok-go.ensures.is there) in (
      omega (arith, c.if-cpu-eq0.false),
      omega (arith, c.if-cpu-gt8.false),
      c.stands_well.ensures.well c.if-not-stands_well.false,
      inr (inl (
        subst (λ (b : BoardState). IsQuiet b (Step c.args.cpu)) same went.0,
        λ did. c.in_ok-note_one-in-Alone.ensures.known (spot_of c.args.board.now c.args.margin) here refl
            (went.1 ∙ ap (λ (b : BoardState). (happens b (Step c.args.cpu)).board) same),
      )),
    )

pub returns-in_ok-note_block-in-Ends-clause-so : goal.returns-in_ok-note_block-in-Ends-clause-so
returns-in_ok-note_block-in-Ends-clause-so c = λ here set.
    let by = sharing_for c.args.sharing.now c.args.wanted.now in
    let p = spot_of c.args.board.now c.args.margin in
    let same = c.in_ok-copy_over.ensures in
    let there = subst (λ (b : BoardState). IsLinkSet b.links) (sym same) set in
    let went = subst (WentSo by c.copy_over.new.board c.args.cpu c.args.margin.left.events c.go.new.board) c.in-Ends.is (c.in_ok-go.ensures.is there) in
    let block = subst (λ (b : BoardState). IsBlock by b c.args.cpu c.in-Ends.count) same went.1 in
    let leads = subst (λ (b : BoardState). c.go.new.board ≡ after_steps b c.args.cpu (suc c.in-Ends.count)) same went.2 in (
      omega (arith, c.if-cpu-eq0.false),
      omega (arith, c.if-cpu-gt8.false),
      c.stands_well.ensures.well c.if-not-stands_well.false,
      inr (inr (inl (
        c.in-Ends.count,
        block,
        block-leads by (with_finds c.args.spots.now c.note_block.new.finds.items) p c.args.cpu c.in-Ends.count block
            (c.in_ok-note_block-in-Ends.ensures.known p here refl leads),
      ))),
    )

pub returns-in-Cut-clause-so : goal.returns-in-Cut-clause-so
returns-in-Cut-clause-so c = λ here set.
    let by = sharing_for c.args.sharing.now c.args.wanted.now in
    let same = c.in_ok-copy_over.ensures in
    let there = subst (λ (b : BoardState). IsLinkSet b.links) (sym same) set in (
      omega (arith, c.if-cpu-eq0.false),
      omega (arith, c.if-cpu-gt8.false),
      c.stands_well.ensures.well c.if-not-stands_well.false,
      inr (inr (inr (subst (λ (b : BoardState). AreHidden by b c.args.cpu c.args.margin.left.events) same (subst (WentSo by c.copy_over.new.board c.args.cpu c.args.margin.left.events c.go.new.board) c.in-Cut.is (c.in_ok-go.ensures.is there))))),
    )
