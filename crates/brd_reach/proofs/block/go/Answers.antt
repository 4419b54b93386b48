use Rattle.std.proofs.Common.{sym, subst}
use Rattle.std.specs.Prelude.{IfOk}
use Rattle.brd_board.specs.Board.{BoardState}
use Rattle.brd_blocks.specs.Stepping.{AllStandWell}
use Rattle.brd_reach.specs.Rounds.{HasWalked, WentBy, sharing_for}
use Rattle.brd_reach.proofs.WalkLemmas.{idle-leads, off-leads, walk-hidden, walk-none, walk-visible}
use Rattle.brd_reach.proofs.block.go.Goals as goal

pub returns-in-Off : goal.returns-in-Off
returns-in-Off c = λ set.
    let off = c.in-Off.ensures.is set in
    off-leads (sharing_for c.args.sharing.now c.args.wanted.now) c.args.board.now c.args.cpu (c.stands_well.ensures.well c.if-not-stands_well.false) off.0 off.1

pub returns-in-Nothing : goal.returns-in-Nothing
returns-in-Nothing c = λ set.
    let idle = c.in-Nothing.ensures.is set in
    idle-leads (sharing_for c.args.sharing.now c.args.wanted.now) c.args.board.now c.args.board.now c.args.cpu
    (c.stands_well.ensures.well c.if-not-stands_well.false) idle.quiet idle.same

pub returns-in-Accepted : goal.returns-in-Accepted
returns-in-Accepted c = λ set. (
  c.step.ensures.board,
  idle-leads (sharing_for c.args.sharing.now c.args.wanted.now) c.args.board.now c.step.new.board c.args.cpu
      (c.stands_well.ensures.well c.if-not-stands_well.false) (c.in-Accepted.ensures.is set) (sym c.step.ensures.board),
)

pub returns-in-Visible : goal.returns-in-Visible
returns-in-Visible c = λ set.
    walk-visible (sharing_for c.args.sharing.now c.args.wanted.now) c.args.board.now c.args.cpu 0 c.args.board.now c.step.new.board
    (c.stands_well.ensures.well c.if-not-stands_well.false) (walk-none (sharing_for c.args.sharing.now c.args.wanted.now) c.args.board.now c.args.cpu set)
    (c.in-Visible.ensures.is set) c.step.ensures.board

pub returns-in-Invisible : goal.returns-in-Invisible
returns-in-Invisible c = λ set.
    subst (λ (b : BoardState). AllStandWell b c.args.cpu → HasWalked (sharing_for c.args.sharing.now c.args.wanted.now) b c.args.cpu 0 b →
    HasWalked (sharing_for c.args.sharing.now c.args.wanted.now) b c.args.cpu 1 c.step.new.board →
    IfOk c.go_on.result (WentBy (sharing_for c.args.sharing.now c.args.wanted.now) b c.args.cpu c.go_on.new.board)) c.requires c.go_on.ensures
    (c.stands_well.ensures.well c.if-not-stands_well.false) (walk-none (sharing_for c.args.sharing.now c.args.wanted.now) c.args.board.now c.args.cpu set)
    (walk-hidden (sharing_for c.args.sharing.now c.args.wanted.now) c.args.board.now c.args.cpu 0 c.args.board.now c.step.new.board
    (walk-none (sharing_for c.args.sharing.now c.args.wanted.now) c.args.board.now c.args.cpu set) (c.in-Invisible.ensures.is set) c.step.ensures.board)
