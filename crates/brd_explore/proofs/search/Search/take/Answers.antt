use Rattle.std.proofs.Common.{refl, ap, ◌∙◌}
use Rattle.brd_board.specs.Board.{BoardState}
use Rattle.brd_explore.specs.Schedules.{stepper}
use Rattle.brd_explore.specs.Searching.{place_of}
use Rattle.brd_explore.proofs.SizeLemmas.{sized-moved, none-done, some-done, alike-done, same-place}
use Rattle.brd_explore.proofs.search.Search.take.Goals as goal

pub returns-then-did_nothing-clause-is : goal.returns-then-did_nothing-clause-is
returns-then-did_nothing-clause-is c =
    let none = none-done c.args.self.now.board c.happen-report.new.board c.args.event c.happen-report.result.0 c.did_nothing.result
    c.happen-report.ensures.done c.did_nothing.ensures c.if-did_nothing.true in
    (none.0, ap (λ (b : BoardState). place_of (record c.args.self.now { board = b })) none.1, refl, refl, refl, refl)

pub returns-then-did_nothing-clause-sized : goal.returns-then-did_nothing-clause-sized
returns-then-did_nothing-clause-sized c = sized-moved c.args.self.now _ c.requires
    (alike-done c.args.self.now.board c.happen-report.new.board c.args.event c.happen-report.result.0 c.happen-report.ensures.done) refl refl

pub returns-in_err-push-clause-sized : goal.returns-in_err-push-clause-sized
returns-in_err-push-clause-sized c = sized-moved c.args.self.now _ c.requires
    (alike-done c.args.self.now.board c.happen-report.new.board c.args.event c.happen-report.result.0 c.happen-report.ensures.done) refl refl

pub returns-clause-is : goal.returns-clause-is
returns-clause-is c =
    let did = some-done c.args.self.now.board c.happen-report.new.board c.args.event c.happen-report.result.0 c.did_nothing.result
    c.happen-report.ensures.done c.did_nothing.ensures c.if-did_nothing.false in (
      did.0,
      same-place _ _ _ _ _ _ did.1 c.spent-left.ensures
          (c.stepper-self.ensures ∙ ap (λ (b : BoardState). stepper b c.args.self.now.last c.args.event) did.1),
      refl,
      refl,
      c.in_ok-push.ensures.items,
      c.happen-report.ensures.asleep,
    )

pub returns-clause-sized : goal.returns-clause-sized
returns-clause-sized c = sized-moved c.args.self.now _ c.requires
    (alike-done c.args.self.now.board c.happen-report.new.board c.args.event c.happen-report.result.0 c.happen-report.ensures.done) refl refl
