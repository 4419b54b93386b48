use Rattle.std.proofs.Common.{◌≡◌, refl, ap, subst, ◌∙◌, arith}
use Rattle.std.specs.Prelude.{true, false, not}
use Rattle.brd_board.specs.declared.event.Event.TheVariants.{Step}
use Rattle.brd_board.specs.Board.{BoardState}
use Rattle.brd_explore.specs.Schedules.{does}
use Rattle.brd_explore.proofs.FailureLemmas.{some-none, some-more, some-found}
use Rattle.brd_explore.proofs.SizeLemmas.{none-done, some-done}
use Rattle.brd_explore.proofs.wanted.somebody_goes.Goals as goal

pub loop-cpu-init : goal.loop-cpu-init
loop-cpu-init c = record { board = refl; none = some-none (λ n. does c.args.board.now (Step n)) }

pub returns-then-not-did_nothing : goal.returns-then-not-did_nothing
returns-then-not-did_nothing c =
    let did = some-done c.loop-cpu.board c.event_apart.new.self (Step c.loop-cpu.cpu) c.event_apart.result c.did_nothing.result
    c.event_apart.ensures c.did_nothing.ensures c.if-not-did_nothing.true in
    ap not (some-found 9 c.loop-cpu.cpu (λ n. does c.args.board.now (Step n)) (omega arith)
    (subst (λ (b : BoardState). does b (Step c.loop-cpu.cpu) ≡ true) c.loop-cpu.invariant.board did.0))

pub loop-cpu-preserved : goal.loop-cpu-preserved
loop-cpu-preserved c =
    let none = none-done c.loop-cpu.board c.event_apart.new.self (Step c.loop-cpu.cpu) c.event_apart.result c.did_nothing.result
    c.event_apart.ensures c.did_nothing.ensures c.if-not-did_nothing.false in
    record {
      board = none.1 ∙ c.loop-cpu.invariant.board;
      none = some-more c.loop-cpu.cpu (λ n. does c.args.board.now (Step n)) c.loop-cpu.invariant.none
          (subst (λ (b : BoardState). does b (Step c.loop-cpu.cpu) ≡ false) c.loop-cpu.invariant.board none.0);
    }
