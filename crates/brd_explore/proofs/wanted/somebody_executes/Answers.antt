use Rattle.std.proofs.Common.{sym, ap, ◌∙◌, arith}
use Rattle.std.specs.Prelude.{not}
use Rattle.brd_board.specs.declared.event.Event.TheVariants.{Step}
use Rattle.brd_explore.specs.Schedules.{does}
use Rattle.brd_explore.proofs.CommuteLemmas.{executes-does}
use Rattle.brd_explore.proofs.FailureLemmas.{some-found}
use Rattle.brd_explore.proofs.wanted.somebody_executes.Goals as goal

pub returns-then-executes : goal.returns-then-executes
returns-then-executes c = λ yes. ap not (some-found 9 c.loop-cpu.cpu (λ n. does c.args.board.now (Step n)) (omega arith)
    (executes-does c.args.board.now c.loop-cpu.cpu (sym c.executes.ensures ∙ c.if-executes.true)))
