use Rattle.std.proofs.Common.{sym, ap, ◌∙◌, arith}
use Rattle.std.specs.Prelude.{is_some}
use Rattle.brd_board.specs.Board.{fault_of}
use Rattle.brd_explore.proofs.FailureLemmas.{some-none, some-more, some-found}
use Rattle.brd_explore.proofs.wanted.has_fault.Goals as goal

pub loop-cpu-init : goal.loop-cpu-init
loop-cpu-init c = some-none (λ n. is_some (fault_of c.args.board.now n))

pub returns-then-is_some : goal.returns-then-is_some
returns-then-is_some c = sym (some-found 9 c.loop-cpu.cpu (λ n. is_some (fault_of c.args.board.now n)) (omega arith)
    (ap is_some (sym c.last_fault.ensures) ∙ sym c.is_some.ensures ∙ c.if-is_some.true))

pub loop-cpu-preserved : goal.loop-cpu-preserved
loop-cpu-preserved c = some-more c.loop-cpu.cpu (λ n. is_some (fault_of c.args.board.now n)) c.loop-cpu.invariant
    (ap is_some (sym c.last_fault.ensures) ∙ sym c.is_some.ensures ∙ c.if-is_some.false)
