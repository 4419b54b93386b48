use Rattle.std.proofs.Common.{sym, ap, ◌∙◌, arith}
use Rattle.brd_board.specs.Board.{registers_of}
use Rattle.brd_explore.specs.Failures.{is_at}
use Rattle.brd_explore.proofs.FailureLemmas.{some-none, some-more, some-found}
use Rattle.brd_explore.proofs.wanted.some_are_at.Goals as goal

pub loop-cpu-init : goal.loop-cpu-init
loop-cpu-init c = some-none (λ n. is_at c.args.address (registers_of c.args.board.now n))

pub returns-then-is_at : goal.returns-then-is_at
returns-then-is_at c = sym (some-found 9 c.loop-cpu.cpu (λ n. is_at c.args.address (registers_of c.args.board.now n)) (omega arith)
    (ap (is_at c.args.address) (sym c.registers.ensures) ∙ sym c.is_at.ensures ∙ c.if-is_at.true))

pub loop-cpu-preserved : goal.loop-cpu-preserved
loop-cpu-preserved c = some-more c.loop-cpu.cpu (λ n. is_at c.args.address (registers_of c.args.board.now n)) c.loop-cpu.invariant
    (ap (is_at c.args.address) (sym c.registers.ensures) ∙ sym c.is_at.ensures ∙ c.if-is_at.false)
