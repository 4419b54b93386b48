use Rattle.std.proofs.Common.{sym, ◌∙◌, arith}
use Rattle.brd_board.specs.Board.{registers_of}
use Rattle.brd_only.specs.Only.{is_inside}
use Rattle.brd_explore.proofs.FailureLemmas.{some-none, some-more, some-found}
use Rattle.brd_only.proofs.region.some_are_inside.Goals as goal

pub loop-cpu-init : goal.loop-cpu-init
loop-cpu-init c = some-none (λ n. is_inside c.args.regions.now (registers_of c.args.board.now n))

pub returns-then-is_inside : goal.returns-then-is_inside
returns-then-is_inside c =
    sym (some-found 9 c.loop-cpu.cpu (λ n. is_inside c.args.regions.now (registers_of c.args.board.now n)) (omega arith)
    (sym c.is_inside.ensures ∙ c.if-is_inside.true))

pub loop-cpu-preserved : goal.loop-cpu-preserved
loop-cpu-preserved c =
    some-more c.loop-cpu.cpu (λ n. is_inside c.args.regions.now (registers_of c.args.board.now n)) c.loop-cpu.invariant
    (sym c.is_inside.ensures ∙ c.if-is_inside.false)
