use Rattle.std.proofs.Common.{length, ap, sym, ◌∙◌}
use Rattle.brd_stub.specs.Registers.{registers_text}
use Rattle.brd_stub.proofs.AnswerLemmas.{if-then}
use Rattle.brd_stub.proofs.SizeLemmas.{added-size, registers-size}
use Rattle.brd_stub.proofs.registers.show_registers.Goals as goal

pub returns-clause-size : goal.returns-clause-size
returns-clause-size c =
    if-then _ _ (λ done is. added-size c.args.out.now.items c.show_context.new.out.items (registers_text c.args.order c.args.context.now c.args.fault c.args.bad) 304 is
    (registers-size c.args.order c.args.context.now c.args.fault c.args.bad (ap length (sym c.registers.ensures.words) ∙ c.registers.ensures.count))) c.show_context.result c.show_context.ensures
