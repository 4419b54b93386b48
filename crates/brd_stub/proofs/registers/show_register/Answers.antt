use Rattle.brd_stub.specs.Registers.{word_or_unavailable}
use Rattle.brd_stub.proofs.AnswerLemmas.{if-then}
use Rattle.brd_stub.proofs.SizeLemmas.{added-size, register-size}
use Rattle.brd_stub.proofs.registers.show_register.Goals as goal

pub returns-clause-size : goal.returns-clause-size
returns-clause-size c =
    if-then _ _ (λ done is. added-size c.args.out.now.items c.show_word_or_none.new.out.items (word_or_unavailable c.args.order c.register.result) 8 is
    (register-size c.args.order c.register.result)) c.show_word_or_none.result c.show_word_or_none.ensures
