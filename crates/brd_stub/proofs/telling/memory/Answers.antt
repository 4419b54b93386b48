use Rattle.brd_stub.proofs.AnswerLemmas.{if-then}
use Rattle.brd_stub.proofs.SizeLemmas.{memory-size}
use Rattle.brd_stub.proofs.telling.memory.Goals as goal

pub returns-clause-short : goal.returns-clause-short
returns-clause-short c =
    if-then _ _ (λ reply is. memory-size c.args.board.now.memory c.args.address c.args.most reply.items is) c.show_memory.result c.show_memory.ensures
