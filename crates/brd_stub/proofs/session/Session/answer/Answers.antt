use Rattle.brd_stub.proofs.AnswerLemmas.{if-four}
use Rattle.brd_stub.proofs.session.Session.answer.Goals as goal

pub returns-clause-answers : goal.returns-clause-answers
returns-clause-answers g c =
    if-four _ _ _ _ _ (λ a reads becomes says short. record {
      reads = reads;
      becomes = becomes;
      says = says;
      short =
          short;
    })
    c.answered.result c.answered.ensures.reads c.answered.ensures.becomes c.answered.ensures.says
    c.answered.ensures.short
