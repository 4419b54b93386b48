use Rattle.brd_reach.proofs.AnswerLemmas.{term-after}
use Rattle.brd_reach.proofs.searching.guard_terms.Goals as goal

pub loop-term-preserved : goal.loop-term-preserved
loop-term-preserved c = record {
  stays = λ address shared. c.guard_term.ensures.stays address (c.loop-term.invariant.stays address shared);
  guarded =
      term-after c.loop-term.sharing c.guard_term.new.sharing c.args.terms.now c.loop-term.term-index _
      c.loop-term.invariant.guarded c.guard_term.ensures.stays c.guard_term.ensures.guarded c.loop-term-test.true;
}
