use Rattle.brd_reach.proofs.AnswerLemmas.{word-after}
use Rattle.brd_reach.proofs.searching.guard_words.Goals as goal

pub loop-address-preserved : goal.loop-address-preserved
loop-address-preserved c = record {
  stays = λ address shared. c.guard_word.ensures.stays address (c.loop-address.invariant.stays address shared);
  guarded =
      word-after c.loop-address.sharing c.guard_word.new.sharing c.args.words.now c.loop-address.address-index _
      c.loop-address.invariant.guarded c.guard_word.ensures.stays c.guard_word.ensures.guarded c.loop-address-test.true;
}
