use Rattle.brd_blocks.specs.Owning.{sharing_of}
use Rattle.brd_reach.proofs.AnswerLemmas.{all-stay}
use Rattle.brd_reach.proofs.searching.guarded_with.Goals as goal

pub returns-clause-guarded : goal.returns-clause-guarded
returns-clause-guarded c =
    all-stay (sharing_of c.in_ok-sharing.sharing) (sharing_of c.guard_words.new.sharing) c.args.wanted.now.failures
    c.guard_words.ensures.stays c.in_ok-sharing.ensures
