use Rattle.std.proofs.Common.{List, subst}
use Rattle.brd_explore.specs.declared.condition.Term.{Term}
use Rattle.brd_blocks.specs.Owning.{sharing_of}
use Rattle.brd_reach.specs.Reaching.{AreSharedTerms}
use Rattle.brd_reach.proofs.AnswerLemmas.{terms-stay}
use Rattle.brd_reach.proofs.searching.guard_condition.Goals as goal

pub returns-clause-guarded : goal.returns-clause-guarded
returns-clause-guarded c = record {
  left =
      terms-stay (sharing_of c.guard_terms.new.sharing) (sharing_of c.guard_terms-2.new.sharing) c.args.condition.now.left
      c.guard_terms-2.ensures.stays
      (subst (λ (ts : List Term). AreSharedTerms (sharing_of c.guard_terms.new.sharing) ts) c.as_slice.ensures c.guard_terms.ensures.guarded);
  right =
      subst (λ (ts : List Term). AreSharedTerms (sharing_of c.guard_terms-2.new.sharing) ts) c.as_slice-2.ensures
      c.guard_terms-2.ensures.guarded;
}
