use Rattle.std.proofs.Common.{sym, subst}
use Rattle.std.specs.Prelude.{All}
use Rattle.brd_explore.specs.declared.search.Saved.{Saved}
use Rattle.brd_explore.specs.Searching.{AreAlike}
use Rattle.brd_explore.proofs.FindLemmas.{sized-saved}
use Rattle.brd_explore.proofs.search.Search.try_from.Goals as goal

pub returns-in_ok-push-clause-sized : goal.returns-in_ok-push-clause-sized
returns-in_ok-push-clause-sized c = record {
  saved = subst (All (λ (x : Saved). AreAlike x.board c.take.new.self.board)) (sym c.in_ok-push.ensures.items)
      (sized-saved c.args.self.now c.take.new.self _ c.args.saved c.in_ok-done.done c.if-done.true
      c.in_ok-done.ensures.is c.requires.saved.0 c.take.ensures.sized);
  spare = c.take.ensures.sized.spare;
}
