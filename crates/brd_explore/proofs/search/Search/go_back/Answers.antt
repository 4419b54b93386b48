use Rattle.std.specs.Prelude.{Some}
use Rattle.std.proofs.lemmas.List.Elements.{All-pop}
use Rattle.brd_explore.specs.declared.search.Saved.{Saved}
use Rattle.brd_explore.specs.Searching.{AreAlike}
use Rattle.brd_explore.proofs.search.Search.go_back.Goals as goal

pub put_back-requires-clause-sized : goal.put_back-requires-clause-sized
put_back-requires-clause-sized c = record {
  saved = (All-pop (λ (f : Saved). AreAlike f.board c.args.self.now.board) c.args.self.now.saved.items c.pop.new.self.items (Some c.in-Some.saved)
      c.in-Some.ensures.items c.requires.saved).0;
  spare = c.requires.spare;
}

pub put_back-requires-clause-alike : goal.put_back-requires-clause-alike
put_back-requires-clause-alike c = (All-pop (λ (f : Saved). AreAlike f.board c.args.self.now.board) c.args.self.now.saved.items c.pop.new.self.items
    (Some c.in-Some.saved) c.in-Some.ensures.items c.requires.saved).1
